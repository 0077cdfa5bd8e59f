-- What an answer says of a datagram.
use Rattle.std.proofs.Common.{◌≡◌, ℕ, true, List, refl, sym, ap}
use Rattle.rm_model.specs.Journal.{Journal}
use Rattle.rm_pdu.specs.Parse.{Parse, IsParse}
use Rattle.rm_settings.specs.declared.settings.Settings.{Settings}
use Rattle.rm_agent.specs.declared.answer.Answer.{Answer}
use Rattle.rm_agent.specs.declared.answer.Answer.TheVariants.{Reply, Drop}
use Rattle.rm_agent.specs.Answers.{reason_for, reason_in, IsReplied}
use Rattle.rm_probe.specs.Said.{Replied, response_of}
use Rattle.rm_probe.specs.Text.{IsAnswered, dropped, replied}

pub is_answered : (settings : Settings) (journal : Journal) (moment : ℕ) (datagram : List ℕ) (v : Parse) (answer : Answer) (out : List ℕ) (after : Journal) → IsParse true datagram v
    → reason_in answer ≡ reason_for settings v → IsReplied settings journal moment datagram answer out after → IsAnswered settings journal moment datagram (response_of answer out) after
is_answered settings journal moment datagram v (Drop reason) out after is why stays = dropped v reason is (sym why) refl stays
is_answered settings journal moment datagram v (Reply count) out after is why (request, reply, parse, none, lawful, long, octets) =
    replied request reply parse none lawful (ap Replied octets)
