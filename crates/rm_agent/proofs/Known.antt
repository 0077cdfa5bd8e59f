-- What isn't dropped has a community that is known, and that is short.
use Rattle.std.proofs.Common.{◌≡◌, ◌≤◌, ℕ, Bool, true, false, ◌||◌, if◌then◌else◌, List, length, Some, None, refl, ap, arith, bytes_eq}
use Rattle.std.proofs.lemmas.Slice.Eq.{bytes_eq-Decides}
use Rattle.rm_pdu.specs.Message.{Message}
use Rattle.rm_pdu.specs.Parse.{message}
use Rattle.rm_settings.specs.declared.settings.Settings.{Settings}
use Rattle.rm_agent.specs.declared.answer.Reason.TheVariants.{Community}
use Rattle.rm_settings.specs.Communities.{is_known}
use Rattle.rm_agent.specs.Answers.{reason_for}

known_short : (settings : Settings) (community : List ℕ) → is_known settings community ≡ true → length community ≤ 64
known_short settings community known = of_tests (bytes_eq community settings.read.items) (bytes_eq community settings.write.items) refl refl known
  where
    of_tests : (read write : Bool) → bytes_eq community settings.read.items ≡ read → bytes_eq community settings.write.items ≡ write → (read || write) ≡ true → length community ≤ 64
    of_tests true write is _ _ = let same = ap length ((bytes_eq-Decides community settings.read.items).0 is) in omega (arith, same, settings.read_high)
    of_tests false true _ is _ = let same = ap length ((bytes_eq-Decides community settings.write.items).0 is) in omega (arith, same, settings.write_high)
    of_tests false false _ _ none = absurd cc

-- what isn't dropped has a known community
not_dropped : (known : Bool) → (if known then None else Some Community) ≡ None → known ≡ true
not_dropped true is = refl
not_dropped false is = absurd cc

pub answered_short : (settings : Settings) (request : Message) → reason_for settings (message request) ≡ None → length request.community ≤ 127
answered_short settings request answered =
    let known = not_dropped (is_known settings request.community) answered in
    omega (arith, known_short settings request.community known)
