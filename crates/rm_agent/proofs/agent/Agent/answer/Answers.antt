use Rattle.std.proofs.Common.{◌≡◌, ℕ, ◌≤◌, ◌%◌, ◌^◌, Bool, true, if◌then◌else◌, Option, Some, None, length, sym, ap, subst, ◌∙◌, arith}
use Rattle.rm_pdu.specs.Message.{message_octets}
use Rattle.rm_pdu.specs.Parse.{message}
use Rattle.rm_agent.specs.declared.answer.Reason.{Reason}
use Rattle.rm_agent.specs.declared.answer.Reason.TheVariants.{Community}
use Rattle.rm_settings.specs.Communities.{is_known, may_write}
use Rattle.rm_agent.specs.Known.{counting_by}
use Rattle.rm_agent.specs.Groups.{cells, objects, alone, together, Reserves}
use Rattle.rm_reply.specs.Responses.{IsReplyBy}
use Rattle.rm_agent.specs.Answers.{reason_for, IsGrantedAfter}
use Rattle.rm_agent.proofs.Written.{written}
use Rattle.rm_agent.proofs.CountLemmas.{same_count}
use Rattle.rm_reply.proofs.Granted.{stood_for}
use Rattle.rm_reply.proofs.ReadLemmas.{read_one}
use Rattle.rm_agent.proofs.RepliesOrderly.{reply_orderly}
use Rattle.rm_agent.proofs.agent.Agent.answer.Goals as goal

pub respond-draft-requires-clause-asked : goal.respond-draft-requires-clause-asked
respond-draft-requires-clause-asked c =
    let (v, is_parse, answers) = c.in-Ok.ensures.parse in
    let read = read_one c.args.datagram.now c.in-Ok.message c.read_message.new.into v is_parse answers in
    let known = c.is_known.ensures.short c.if-not-is_known.false in
    let (few, spelled, is_request) = read.parse in
    (read.request, record { told = read.is_told; short = omega (arith, known, ap length read.is_told.community) }, is_request)

pub returns-clause-reply : goal.returns-clause-reply
returns-clause-reply c journal stands =
    let settings = c.args.self.now.settings in
    let (v, is_parse, answers) = c.in-Ok.ensures.parse in
    let read = read_one c.args.datagram.now c.in-Ok.message c.read_message.new.into v is_parse answers in
    let m = read.request in
    let known = c.is_known.ensures.short c.if-not-is_known.false in
    let known_m : is_known settings m.community ≡ true = ap (is_known settings) (sym read.is_told.community) ∙ sym c.is_known.ensures.known ∙ c.if-not-is_known.false in
    let why : reason_for settings (message m) ≡ None = ap (λ (b : Bool). let reason : Option Reason = (if b then None else Some Community) in reason) known_m in
    let short : length m.community ≤ 127 = omega (arith, known, ap length read.is_told.community) in
    let (after, stood, moment, (reply, by, drafted_so)) = c.respond-draft.ensures.reply (counting_by settings) journal m (rw c.deref_mut-2.ensures.value (c.end_by.ensures.stands (counting_by settings) journal (rw c.deref_mut.ensures.value stands.groups))) (omega (arith, stands.last, c.requires)) (rw c.deref_mut-2.ensures.value c.end_by.ensures.askable) (record { told = read.is_told; short = short }) in
    let may : c.may_write-may_write.result ≡ may_write settings m.community = c.may_write-may_write.ensures ∙ ap (may_write settings) read.is_told.community in
    let is = subst (λ (b : Bool). IsReplyBy (cells settings journal c.args.now) objects alone (together settings journal c.args.now) (Reserves journal) b c.args.now journal m.kind m reply after) may by in
    let counted = same_count (counting_by settings) (cells settings journal c.args.now) objects alone (together settings journal c.args.now) (Reserves journal) (may_write settings m.community) c.args.now journal m.kind m reply after is in (
      after,
      λ none. record {
        groups = stood;
        last = moment;
        orderly = reply_orderly settings journal c.args.now stands.orderly none m.kind (may_write settings m.community) m reply after is;
        notifications = stands.notifications ∙ ap (λ (n : ℕ). n % 2 ^ 31) (sym counted);
      },
      (m, reply, read.parse, why, is, c.finish.ensures.count reply drafted_so, written c.finish.result (message_octets reply) _ _ (c.finish.ensures.count reply drafted_so) (c.finish.ensures.written reply drafted_so)),
    )

pub returns-clause-storage : goal.returns-clause-storage
returns-clause-storage c journal stands none =
    let settings = c.args.self.now.settings in
    let (after, stood, (m, reply, parse, why, is, count, octets)) = returns-clause-reply c journal stands in
    let granted = c.granted_or_denied.ensures (counting_by settings) journal c.args.now (may_write settings m.community) m reply after is in
    (m, reply, parse, why, stood_for (IsGrantedAfter settings journal c.args.now m) (Reserves journal) journal m reply after _ (stood none) granted, count, octets)
