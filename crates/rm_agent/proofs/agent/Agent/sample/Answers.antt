use Rattle.std.proofs.Common.{ℕ, ◌+◌, ◌%◌, ◌^◌, Option, refl, sym, subst, ◌∙◌, arith}
use Rattle.rm_agent.specs.Known.{counting_by}
use Rattle.rm_agent.specs.Notifications.{count_notifications, notification_of}
use Rattle.rm_agent.specs.Agent.{sample_of, IsWritten}
use Rattle.rm_agent.proofs.CountLemmas.{counts_one, counts_none, finished, unsent}
use Rattle.rm_agent.proofs.GroupDues.{have_ended}
use Rattle.rm_agent.proofs.SampleLemmas.{has_sampled, next_number}
use Rattle.rm_agent.proofs.agent.Agent.sample.Goals as goal

pub returns-in_err-draft-clause-sampled : goal.returns-in_err-draft-clause-sampled
returns-in_err-draft-clause-sampled c journal stands next =
    let counting = counting_by c.args.self.now.settings in
    let act = sample_of c.args.self.now.settings journal c.args.moment c.args.alarm in
    let taken = c.take-taken.ensures.taken counting journal (rw c.deref_mut.ensures.value stands.groups) (stands.orderly.timely c.args.alarm c.args.moment next.0) next.0 in
    let none = sym c.in_err-draft.was ∙ c.notification.ensures counting journal (count_notifications counting journal + 1) (rw c.deref.ensures taken) (next_number (count_notifications counting journal) c.args.self.now.notifications stands.notifications) in
    has_sampled c.args.self.now _ journal c.args.moment c.args.alarm _ c.args.note.now stands next taken.stands refl (omega (arith, c.max-self.ensures))
    (counts_none counting act journal (count_notifications counting journal + 1) c.args.self.now.notifications none stands.notifications)
    (subst (λ (count : Option ℕ). IsWritten (notification_of counting act journal) count c.args.note.now) (sym c.from_residual.ensures) (unsent (notification_of counting act journal) c.args.note.now none))

pub returns-clause-sampled : goal.returns-clause-sampled
returns-clause-sampled c journal stands next =
    let counting = counting_by c.args.self.now.settings in
    let act = sample_of c.args.self.now.settings journal c.args.moment c.args.alarm in
    let taken = c.take-taken.ensures.taken counting journal (rw c.deref_mut.ensures.value stands.groups) (stands.orderly.timely c.args.alarm c.args.moment next.0) next.0 in
    let made = sym c.in_ok-draft.was ∙ c.notification.ensures counting journal (count_notifications counting journal + 1) (rw c.deref.ensures taken) (next_number (count_notifications counting journal) c.args.self.now.notifications stands.notifications) in
    has_sampled c.args.self.now _ journal c.args.moment c.args.alarm _ _ stands next taken.stands refl (omega (arith, c.max-self.ensures))
    (counts_one counting act journal (count_notifications counting journal + 1) c.args.self.now.notifications ((c.args.self.now.notifications + 1) % 2 ^ 31) c.in_ok-draft.draft made stands.notifications refl)
    (finished (notification_of counting act journal) c.in_ok-draft.draft c.finish.result c.args.note.now c.finish.new.out made c.finish.ensures.count c.finish.ensures.written)

pub returns-in_err-draft-clause-ended : goal.returns-in_err-draft-clause-ended
returns-in_err-draft-clause-ended c = have_ended c.take-taken.new.groups c.args.moment c.take-taken.ensures.askable

pub returns-clause-ended : goal.returns-clause-ended
returns-clause-ended c = have_ended c.take-taken.new.groups c.args.moment c.take-taken.ensures.askable
