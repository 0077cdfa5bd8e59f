use Rattle.std.proofs.Common.{ℕ, Option, subst}
use Rattle.rm_acts.specs.Alarms.{IsNextDue}
use Rattle.rm_alarm.specs.Group.{due_in}
use Rattle.rm_alarm.proofs.Dues.{sample_due, no_sample_due}
use Rattle.rm_alarm.proofs.due.AlarmsFallsDue.next_due.Goals as goal

pub returns-in-Some : goal.returns-in-Some
returns-in-Some c =
    sample_due (due_in c.args.self.now) c.in-Some.moment c.in-Some.number (subst (λ (next : Option (ℕ × ℕ)). IsNextDue (due_in c.args.self.now) next) c.in-Some.is c.args.self.now.nearest)

pub returns-in-None : goal.returns-in-None
returns-in-None c = no_sample_due (due_in c.args.self.now) (subst (λ (next : Option (ℕ × ℕ)). IsNextDue (due_in c.args.self.now) next) c.in-None.is c.args.self.now.nearest)
