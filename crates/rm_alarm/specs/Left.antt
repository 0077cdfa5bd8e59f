-- The samples that fall due, and how many are left to take up to a moment, at most.
use Rattle.std.proofs.Common.{arith}
use Rattle.std.specs.Prelude.{◌≡◌, ◌↔◌, ℕ, zero, suc, ◌+◌, ◌-◌, Option, Some, None}
use Rattle.rm_group.specs.Due.{HaveEnded}
use Rattle.rm_group.specs.declared.due.Due.{Due}
use Rattle.rm_alarm.specs.declared.alarms.Alarms.{Alarms}
use Rattle.rm_alarm.specs.Group.{due_in}

-- the sum of a number of each alarm below one
unfoldable pub sum_below : (ℕ → ℕ) → ℕ → ℕ
sum_below each zero = 0
sum_below each (suc alarm) = each alarm + sum_below each alarm

-- how many milliseconds there are from the one in which a sample is due to the latest one, both counted
abbrev pub span_to : ℕ → Option ℕ → ℕ
span_to latest None = 0
span_to latest (Some due) = latest + 1 - due

-- A bound of how many samples are left up to a moment: of each alarm the milliseconds from its next sample to that moment, in
-- each of which it takes one sample at most. Each sample that is taken makes it less.
abbrev pub samples_left : Alarms → ℕ → ℕ
samples_left alarms latest = sum_below (λ alarm. span_to latest (due_in alarms alarm)) 65536

-- what falls due is the next sample of an alarm: samples are of kind 1, and each has the number of its alarm
abbrev pub IsSampleDue : Alarms → Due → Type 0
IsSampleDue alarms due = (due.kind ≡ 1) × (due_in alarms due.number ≡ Some due.moment)

-- samples are no ends: nothing of an alarm ends by itself
pub none_ends : (alarms : Alarms) (moment : ℕ) → Unit {0} ↔ HaveEnded (IsSampleDue alarms) moment
none_ends alarms moment = (λ _ due is below. absurd (omega (arith, is.0)), λ _. tt)
