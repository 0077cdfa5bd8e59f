use Rattle.std.proofs.Common.{◌-◌, ◌^◌}
use Rattle.rm_alarm.specs.Due.{due_at}
use Rattle.rm_acts.proofs.NextDueLaws.{IsNextTo}
use Rattle.rm_alarm.proofs.due.earliest.Given as goal

-- it is the next sample of the alarms so far
abbrev pub invariant-loop-index : goal.invariant-loop-index
invariant-loop-index l = IsNextTo (due_at l.rows) l.last l.next

abbrev pub decreases-loop-index : goal.decreases-loop-index
decreases-loop-index l = 2 ^ 32 - l.last
