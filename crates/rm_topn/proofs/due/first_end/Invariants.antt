use Rattle.std.proofs.Common.{◌-◌, ◌^◌}
use Rattle.rm_group.specs.Due.{IsFirst}
use Rattle.rm_topn.proofs.Dues.{IsEndTo}
use Rattle.rm_topn.proofs.due.first_end.Given as goal

-- it is the first end of the rows so far
abbrev pub invariant-loop-row : goal.invariant-loop-row
invariant-loop-row l = IsFirst (IsEndTo l.courses l.last) l.next

abbrev pub decreases-loop-row : goal.decreases-loop-row
decreases-loop-row l = 2 ^ 32 - l.last
