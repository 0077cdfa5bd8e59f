use Rattle.std.proofs.Common.{◌-◌, ◌^◌}
use Rattle.rm_dir.proofs.InSlots.{ArePutInTo}
use Rattle.rm_dir.proofs.slots.put_in_all.Given as goal

abbrev pub invariant-loop-number : goal.invariant-loop-number
invariant-loop-number l = ArePutInTo l.rows l.initial.protocols l.protocols l.at

abbrev pub decreases-loop-number : goal.decreases-loop-number
decreases-loop-number l = 2 ^ 32 - l.at
