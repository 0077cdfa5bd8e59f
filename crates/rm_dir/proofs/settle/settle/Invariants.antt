use Rattle.std.proofs.Common.{◌-◌, ◌^◌}
use Rattle.rm_dir.proofs.Settles.{IsSettledTo}
use Rattle.rm_dir.proofs.settle.settle.Given as goal

abbrev pub invariant-loop-number : goal.invariant-loop-number
invariant-loop-number l = IsSettledTo l.fn.rows l.rows l.fn.given l.so_far.given l.so_far.changed l.at

abbrev pub decreases-loop-number : goal.decreases-loop-number
decreases-loop-number l = 2 ^ 32 - l.at
