use Rattle.std.proofs.Common.{◌+◌, ◌≤◌}
use Rattle.rm_ether.proofs.Begins.{IsBegunTo}
use Rattle.rm_ether.proofs.ether.Ether.new.Given as goal

abbrev pub invariant-loop-number : goal.invariant-loop-number
invariant-loop-number l = record { begun : IsBegunTo l.number l.rows; within : l.number ≤ l.fn.interfaces + 1 }
