use Rattle.std.proofs.Common.{◌^◌, ◌-◌, ◌≤◌}
use Rattle.rm_pool.specs.Follow.{AreBegun}
use Rattle.rm_pool.specs.Pools.{valid_in}
use Rattle.rm_pool.proofs.pool.Pool.begin_each.Given as goal

abbrev pub invariant-loop-index : goal.invariant-loop-index
invariant-loop-index g l = record {
  begun : AreBegun (valid_in l.rows) (g.B.Begin.begun l.how) l.fn.self l.self l.last;
  within : l.last ≤ 2 ^ 32;
}

abbrev pub decreases-loop-index : goal.decreases-loop-index
decreases-loop-index g l = 2 ^ 32 - l.last
