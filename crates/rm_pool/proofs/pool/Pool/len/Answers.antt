use Rattle.std.proofs.Common.{◌≤◌, List, length, subst}
use Rattle.rm_pool.specs.declared.slot.Slot.{Slot}
use Rattle.rm_pool.specs.Pools.{in_use}
use Rattle.rm_pool.specs.Slots.{kept}
use Rattle.rm_pool.proofs.Spares.{used_fit}
use Rattle.rm_pool.proofs.pool.Pool.len.Goals as goal

pub returns-clause-used : goal.returns-clause-used
returns-clause-used g c = subst (λ (l : List (Slot g.row.P.Denot)). in_use l ≤ length l) c.self.view_is (used_fit (kept c.self.inside.slots) c.self.invariant)
