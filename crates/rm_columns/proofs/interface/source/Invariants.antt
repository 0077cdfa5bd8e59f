use Rattle.std.proofs.Common.{ℕ, ◌≤◌, ◌<◌}
use Rattle.rm_val.specs.Val.{name}
use Rattle.rm_model.specs.Interfaces.{is_interface}
use Rattle.std.specs.Prelude.{IsTrue}
use Rattle.rm_columns.proofs.interface.source.Given as goal

abbrev pub invariant-loop-number : goal.invariant-loop-number
invariant-loop-number l = (1 ≤ l.number) × ((k : ℕ) → 1 ≤ k → k < l.number → IsTrue (is_interface (name l.name) k) → ⊥)
