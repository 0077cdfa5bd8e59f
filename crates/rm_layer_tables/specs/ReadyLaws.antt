-- A frame that may come may come later too, and so may the next one.
use Rattle.std.proofs.Common.{ℕ, ◌+◌, ◌*◌, ◌/◌, ◌≤◌, arith}
use Rattle.std.proofs.Math.Nat.{le_trans, div-mul-le_self}
use Rattle.std.proofs.lemmas.Nat.{le-div}
use Rattle.rm_upper.specs.LayerTable.{LayerTable}
use Rattle.rm_layer_tables.specs.Ready.{IsReady}

-- hundredths of a second rise with the milliseconds
ticks_rise : (one other : ℕ) → one ≤ other → one / 10 ≤ other / 10
ticks_rise one other later = le-div (one / 10) other 10 (omega arith) (le_trans (div-mul-le_self one 10) later)

module _ {K N A : Type 0} (table : LayerTable K N A) where
  pub ready_later : (stamp last now : ℕ) → last ≤ now → IsReady stamp last table → IsReady stamp now table
  ready_later stamp last now later ready = (ready.0, le_trans ready.1 (ticks_rise last now later))

  -- a frame has two stamps
  pub ready_next : (frames moment : ℕ) → IsReady (2 * frames + 2) moment table → IsReady (2 * (frames + 1)) moment table
  ready_next frames moment ready = (omega (arith, ready.0), ready.1)
