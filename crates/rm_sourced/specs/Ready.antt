-- Rows that may take the references of a frame.
use Rattle.std.proofs.Common.{ℕ, ◌/◌, ◌≤◌, arith}
use Rattle.std.proofs.Math.Nat.{le_trans, div-mul-le_self}
use Rattle.std.proofs.lemmas.Nat.{le-div}
use Rattle.rm_keyed.specs.Entered.{Entered}

-- the frame passes at a moment in milliseconds, and its first reference has that stamp
pub record MayTake {K V : Type 0} (stamp moment : ℕ) (entered : Entered K V) : Type 0 where
  pub stamps : entered.stamps ≤ stamp
  pub tick : entered.tick ≤ moment / 10

-- hundredths of a second rise with the milliseconds
ticks_rise : (one other : ℕ) → one ≤ other → one / 10 ≤ other / 10
ticks_rise one other later = le-div (one / 10) other 10 (omega arith) (le_trans (div-mul-le_self one 10) later)

-- they may take a later frame too
pub may_take_later : {K V : Type 0} (stamp next moment now : ℕ) (entered : Entered K V) → stamp ≤ next → moment ≤ now → MayTake stamp moment entered → MayTake next now entered
may_take_later stamp next moment now entered more later may = record {
  stamps = le_trans may.stamps more;
  tick = le_trans may.tick (ticks_rise moment now later);
}
