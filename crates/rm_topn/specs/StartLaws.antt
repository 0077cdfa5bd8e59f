-- Of which rows reports have begun.
use Rattle.std.proofs.Common.{◌≡◌, ℕ, Bool, true, false, cond, [], ◌∷◌, refl, ap, Some, None}
use Rattle.rm_model.specs.Journal.{Journal}
use Rattle.rm_model.specs.ControlRows.{is_valid}
use Rattle.rm_topn.specs.Control.{control_state}
use Rattle.rm_topn.specs.Starts.{is_start, last_start}

module _ (row : ℕ) where
  -- a row of which one began is valid
  pub valid_start : (journal from : Journal) → last_start row journal ≡ Some from → is_valid (control_state journal row) ≡ true
  valid_start [] from start = absurd (cc)
  valid_start (act ∷ earlier) from start = go (is_valid (control_state (act ∷ earlier) row)) start
    where
      go : (t : Bool) → cond t (cond (is_start row act earlier) (Some (act ∷ earlier)) (last_start row earlier)) None ≡ Some from → t ≡ true
      go true e = refl
      go false e = absurd (cc)

  -- of one that isn't valid none has begun
  pub idle_start : (journal : Journal) → is_valid (control_state journal row) ≡ false → last_start row journal ≡ None
  idle_start [] idle = refl
  idle_start (act ∷ earlier) idle = ap (λ t. cond t (cond (is_start row act earlier) (Some (act ∷ earlier)) (last_start row earlier)) None) idle
