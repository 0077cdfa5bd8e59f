-- Rows that are sound are so with each key replaced by another that stands for it.
use Rattle.std.proofs.Common.{◌≡◌, Bool, List, [], ◌∷◌, ap, ◌∙◌}
use Rattle.rm_evicting.specs.declared.Row.{Row}
use Rattle.rm_evicting.specs.Row.{holds}
use Rattle.rm_upper.specs.Sound.{AreSound}
use Rattle.rm_reversed.specs.Reversed.{reversed_rows}
use Rattle.rm_reversed.proofs.RowLemmas.{holds-of}

module _ {K N A : Type 0} (eq : K → K → Bool) (to : K → K) (twice : (key : K) → to (to key) ≡ key) (alike : (one other : K) → eq (to one) (to other) ≡ eq one other) where
  pub sound-of : (rows : List (Row K _)) → AreSound {K = K} {N = N} {A = A} eq rows → AreSound {K = K} {N = N} {A = A} eq (reversed_rows to rows)
  sound-of [] sound = tt
  sound-of (row ∷ rows) sound = (
    sound.0,
    holds-of eq to twice alike (to row.key) rows ∙ ap (λ key. holds eq key rows) (twice row.key) ∙ sound.1,
    sound-of rows sound.2,
  )
