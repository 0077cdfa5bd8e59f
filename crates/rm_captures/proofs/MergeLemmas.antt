-- The next frame of two lists in one order.
use Rattle.std.proofs.Common.{◌≡◌, ◌<◌, ◌≤◌, true, false, List, [], ◌∷◌, refl, ap, arith}
use Rattle.std.specs.List.{prefix_len}
use Rattle.std.proofs.Math.Numerals.{one-add}
use Rattle.std.proofs.lemmas.Bool.Decides.{nat_tests}
use Rattle.rm_model.specs.Journal.{Frame}
use Rattle.rm_captures.specs.Merge.{is_by, merge}

pub merge_first : (f g : Frame) (fs gs : List Frame) → f.moment ≤ g.moment → merge (f ∷ fs) (g ∷ gs) ≡ f ∷ merge fs (g ∷ gs)
unfolding merge
merge_first f g fs gs le =
    let by : is_by g.moment f ≡ true = grind (arith, nat_tests) in
    rw (by, one-add (prefix_len (is_by g.moment) fs)) refl

pub merge_second : (f g : Frame) (fs gs : List Frame) → g.moment < f.moment → merge (f ∷ fs) (g ∷ gs) ≡ g ∷ merge (f ∷ fs) gs
unfolding merge
merge_second f g fs gs lt =
    let later : is_by g.moment f ≡ false = grind (arith, nat_tests) in
    rw later refl

pub merge_none : (gs : List Frame) → merge [] gs ≡ gs
unfolding merge
merge_none [] = refl
merge_none (g ∷ gs) = ap (λ (all : List Frame). g ∷ all) (merge_none gs)

pub merge_alone : (fs : List Frame) → merge fs [] ≡ fs
unfolding merge
merge_alone fs = refl
