-- Frames of a data source, and sums over frames.
use Rattle.std.proofs.Common.{◌≡◌, ℕ, ◌+◌, List, ◌∷◌, Bool, true, false, cond, nat_eq, filter, arith}
use Rattle.std.specs.List.{sum_by}
use Rattle.std.proofs.Math.Bool.{and-true}
use Rattle.std.proofs.lemmas.List.Sums.{sum_by-cons}
use Rattle.rm_val.specs.Val.{name}
use Rattle.rm_model.specs.Journal.{Frame}
use Rattle.rm_model.specs.Interfaces.{interface_name, is_interface}

-- a sum over the frames that pass a test, with one more
pub sum_more : (f : Frame → ℕ) (test : Frame → Bool) (frame : Frame) (frames : List Frame) → sum_by f (filter test (frame ∷ frames)) ≡ sum_by f (filter test frames) + cond (test frame) (f frame) 0
sum_more f test frame frames =
    elim (test frame) as (λ t. sum_by f (cond t (frame ∷ filter test frames) (filter test frames)) ≡ sum_by f (filter test frames) + cond t (f frame) 0) [
      | true ↦ let more = sum_by-cons f frame (filter test frames) in omega arith
      | false ↦ omega arith
    ]

-- a data source is the interface whose name it is
pub is_source : (source number : ℕ) → is_interface (name (interface_name source)) number ≡ nat_eq source number
is_source source number = and-true (nat_eq source number)
