-- That the cells of the distribution are finitely many.
use Rattle.std.proofs.Common.{◌≡◌, ℕ, List, [], ◌∷◌, map, Contains, Bool, true, false, cond, not, nat_eq, refl, ap, subst}
use borrow.Author.Tests.{eqb-true}
use Rattle.rm_model.specs.Counting.{Counting}
use Rattle.rm_model.specs.Journal.{Journal}
use Rattle.rm_model.specs.Cells.{cells_of}
use Rattle.rm_model.specs.ControlRows.{is_valid}
use Rattle.rm_model.specs.Finite.{AreFinite}
use Rattle.rm_model.proofs.Finite.{both_finite, table_finite}
use Rattle.rm_model.proofs.Members.{here, there}
use Rattle.rm_status.proofs.RowFacts.{valid_there}
use Rattle.rm_nested.specs.Nested.{is_number}
use Rattle.rm_nested.proofs.Finite.{rows_of, in_rows, nested, in_nested}
use Rattle.rm_dist.specs.Control.{dist_control, control_state}
use Rattle.rm_dist.specs.DistStats.{are_some, control_table, dist_cells, is_distributed, stats_table}
use Rattle.rm_dist.specs.Marks.{Mark, marks, with_local}

-- the local indexes of some marks, each as an inner index
abbrev locals_of : List Mark → List (List ℕ)
locals_of some = map (λ mark. mark.local ∷ []) some

in_locals : (some : List Mark) (local : ℕ) → are_some (with_local local some) ≡ true → Contains (locals_of some) (local ∷ [])
in_locals [] local is = absurd (cc)
in_locals (mark ∷ some) local is = by_test (nat_eq mark.local local) refl is (in_locals some local)
  where
    by_test : (t : Bool) → nat_eq mark.local local ≡ t → are_some (cond t (mark ∷ with_local local some) (with_local local some)) ≡ true
        → (are_some (with_local local some) ≡ true → Contains (locals_of some) (local ∷ [])) → Contains (locals_of (mark ∷ some)) (local ∷ [])
    by_test true e is rest = subst (λ (n : ℕ). Contains (locals_of (mark ∷ some)) (n ∷ [])) (eqb-true mark.local local e) (here (mark.local ∷ []) (locals_of some))
    by_test false e is rest = there (mark.local ∷ []) (locals_of some) (local ∷ []) (rest is)

-- a row that isn't active has no marks
pub idle_marks : (settings : Counting) (row : ℕ) (journal : Journal) → is_valid (control_state journal row) ≡ false → marks settings row journal ≡ []
idle_marks settings row [] idle = refl
idle_marks settings row (act ∷ earlier) idle = rw idle refl

module _ (settings : Counting) (journal : Journal) where
  abbrev is_inner : ℕ → List ℕ → Bool
  is_inner row index = is_number (is_distributed settings journal row) index

  -- a row that has counted something is active
  is_active : (row local : ℕ) → is_distributed settings journal row local ≡ true → is_valid (control_state journal row) ≡ true
  is_active row local is = by_test (is_valid (control_state journal row)) refl
    where
      by_test : (t : Bool) → is_valid (control_state journal row) ≡ t → t ≡ true
      by_test true e = refl
      by_test false e = let none = ap (λ some. are_some (with_local local some)) (idle_marks settings row journal e) in absurd (cc)

  outer : (row : ℕ) (index : List ℕ) → is_inner row index ≡ true → Contains (rows_of dist_control journal) (row ∷ [])
  outer row [] is = absurd (cc)
  outer row (local ∷ []) is = in_rows dist_control journal (row ∷ []) (ap not (valid_there (control_state journal row) (is_active row local is)))
  outer row (local ∷ next ∷ more) is = absurd (cc)

  inner : (row : ℕ) (index : List ℕ) → is_inner row index ≡ true → Contains (locals_of (marks settings row journal)) index
  inner row [] is = absurd (cc)
  inner row (local ∷ []) is = in_locals (marks settings row journal) local is
  inner row (local ∷ next ∷ more) is = absurd (cc)

  abbrev counted_of : List (List ℕ)
  counted_of = nested (rows_of dist_control journal) (λ row. locals_of (marks settings row journal))

  in_counted : (index : List ℕ) → (stats_table settings journal).is_row index ≡ true → Contains counted_of index
  in_counted = in_nested is_inner (rows_of dist_control journal) (λ row. locals_of (marks settings row journal)) outer inner

-- the cells of both tables are finitely many
pub dist_finite : (settings : Counting) (journal : Journal) → AreFinite (dist_cells settings journal)
dist_finite settings journal =
    both_finite (cells_of (control_table journal)) (cells_of (stats_table settings journal))
    (table_finite (control_table journal) (rows_of dist_control journal) (in_rows dist_control journal))
    (table_finite (stats_table settings journal) (counted_of settings journal) (in_counted settings journal))
