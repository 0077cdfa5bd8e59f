-- Where a name stands under an entry.
use Rattle.std.specs.Str.{bytes_eq}
use Rattle.std.proofs.Common.{◌≡◌, ℕ, ◌++◌, Bool, true, false, cond, ◌&&◌, List, [], ◌∷◌, length, Option, Some, None, nat_eq, refl, sym, ap, ◌∙◌, arith, drop}
use Rattle.std.specs.List.{starts_with}
use Rattle.rm_val.specs.Val.{Val}
use Rattle.rm_model.specs.declared.place.Place.{Place}
use Rattle.rm_model.specs.declared.place.Place.TheVariants.{Outside, Entry, Column, Cell}
use Rattle.rm_model.specs.Cells.{behind}
use Rattle.rm_model.specs.ControlTable.{ControlTable, row_index}
use Rattle.rm_model.specs.Judgement.{place_in, place_behind}
use Rattle.std.proofs.lemmas.Option.{same_Some}
use Rattle.std.proofs.lemmas.Slice.Eq.{bytes_eq-Decides}
use borrow.Author.Tests.{eqb-true}
use Rattle.std.proofs.lemmas.Bool.Decides.{nat_tests}
use Rattle.rm_group.proofs.StartLemmas.{behind_none, behind_some}
use Rattle.rm_status.specs.Commit.{is_cell, is_of_row, put_at}

module _ (t : ControlTable) (e n : List ℕ) where
  pub place_outside : false ≡ starts_with nat_eq n e → Outside ≡ place_behind t (behind e n)
  place_outside h = ap (place_behind t) (sym (behind_none e n h))

  pub place_within : true ≡ starts_with nat_eq n e → place_behind t (Some (drop (length e) n)) ≡ place_behind t (behind e n)
  place_within h = ap (place_behind t) (sym (behind_some e n h))

pub same_either_way : (x y : ℕ) → nat_eq x y ≡ nat_eq y x
same_either_way x y = grind (arith, nat_tests)

and_true : (b : Bool) → (b && true) ≡ b
and_true true = refl
and_true false = refl

and_false : (b : Bool) → (b && false) ≡ false
and_false true = refl
and_false false = refl

-- a name is that of a cell where it stands there
pub is_cell_name : (t : ControlTable) (entry numbers : List ℕ) (column row : ℕ) → is_cell column row (place_behind t (behind entry numbers)) ≡ bytes_eq numbers (entry ++ column ∷ row_index t row)
is_cell_name t [] [] column row = refl
is_cell_name t [] (c ∷ index) column row = by_number (t.indexing.number_of index) refl
  where
    and_swap : (a b : Bool) → (a && b) ≡ (b && a)
    and_swap true true = refl
    and_swap true false = refl
    and_swap false true = refl
    and_swap false false = refl

    not_index : (o : Option ℕ) → t.indexing.number_of index ≡ o → (o ≡ Some row → ⊥) → bytes_eq index (row_index t row) ≡ false
    not_index o is other = elim (bytes_eq index (row_index t row)) as (λ b. bytes_eq index (row_index t row) ≡ b → b ≡ false) [
      | true ↦ λ e. absurd (other (sym is ∙ ap t.indexing.number_of ((bytes_eq-Decides index (row_index t row)).0 e) ∙ t.indexed.back row))
      | false ↦ λ _. refl
    ] refl

    same_index : (n : ℕ) → t.indexing.number_of index ≡ Some n → nat_eq n row ≡ bytes_eq index (row_index t row)
    same_index n is = elim (nat_eq n row) as (λ b. nat_eq n row ≡ b → b ≡ bytes_eq index (row_index t row)) [
      | true ↦ λ e. sym ((bytes_eq-Decides index (row_index t row)).1 (sym (t.indexed.one_to_one.forth index n is) ∙ ap (row_index t) (eqb-true n row e)))
      | false ↦ λ e. sym (not_index (Some n) is (λ same. not_same n row e (same_Some n row same)))
    ] refl
      where
        not_same : (a b : ℕ) → nat_eq a b ≡ false → a ≡ b → ⊥
        not_same a b e same = grind (arith, nat_tests)

    by_number : (o : Option ℕ) → t.indexing.number_of index ≡ o → is_cell column row (place_in c o) ≡ (nat_eq c column && bytes_eq index (row_index t row))
    by_number None is = sym (ap (λ b. nat_eq c column && b) (not_index None is (λ no. cc)) ∙ and_false (nat_eq c column))
    by_number (Some n) is = and_swap (nat_eq n row) (nat_eq c column) ∙ ap (λ b. nat_eq c column && b) (same_index n is)
is_cell_name t (x ∷ entry) [] column row = refl
is_cell_name t (x ∷ entry) (y ∷ numbers) column row =
    elim (nat_eq x y) as (λ b. is_cell column row (place_behind t (cond b (behind entry numbers) None)) ≡ (b && bytes_eq numbers (entry ++ column ∷ row_index t row))) [
      | true ↦ is_cell_name t entry numbers column row
      | false ↦ refl
    ] ∙ ap (λ b. b && bytes_eq numbers (entry ++ column ∷ row_index t row)) (same_either_way x y)

-- where it stands there by what follows the entry, and begins with the entry
pub cell_by_parts : (t : ControlTable) (e n : List ℕ) (column row : ℕ)
    → (is_cell column row (place_behind t (Some (drop (length e) n))) && starts_with nat_eq n e) ≡ bytes_eq n (e ++ column ∷ row_index t row)
cell_by_parts t e n column row =
    let is_there : Bool = is_cell column row (place_behind t (Some (drop (length e) n))) in
    elim (starts_with nat_eq n e) as (λ b. starts_with nat_eq n e ≡ b → (is_there && b) ≡ bytes_eq n (e ++ column ∷ row_index t row)) [
      | true ↦ λ is. and_true is_there ∙ ap (is_cell column row) (place_within t e n (sym is)) ∙ is_cell_name t e n column row
      | false ↦ λ is. and_false is_there ∙ ap (is_cell column row) (place_outside t e n (sym is)) ∙ is_cell_name t e n column row
    ] refl

-- a name that isn't of a row by what follows the entry puts nothing into its columns
pub put_elsewhere : {C : Type 0} (t : ControlTable) (with_column : C → ℕ → Val → C) (blank : ℕ → C) (e n : List ℕ) (row : ℕ) (value : Val) (columns : C)
    → is_of_row row (place_behind t (Some (drop (length e) n))) ≡ false → put_at t with_column blank row (place_behind t (behind e n)) value columns ≡ columns
put_elsewhere t with_column blank e n row value columns other =
    elim (starts_with nat_eq n e) as (λ b. starts_with nat_eq n e ≡ b → put_at t with_column blank row (place_behind t (behind e n)) value columns ≡ columns) [
      | true ↦ λ is. ap (λ p. put_at t with_column blank row p value columns) (sym (place_within t e n (sym is))) ∙ not_put (place_behind t (Some (drop (length e) n))) other
      | false ↦ λ is. ap (λ p. put_at t with_column blank row p value columns) (sym (place_outside t e n (sym is)))
    ] refl
  where
    not_put : (p : Place) → is_of_row row p ≡ false → put_at t with_column blank row p value columns ≡ columns
    not_put Outside h = refl
    not_put Entry h = refl
    not_put (Column c) h = refl
    not_put (Cell c k) h = rw h refl
