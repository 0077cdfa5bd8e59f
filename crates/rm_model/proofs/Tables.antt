-- The cells of a table.
use Rattle.std.proofs.Common.{◌≡◌, ℕ, List, [], ◌∷◌, ◌++◌, refl, ◌∙◌, Bool, true, false, cond, nat_eq, arith, Option, Some, None}
use Rattle.std.specs.Prelude.{is_some}
use Rattle.std.proofs.lemmas.Bool.Decides.{nat_tests}
use Rattle.rm_val.specs.Val.{Val}
use Rattle.rm_model.specs.declared.instance.Instance.{Instance}
use Rattle.rm_model.specs.Names.{IsLeastAbove}
use Rattle.rm_model.specs.Cells.{behind, Table, cells_of, cell_at, instance_of, is_of_row, is_cell_name, has_cell, IsNext}
use Rattle.rm_model.proofs.Next.{next_found, next_none}

-- what is behind a front, and the front, are the name
pub behind_is : (e n left : List ℕ) → behind e n ≡ Some left → n ≡ e ++ left
behind_is [] n left h = cc
behind_is (x ∷ e) [] left h = absurd (cc)
behind_is (x ∷ e) (y ∷ n) left h =
    elim (nat_eq x y) as (λ t. nat_eq x y ≡ t → cond t (behind e n) None ≡ Some left → y ∷ n ≡ x ∷ (e ++ left)) [
      | true ↦ λ same is.
          let head : x ≡ y = grind (arith, nat_tests) in
          let tail = behind_is e n left is in
          cc
      | false ↦ λ _ is. absurd (cc)
    ] refl h

pub behind_front : (e left : List ℕ) → behind e (e ++ left) ≡ Some left
behind_front [] left = refl
behind_front (x ∷ e) left =
    let same : nat_eq x x ≡ true = grind (arith, nat_tests) in
    rw same (behind_front e left)

some_if : (b : Bool) (v : Val) → is_some (cond b (Some v) None) ≡ b
some_if true v = refl
some_if false v = refl

module _ (table : Table) (is_row : List ℕ → Bool) (same : (index : List ℕ) → table.is_row index ≡ is_row index) where
  at_row : (at : Option Instance) → is_some (cell_at table at) ≡ is_of_row is_row at
  at_row None = refl
  at_row (Some at) = some_if (table.is_row at.index) (table.value at.column at.index) ∙ same at.index

  -- a table has a cell at the names of its cells
  pub has_table_cell : (name : List ℕ) → has_cell (cells_of table) name ≡ is_cell_name table.entry table.columns is_row name
  has_table_cell name = at_row (instance_of table.entry table.columns name)

  -- the least name of a cell, with its value, is next
  pub table_next : (asked found : List ℕ) (value : Option Val) → IsLeastAbove (is_cell_name table.entry table.columns is_row) asked (Some found) → value ≡ cells_of table found → IsNext (cells_of table) asked value found
  table_next asked found value least is = next_found (cells_of table) (is_cell_name table.entry table.columns is_row) asked found value least has_table_cell is

  pub table_end : (asked found : List ℕ) → IsLeastAbove (is_cell_name table.entry table.columns is_row) asked None → IsNext (cells_of table) asked None found
  table_end asked found none = next_none (cells_of table) (is_cell_name table.entry table.columns is_row) asked found none has_table_cell
