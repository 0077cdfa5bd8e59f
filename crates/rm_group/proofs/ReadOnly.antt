-- A Set whose first pass finds nothing wrong gives nothing to a table of which no column is writable.
use Rattle.std.proofs.Common.{◌≡◌, ℕ, ◌<◌, List, ◌∷◌, length, Bool, true, false, cond, not, Some, None, refl, sym, ◌∙◌, ap}
use Rattle.std.specs.Prelude.{IsTrue, is_some}
use Rattle.std.specs.Option.{option_map}
use Rattle.std.specs.Str.{bytes_eq}
use Rattle.std.proofs.lemmas.Slice.Eq.{bytes_eq-Decides}
use Rattle.rm_val.specs.declared.error.ErrorStatus.TheVariants.{NotWritable}
use Rattle.rm_model.specs.Journal.{value_given}
use Rattle.rm_model.specs.Cells.{is_of_column, is_one_of, instance_left}
use Rattle.rm_model.specs.ControlRows.{cell_name}
use Rattle.rm_model.specs.Judgement.{Bindings, nothing_bound, name_at, unless}
use Rattle.rm_model.specs.declared.instance.Instance.{Instance}
use Rattle.rm_model.proofs.Tables.{behind_front}
use Rattle.rm_group.specs.Alone.{AreFineAlone, read_only}
use Rattle.rm_group.proofs.Finds.{find_never}
use Rattle.rm_group.specs.ColumnLemmas.{is_of_column-instance}

not_named : (named : Bool) → unless (not named) NotWritable ≡ None → named ≡ true → ⊥
not_named true fine is = cc
not_named false fine is = cc

-- it gives nothing to a variable of an object that isn't writable
nothing_given : (objects : List ℕ → Bool) (bindings : Bindings) (name : List ℕ) → AreFineAlone (read_only objects) bindings → objects name ≡ true → value_given bindings name ≡ None
nothing_given objects bindings name fine is =
    ap (option_map (λ assignment. assignment.value)) (find_never (λ assignment. bytes_eq assignment.name name) nothing_bound bindings never)
  where
    other : (k : ℕ) → k < length bindings → (same : Bool) → bytes_eq (name_at bindings k) name ≡ same → same ≡ false
    other k within true same =
        let names : name_at bindings k ≡ name = (bytes_eq-Decides (name_at bindings k) name).0 same in
        absurd (not_named (objects (name_at bindings k)) (fine k within) (ap objects names ∙ is))
    other k within false same = refl

    never : (k : ℕ) → k < length bindings → bytes_eq (name_at bindings k) name ≡ false
    never k within = other k within (bytes_eq (name_at bindings k) name) refl

some_if : (b : Bool) (at : Instance) → is_some (cond b (Some at) None) ≡ b
some_if true at = refl
some_if false at = refl

module _ (entry columns : List ℕ) where
  -- the name of a cell begins with the identifier of its column
  named : (column : ℕ) (index : List ℕ) → IsTrue (is_one_of columns column) → is_of_column entry columns (cell_name entry column index) ≡ true
  named column index one =
      sym (is_of_column-instance entry columns (cell_name entry column index))
      ∙ ap (λ left. is_some (instance_left columns left)) (behind_front entry (column ∷ index))
      ∙ some_if (is_one_of columns column) (record { column = column; index = index })
      ∙ one

  pub no_cell_given : (bindings : Bindings) → AreFineAlone (read_only (is_of_column entry columns)) bindings → (column : ℕ) (index : List ℕ) → IsTrue (is_one_of columns column) → value_given bindings (cell_name entry column index) ≡ None
  no_cell_given bindings fine column index one =
      nothing_given (is_of_column entry columns) bindings (cell_name entry column index) fine (named column index one)
