-- That what a row of hlHostControl, or of hlMatrixControl, asks for stays within the ranges of its columns.
use Rattle.std.proofs.Common.{◌≡◌, ℕ, ◌≤◌, Bool, List, true, false, cond, ◌||◌, nat_eq, nat_le, Some, None, refl, sym, subst}
use Rattle.std.specs.Prelude.{ℤ, pos, negsuc, IfSome}
use Rattle.std.proofs.lemmas.Bool.{and_parts, leb-true, eqb-true}
use Rattle.rm_val.specs.Val.{Val, int}
use Rattle.rm_val.specs.declared.error.ErrorStatus.TheVariants.{WrongValue}
use Rattle.rm_model.specs.ControlTable.{number}
use Rattle.rm_model.specs.Judgement.{column_kind, value_fault, unless}
use Rattle.rm_columns.specs.Values.{number_of}
use Rattle.rm_layer_tables.specs.Control.{layer_control, none_or_from, bound_of}
use Rattle.rm_layer_tables.specs.ControlColumns.{blank_row, with_column, IsInRange}
use Rattle.rm_layer_tables.specs.declared.layer_columns.LayerColumns.{LayerColumns}

pub blank_in_range : {T : Type 0} → IsInRange {T = T} blank_row
blank_in_range = record { network = tt; application = tt }

passes : (none some : Bool) → unless (none || (some || false)) WrongValue ≡ None → none ≡ false → some ≡ true
passes true some fine off = absurd (cc)
passes false true fine off = refl
passes false false fine off = absurd (cc)

-- a value that a column takes sets no bound, or one that isn't below the least
abbrev IsFrom : (least : ℕ) → ℤ → Type 0
IsFrom least n = IfSome (bound_of (int n)) (λ most. least ≤ most)

bounded : (least : ℕ) (value : Val) → value_fault (Some (number (none_or_from least))) value ≡ None → IsFrom least (number_of value)
bounded least (int (pos n)) fine = leb-true least n (and_parts (nat_le least n) (nat_le n 2147483647) (passes _ _ fine refl)).0
bounded least (int (negsuc n)) fine = tt
bounded least other fine = absurd (cc)

-- columns with one of them set to a value that it takes
module _ {T : Type 0} (entry : List ℕ) (row : LayerColumns T) (n : ℕ) (value : Val) (fine : value_fault (column_kind (layer_control entry) n) value ≡ None) (is : IsInRange row) where
  set_in_range : (least column : ℕ) (old : ℤ) → column_kind (layer_control entry) column ≡ Some (number (none_or_from least)) → IsFrom least old → IsFrom least (cond (nat_eq column n) (number_of value) old)
  set_in_range least column old kind was =
      elim (nat_eq column n) as (λ t. nat_eq column n ≡ t → IsFrom least (cond t (number_of value) old)) [
        | true ↦ λ e. bounded least value (subst (λ k. value_fault k value ≡ None) kind (subst (λ k. value_fault (column_kind (layer_control entry) k) value ≡ None) (sym (eqb-true column n e)) fine))
        | false ↦ λ _. was
      ] refl

  pub put_in_range : IsInRange (with_column row n value)
  put_in_range = record {
    network = set_in_range 1 6 row.network refl is.network;
    application = set_in_range 32 10 row.application refl is.application;
  }
