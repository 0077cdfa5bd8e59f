-- That the columns of a row of historyControl stay in range.
use Rattle.std.proofs.Common.{◌≡◌, ℕ, ◌≤◌, Bool, true, false, cond, ◌||◌, Some, None, refl, sym, subst, nat_eq, nat_le, arith}
use Rattle.std.specs.Prelude.{pos}
use Rattle.std.proofs.lemmas.Bool.{and_parts, leb-true, eqb-true}
use Rattle.rm_val.specs.Val.{Val, int}
use Rattle.rm_val.specs.declared.error.ErrorStatus.TheVariants.{WrongValue}
use Rattle.rm_model.specs.ControlTable.{number, up_from}
use Rattle.rm_model.specs.Judgement.{column_kind, value_fault, unless}
use Rattle.rm_columns.specs.Values.{natural_in}
use Rattle.rm_history.specs.declared.control_columns.ControlColumns.{ControlColumns}
use Rattle.rm_history.specs.HistoryControl.{history_control}
use Rattle.rm_history.specs.ControlColumns.{blank_columns, with_column, AreInRange}

passes : (t : Bool) → unless (t || false) WrongValue ≡ None → t ≡ true
passes true fine = refl
passes false wrong = absurd (cc)

bounded : (least greatest : ℕ) (value : Val) → value_fault (Some (number (up_from least greatest))) value ≡ None → (least ≤ natural_in value) × (natural_in value ≤ greatest)
bounded least greatest (int (pos n)) fine =
    let both = and_parts (nat_le least n) (nat_le n greatest) (passes _ fine) in
    (leb-true least n both.0, leb-true n greatest both.1)
bounded least greatest other fine = absurd (cc)

-- columns with one of them set to a value that it takes
module _ (columns : ControlColumns) (n : ℕ) (value : Val) (fine : value_fault (column_kind history_control n) value ≡ None) (is : AreInRange columns) where
  set_in_range : (least greatest m old : ℕ) → column_kind history_control m ≡ Some (number (up_from least greatest)) → (least ≤ old) × (old ≤ greatest)
      → (least ≤ cond (nat_eq m n) (natural_in value) old) × (cond (nat_eq m n) (natural_in value) old ≤ greatest)
  set_in_range least greatest m old kind was =
      elim (nat_eq m n) as (λ t. nat_eq m n ≡ t → (least ≤ cond t (natural_in value) old) × (cond t (natural_in value) old ≤ greatest)) [
        | true ↦ λ e. bounded least greatest value (subst (λ k. value_fault k value ≡ None) kind (subst (λ k. value_fault (column_kind history_control k) value ≡ None) (sym (eqb-true m n e)) fine))
        | false ↦ λ _. was
      ] refl

  pub put_in_range : AreInRange (with_column columns n value)
  put_in_range =
      let requested = set_in_range 1 65535 3 columns.requested refl (is.some_requested, is.most_requested) in
      let interval = set_in_range 1 3600 5 columns.interval refl (is.some_interval, is.most_interval) in
      record { some_requested = requested.0; most_requested = requested.1; some_interval = interval.0; most_interval = interval.1 }

pub blank_in_range : AreInRange blank_columns
blank_in_range = record {
  some_requested = omega arith;
  most_requested = omega arith;
  some_interval = omega arith;
  most_interval = omega arith;
}
