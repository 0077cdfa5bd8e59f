-- What a Set with which nothing is wrong binds in a row.
use Rattle.std.proofs.Common.{◌≡◌, ℕ, ◌<◌, suc, List, [], ◌∷◌, length, Bool, true, false, cond, ◌&&◌, not, Option, Some, None, refl, sym, ap, ◌∙◌, nat_eq, find, option_map, rules, arith}
use Rattle.std.specs.Prelude.{pos, negsuc}
use Rattle.std.specs.Option.{option_or}
use Rattle.std.specs.Str.{bytes_eq}
use Rattle.std.proofs.lemmas.Option.{same_Some}
use Rattle.std.proofs.lemmas.Slice.Eq.{bytes_eq-Decides}
use Rattle.rm_val.specs.Val.{Val, int}
use Rattle.rm_val.specs.declared.error.ErrorStatus.{ErrorStatus}
use Rattle.rm_val.specs.declared.error.ErrorStatus.TheVariants.{InconsistentValue, NotWritable}
use Rattle.rm_model.specs.declared.row.StatusKind.{StatusKind}
use Rattle.rm_model.specs.declared.row.StatusKind.TheVariants.{EntryStatus, RowStatus}
use Rattle.rm_model.specs.declared.row.State.TheVariants.{Absent, UnderCreation, Valid}
use Rattle.rm_model.specs.declared.row.Ask.{Ask}
use Rattle.rm_model.specs.declared.row.Ask.TheVariants.{Nothing, Create, Enable, Disable, Destroy}
use Rattle.rm_model.specs.declared.place.Place.TheVariants.{Cell}
use Rattle.rm_model.specs.Journal.{value_given}
use Rattle.rm_model.specs.ControlTable.{row_index, ControlTable}
use Rattle.rm_model.specs.ControlRows.{Beginning, cell_name, value_ask, set_ask, next_state, is_valid}
use Rattle.rm_model.specs.Judgement.{Bindings, name_at, value_at, place_of, place_in, place_behind, value_fault, column_kind, writable_kind, alone_fault, first_pass, second_pass, together_fault, status_fault, staying_fault, fixed_fault, is_name_fault, row_fault, column_fault, is_always, is_made, is_again, is_crowded, is_ready_with, unless}
use Rattle.rm_model.proofs.Tables.{behind_front}

no_first : (a b : Option ErrorStatus) → option_or a b ≡ None → a ≡ None
no_first None b e = refl
no_first (Some x) b e = cc

no_other : (a b : Option ErrorStatus) → option_or a b ≡ None → b ≡ None
no_other None b e = e
no_other (Some x) b e = absurd (cc)

-- where nothing is wrong with a column, it isn't one that can never be set
settable_fault : (fixed : Bool) (o : Option ErrorStatus) → fixed_fault fixed o ≡ None → o ≡ None
settable_fault fixed o = of_test (fixed && not (is_name_fault o))
  where
    of_test : (test : Bool) → cond test (Some NotWritable) o ≡ None → o ≡ None
    of_test true e = absurd (cc)
    of_test false e = e

-- Where the value stands that a Set gives to a variable.

pub record IsBoundAt (bs : Bindings) (name : List ℕ) (value : Val) (k : ℕ) : Type 0 where
  pub within : k < length bs
  pub named : name_at bs k ≡ name
  pub given : value_at bs k ≡ value

pub bound_at : (bs : Bindings) (name : List ℕ) (value : Val) → value_given bs name ≡ Some value → (k : ℕ) × IsBoundAt bs name value k
bound_at [] name value e = absurd (cc)
bound_at (b ∷ more) name value e =
    elim (bytes_eq b.name name) as (λ t. bytes_eq b.name name ≡ t → option_map (λ a. a.value) (cond t (Some b) (find (λ a. bytes_eq a.name name) more)) ≡ Some value → (k : ℕ) × IsBoundAt (b ∷ more) name value k) [
      | true ↦ λ same here. (0, record { within = omega arith; named = (bytes_eq-Decides b.name name).0 same; given = same_Some b.value value here })
      | false ↦ λ _ later. let rest = bound_at more name value later in (suc rest.0, record { within = omega (arith, rest.1.within); named = rest.1.named; given = rest.1.given })
    ] refl e

pub place_of_cell : (t : ControlTable) (n i : ℕ) → place_of t (cell_name t.entry n (row_index t i)) ≡ Cell n i
place_of_cell t n i = ap (place_behind t) (behind_front t.entry (n ∷ row_index t i)) ∙ ap (place_in n) (t.indexed.back i)

-- nothing is wrong alone with the value that a Set gives to a column
pub given_fine : (t : ControlTable) (bs : Bindings) → ((k : ℕ) → k < length bs → first_pass t bs k ≡ None) → (n i : ℕ) → nat_eq n t.status ≡ false
    → (value : Val) → value_given bs (cell_name t.entry n (row_index t i)) ≡ Some value → value_fault (column_kind t n) value ≡ None
given_fine t bs alone n i column value e =
    let (k, at) = bound_at bs (cell_name t.entry n (row_index t i)) value e in
    let fault : alone_fault t (Cell n i) value ≡ None =
    ap (λ v. alone_fault t (Cell n i) v) (sym at.given) ∙ ap (λ p. alone_fault t p (value_at bs k)) (sym (ap (place_of t) at.named ∙ place_of_cell t n i)) ∙ alone k at.within in
    let fine : value_fault (writable_kind t n) value ≡ None = no_first _ _ fault in
    rw column at fine

module _ (t : ControlTable) (before : Beginning) (bs : Bindings) (together : (k : ℕ) → k < length bs → second_pass t before bs k ≡ None) (i : ℕ) where
  abbrev ask : Ask
  ask = set_ask t bs (row_index t i)

  -- nothing is wrong together with a binding of a column of a row
  row_fine : (n : ℕ) (value : Val) → value_given bs (cell_name t.entry n (row_index t i)) ≡ Some value
      → (again : Bool) × (row_fault t (row_index t i) (before.state (row_index t i)) ask (is_ready_with t before bs (row_index t i)) (is_crowded t before bs) again n ≡ None)
  row_fine n value e =
      let (k, at) = bound_at bs (cell_name t.entry n (row_index t i)) value e in
      (is_again bs k, ap (together_fault t before bs k) (sym (ap (place_of t) at.named ∙ place_of_cell t n i)) ∙ together k at.within)

  -- A Set gives nothing to a column that is fixed while its row is valid, where the row was valid and stays so.
  module _ (n : ℕ) (column : nat_eq n t.status ≡ false) (fixed : is_always t n ≡ false) (was : before.state (row_index t i) ≡ Valid) (stays : is_valid (next_state ask Valid) ≡ true) where
    valid_fault : (asked : Ask) → column_fault Valid asked false ≡ None → is_valid (next_state asked Valid) ≡ true → ⊥
    valid_fault Nothing fine goes_on = cc
    valid_fault asked fine goes_on = cc

    not_made : (asked : Ask) → is_made Valid asked ≡ false
    not_made Nothing = refl
    not_made asked = refl

    not_given : (value : Val) → value_given bs (cell_name t.entry n (row_index t i)) ≡ Some value → ⊥
    not_given value e =
        let (again, fine) = row_fine n value e in
        let ready : Bool = is_ready_with t before bs (row_index t i) in
        let at_valid : row_fault t (row_index t i) Valid ask ready (is_crowded t before bs) again n ≡ None = ap (λ s. row_fault t (row_index t i) s ask ready (is_crowded t before bs) again n) (sym was) ∙ fine in
        let settable : option_or (cond (nat_eq n t.status) (option_or (staying_fault (t.rules.stays (row_index t i)) ask) (status_fault t.status_kind Valid ask ready)) (column_fault Valid ask (is_always t n))) (unless (not again) InconsistentValue) ≡ None =
        settable_fault (t.rules.is_fixed (row_index t i) n) _ (rw (not_made ask) at at_valid) in
        let fault : option_or (column_fault Valid ask false) (unless (not again) InconsistentValue) ≡ None = rw (column, fixed) at settable in
        valid_fault ask (no_first _ _ fault) stays

    pub fixed_column : value_given bs (cell_name t.entry n (row_index t i)) ≡ None
    fixed_column = by_value (value_given bs (cell_name t.entry n (row_index t i))) not_given
      where
        by_value : (o : Option Val) → ((value : Val) → o ≡ Some value → ⊥) → o ≡ None
        by_value None no_value = refl
        by_value (Some value) no_value = absurd (no_value value refl)

  -- a row that becomes valid is ready
  module _ (was : before.state (row_index t i) ≡ UnderCreation) (enabled : is_valid (next_state ask UnderCreation) ≡ true) where
    enables : (asked : Ask) → is_valid (next_state asked UnderCreation) ≡ true → asked ≡ Enable
    enables Enable e = refl
    enables asked e = absurd (cc)

    needs_ready : (kind : StatusKind) (ready : Bool) → status_fault kind UnderCreation Enable ready ≡ None → ready ≡ true
    needs_ready EntryStatus true e = refl
    needs_ready RowStatus true e = refl
    needs_ready EntryStatus false e = absurd (cc)
    needs_ready RowStatus false e = absurd (cc)

    pub ready_made : is_ready_with t before bs (row_index t i) ≡ true
    ready_made = by_status (value_given bs (cell_name t.entry t.status (row_index t i))) refl
      where
        by_status : (o : Option Val) → value_given bs (cell_name t.entry t.status (row_index t i)) ≡ o → is_ready_with t before bs (row_index t i) ≡ true
        by_status None e = absurd (let idle : is_valid UnderCreation ≡ true = ap (λ o. is_valid (next_state (value_ask t.status_kind o) UnderCreation)) (sym e) ∙ enabled in cc)
        by_status (Some value) e =
            let (again, fine) = row_fine t.status value e in
            let ready : Bool = is_ready_with t before bs (row_index t i) in
            let crowded : Bool = is_crowded t before bs in
            let at_creation : row_fault t (row_index t i) UnderCreation ask ready crowded again t.status ≡ None = ap (λ s. row_fault t (row_index t i) s ask ready crowded again t.status) (sym was) ∙ fine in
            let at_enable : row_fault t (row_index t i) UnderCreation Enable ready crowded again t.status ≡ None = ap (λ a. row_fault t (row_index t i) UnderCreation a ready crowded again t.status) (sym (enables ask enabled)) ∙ at_creation in
            let itself : nat_eq t.status t.status ≡ true = search rules in
            let settable : option_or (cond (nat_eq t.status t.status) (option_or (staying_fault (t.rules.stays (row_index t i)) Enable) (status_fault t.status_kind UnderCreation Enable ready)) (column_fault UnderCreation Enable (is_always t t.status))) (unless (not again) InconsistentValue) ≡ None =
            settable_fault (t.rules.is_fixed (row_index t i) t.status) _ at_enable in
            let fault : option_or (option_or (staying_fault (t.rules.stays (row_index t i)) Enable) (status_fault t.status_kind UnderCreation Enable ready)) (unless (not again) InconsistentValue) ≡ None = rw itself at settable in
            needs_ready t.status_kind ready (no_other _ _ (no_first _ _ fault))

-- no EntryStatus makes a row that is valid at once
pub not_made_valid : (o : Option Val) → is_valid (next_state (value_ask EntryStatus o) Absent) ≡ true → ⊥
not_made_valid (Some (int (pos n))) e = by_number (nat_eq n 1) (nat_eq n 2) (nat_eq n 3) (nat_eq n 4) e
  where
    by_number : (a b c d : Bool) → is_valid (next_state (cond a Enable (cond b Create (cond c Disable (cond d Destroy Nothing)))) Absent) ≡ true → ⊥
    by_number true b c d h = cc
    by_number false true c d h = cc
    by_number false false true d h = cc
    by_number false false false true h = cc
    by_number false false false false h = cc
not_made_valid (Some (int (negsuc n))) e = cc
not_made_valid (Some other) e = cc
not_made_valid None e = cc
