-- Rows of a control table.
use Rattle.std.proofs.Common.{◌≡◌, ℕ, ◌<◌, ◌^◌, List, [], ◌∷◌, Bool, true, false, cond, ◌&&◌, Option, Some, None, refl, sym, ap, subst, ◌∙◌, nat_eq, nat_le, arith}
use Rattle.std.specs.Prelude.{OnSome}
use Rattle.std.specs.Borrow.{Bor}
use Rattle.std.specs.Option.{option_copied, option_map}
use Rattle.std.proofs.lemmas.Bool.Decides.{nat_tests}
use borrow.Author.Tests.{eqb-true}
use Rattle.rm_model.specs.ControlTable.{ControlTable}
use Rattle.rm_model.specs.ControlRows.{is_absent, is_valid}
use Rattle.rm_model.specs.Judgement.{is_row_number}
use Rattle.rm_model.specs.declared.row.State.{State}
use Rattle.rm_model.specs.declared.row.State.TheVariants.{Absent, UnderCreation, Valid}
use Rattle.rm_status.specs.declared.row.Row.{Row}
use Rattle.rm_status.specs.Rows.{row_in, state_in, columns_in, state_seen, columns_seen, AreControlRows, AllThere, IsIndexAfter, with_columns}

pub valid_there : (s : State) → is_valid s ≡ true → is_absent s ≡ false
valid_there Absent h = cc
valid_there UnderCreation h = refl
valid_there Valid h = refl

pub valid_is : (s : State) → is_valid s ≡ true → s ≡ Valid
valid_is Valid h = refl
valid_is s h = cc

module _ {C : Type 0} where
  pub found_there : (table : ControlTable) (rows : List (Row C)) (i : ℕ) (row : Row C) → AllThere table rows → row_in rows i ≡ Some row → (is_row_number table i ≡ true) × (is_absent row.state ≡ false)
  found_there table [] i row there e = absurd (cc)
  found_there table (x ∷ rows) i row there e =
      elim (nat_eq x.index i) as (λ t. nat_eq x.index i ≡ t → cond t (Some x) (row_in rows i) ≡ Some row → (is_row_number table i ≡ true) × (is_absent row.state ≡ false)) [
        | true ↦ λ named k. let is : x ≡ row = cc in (subst (λ n. is_row_number table n ≡ true) (eqb-true x.index i named) there.0.0, ap (λ r. is_absent r.state) (sym is) ∙ there.0.1)
        | false ↦ λ _ k. found_there table rows i row there.1 k
      ] refl e

  pub row_there : (table : ControlTable) (rows : List (Row C)) (i : ℕ) (row : Row C) → AreControlRows table rows → row_in rows i ≡ Some row → is_absent row.state ≡ false
  row_there table rows i row held e = (found_there table rows i row held.1 e).1

  -- a row that is found has a number that a row can have
  pub found_fits : (table : ControlTable) (rows : List (Row C)) (i : ℕ) (o : Option (Bor (Row C))) → AllThere table rows → option_copied o ≡ row_in rows i → OnSome o (is_row_number table i ≡ true)
  found_fits table rows i None there e = tt
  found_fits table rows i (Some row) there e = (found_there table rows i row.now there (sym e)).0

  pub row_fits : (table : ControlTable) (rows : List (Row C)) (i : ℕ) (row : Row C) → AllThere table rows → row_in rows i ≡ Some row → (0 < i) × (i < 2 ^ 32)
  row_fits table rows i row there e = table.indexed.within i (found_there table rows i row there e).0

  -- a valid row has a number that a row can have
  pub valid_number : (table : ControlTable) (rows : List (Row C)) (i : ℕ) → AllThere table rows → is_valid (state_in rows i) ≡ true → is_row_number table i ≡ true
  valid_number table rows i there valid = by_row (row_in rows i) refl valid
    where
      by_row : (o : Option (Row C)) → row_in rows i ≡ o → is_valid (state_seen o) ≡ true → is_row_number table i ≡ true
      by_row None e no_way = absurd (cc)
      by_row (Some row) e is = (found_there table rows i row there e).0

  pub valid_fits : (table : ControlTable) (rows : List (Row C)) (i : ℕ) → AllThere table rows → is_valid (state_in rows i) ≡ true → (0 < i) × (i < 2 ^ 32)
  valid_fits table rows i there valid = table.indexed.within i (valid_number table rows i there valid)

  -- a row that there is isn't absent, and one that there isn't is
  pub some_there : (table : ControlTable) (rows : List (Row C)) (i : ℕ) (columns : C) → AreControlRows table rows → Some columns ≡ columns_in rows i → is_absent (state_in rows i) ≡ false
  some_there table rows i columns held has = by_row (row_in rows i) refl has
    where
      by_row : (o : Option (Row C)) → row_in rows i ≡ o → Some columns ≡ columns_seen o → is_absent (state_seen o) ≡ false
      by_row None e no_way = absurd (cc)
      by_row (Some row) e is = (found_there table rows i row held.1 e).1

  pub none_there : (rows : List (Row C)) (i : ℕ) → None ≡ columns_in rows i → state_in rows i ≡ Absent
  none_there rows i none = by_row (row_in rows i) none
    where
      by_row : (o : Option (Row C)) → None ≡ columns_seen o → state_seen o ≡ Absent
      by_row None e = refl
      by_row (Some row) e = absurd (cc)

  -- a valid row has columns
  pub valid_columns : (rows : List (Row C)) (i : ℕ) → is_valid (state_in rows i) ≡ true → (columns : C) × (columns_in rows i ≡ Some columns)
  valid_columns rows i valid = by_row (row_in rows i) valid
    where
      by_row : (o : Option (Row C)) → is_valid (state_seen o) ≡ true → (columns : C) × (columns_seen o ≡ Some columns)
      by_row None no_way = absurd (cc)
      by_row (Some row) is = (row.columns, refl)

  -- between a row and the next one there is none
  pub none_between : (rows : List (Row C)) (last index : ℕ) → IsIndexAfter rows last (Some index) → (i : ℕ) → last < i → i < index → is_valid (state_in rows i) ≡ false
  none_between rows last index after i low high = ap (λ o. is_valid (state_seen o)) (after.2 i low high)

  pub none_above : (rows : List (Row C)) (last : ℕ) → IsIndexAfter rows last None → (i : ℕ) → last < i → is_valid (state_in rows i) ≡ false
  none_above rows last after i low = ap (λ o. is_valid (state_seen o)) (after i low)

  -- no row has the number 0
  pub no_row_0 : (table : ControlTable) (rows : List (Row C)) → AllThere table rows → row_in rows 0 ≡ None
  no_row_0 table rows there = by_row (row_in rows 0) refl
    where
      by_row : (o : Option (Row C)) → row_in rows 0 ≡ o → o ≡ None
      by_row None e = refl
      by_row (Some row) e = let is = (row_fits table rows 0 row there e).0 in absurd (omega (arith, is))

  abbrev pub with_w : C → Row C → Row C
  with_w w row = record { index = row.index; state = row.state; columns = w }

  -- the row of which the columns were written, and the others
  pub written : (rows : List (Row C)) (i j : ℕ) (w : C) → row_in (with_columns rows i w) j ≡ cond (nat_eq i j) (option_map (with_w w) (row_in rows j)) (row_in rows j)
  written [] i j w = elim (nat_eq i j) as (λ t. None ≡ cond t (option_map (with_w w) None) None) [ true ↦ refl | false ↦ refl ]
  written (x ∷ rows) i j w =
      elim (nat_eq x.index i) as (λ s. nat_eq x.index i ≡ s → row_in (cond s (with_w w x ∷ rows) (x ∷ with_columns rows i w)) j ≡ cond (nat_eq i j) (option_map (with_w w) (cond (nat_eq x.index j) (Some x) (row_in rows j))) (cond (nat_eq x.index j) (Some x) (row_in rows j))) [
        | true ↦ λ e. elim (nat_eq x.index j) as (λ t. nat_eq x.index j ≡ t → cond t (Some (with_w w x)) (row_in rows j) ≡ cond (nat_eq i j) (option_map (with_w w) (cond t (Some x) (row_in rows j))) (cond t (Some x) (row_in rows j))) [
          | true ↦ λ f. let same : nat_eq i j ≡ true = grind (arith, nat_tests) in rw same refl
          | false ↦ λ f. let other : nat_eq i j ≡ false = grind (arith, nat_tests) in rw other refl
        ] refl
        | false ↦ λ e. elim (nat_eq x.index j) as (λ t. nat_eq x.index j ≡ t → cond t (Some x) (row_in (with_columns rows i w) j) ≡ cond (nat_eq i j) (option_map (with_w w) (cond t (Some x) (row_in rows j))) (cond t (Some x) (row_in rows j))) [
          | true ↦ λ f. let other : nat_eq i j ≡ false = grind (arith, nat_tests) in rw other refl
          | false ↦ λ f. written rows i j w
        ] refl
      ] refl
