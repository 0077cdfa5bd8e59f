-- Rows that are alike are judged alike.
use Rattle.std.proofs.Common.{◌≡◌, ℕ, ◌^◌, List, [], ◌∷◌, Bool, true, false, cond, ◌&&◌, ◌||◌, not, Option, Some, None, find, refl, ap, subst, ◌∙◌, nat_eq, nat_lt}
use Rattle.std.specs.Prelude.{is_some, unwrap_or}
use Rattle.std.specs.List.{list_all, AllByRecursion}
use Rattle.std.specs.Option.{option_or}
use borrow.Author.Tests.{eqb-true}
use Rattle.rm_val.specs.Val.{Val}
use Rattle.rm_model.specs.declared.place.Place.{Place}
use Rattle.rm_model.specs.declared.place.Place.TheVariants.{Outside, Entry, Column, Cell}
use Rattle.rm_model.specs.Journal.{value_given}
use Rattle.rm_model.specs.ControlTable.{Column as TableColumn, ControlTable, column_of, row_index, default_of, is_ready}
use Rattle.rm_model.specs.ControlRows.{Beginning, cell_name, set_ask, is_absent}
use Rattle.rm_model.specs.Judgement.{Bindings, name_at, place_of, is_made, row_fault, of_columns, set_before, is_ready_with, is_held_or_made, count_below, is_crowded, is_again, together_fault, second_pass}
use Rattle.rm_model.specs.Alike.{IsSameColumn, HasSameColumns, AreAlike}

-- a Set gives the same to two columns of which each shows the same, and was set as well as the other
pub with_given : (given a b : Option Val) (default : Val) → unwrap_or a default ≡ unwrap_or b default → unwrap_or (option_or given a) default ≡ unwrap_or (option_or given b) default
with_given None a b default same = same
with_given (Some value) a b default same = refl

pub is_given : (given a b : Option Val) → is_some a ≡ is_some b → is_some (option_or given a) ≡ is_some (option_or given b)
is_given None a b same = same
is_given (Some value) a b same = refl

module _ (t : ControlTable) (a b : ℕ → Option Val) where
  -- what holds of each of some columns holds of the one that is found by its number
  found : (columns : List TableColumn) → AllByRecursion (IsSameColumn t a b) columns → (n : ℕ) → is_some (find (λ c. nat_eq c.number n) columns) ≡ true → unwrap_or (a n) (default_of t n) ≡ unwrap_or (b n) (default_of t n)
  found [] all n is = absurd (cc)
  found (c ∷ more) all n is =
      elim (nat_eq c.number n) as (λ s. nat_eq c.number n ≡ s → is_some (cond s (Some c) (find (λ x. nat_eq x.number n) more)) ≡ true → unwrap_or (a n) (default_of t n) ≡ unwrap_or (b n) (default_of t n)) [
        | true ↦ λ e _. subst (λ m. unwrap_or (a m) (default_of t m) ≡ unwrap_or (b m) (default_of t m)) (eqb-true c.number n e) all.0.shown
        | false ↦ λ _ later. found more all.1 n later
      ] refl is

  module _ (given : ℕ → Option Val) where
    abbrev with_a : ℕ → Option Val
    with_a = of_columns t (λ n. option_or (given n) (a n))

    abbrev with_b : ℕ → Option Val
    with_b = of_columns t (λ n. option_or (given n) (b n))

    shows : HasSameColumns t a b → (n : ℕ) → unwrap_or (with_a n) (default_of t n) ≡ unwrap_or (with_b n) (default_of t n)
    shows all n =
        elim (is_some (column_of t n)) as (λ s. is_some (column_of t n) ≡ s → unwrap_or (cond s (option_or (given n) (a n)) None) (default_of t n) ≡ unwrap_or (cond s (option_or (given n) (b n)) None) (default_of t n)) [
          | true ↦ λ e. with_given (given n) (a n) (b n) (default_of t n) (found t.columns all n e)
          | false ↦ λ _. refl
        ] refl

    one : (c : TableColumn) → IsSameColumn t a b c → (not c.needed || is_some (with_a c.number)) ≡ (not c.needed || is_some (with_b c.number))
    one c same =
        elim c.needed as (λ s. c.needed ≡ s → (not s || is_some (with_a c.number)) ≡ (not s || is_some (with_b c.number))) [
          | true ↦ λ e. elim (is_some (column_of t c.number)) as (λ s. is_some (cond s (option_or (given c.number) (a c.number)) None) ≡ is_some (cond s (option_or (given c.number) (b c.number)) None)) [
            | true ↦ is_given (given c.number) (a c.number) (b c.number) (same.needed e)
            | false ↦ refl
          ]
          | false ↦ λ _. refl
        ] refl

    all_set : (columns : List TableColumn) → AllByRecursion (IsSameColumn t a b) columns → list_all (λ c. not c.needed || is_some (with_a c.number)) columns ≡ list_all (λ c. not c.needed || is_some (with_b c.number)) columns
    all_set [] all = refl
    all_set (c ∷ more) all =
        ap (λ s. s && list_all (λ x. not x.needed || is_some (with_a x.number)) more) (one c all.0)
        ∙ ap (λ s. (not c.needed || is_some (with_b c.number)) && s) (all_set more all.1)

    pub ready_alike : HasSameColumns t a b → is_ready t with_a ≡ is_ready t with_b
    ready_alike all =
        ap (λ s. s && t.go_together (λ n. unwrap_or (with_a n) (default_of t n))) (all_set t.columns all)
        ∙ ap (λ (f : ℕ → Val). list_all (λ c. not c.needed || is_some (with_b c.number)) t.columns && t.go_together f) (λ d n. (shows all n) d)

-- columns are the same as they are
same_itself : (t : ControlTable) (set : ℕ → Option Val) (columns : List TableColumn) → AllByRecursion (IsSameColumn t set set) columns
same_itself t set [] = tt
same_itself t set (c ∷ more) = (record { shown = refl; needed = λ _. refl }, same_itself t set more)

module _ (t : ControlTable) (rows others : Beginning) (alike : AreAlike t rows others) (bs : Bindings) where
  crowded_alike : is_crowded t rows bs ≡ is_crowded t others bs
  crowded_alike = ap (λ (f : ℕ → Bool). nat_lt t.most (count_below f (2 ^ 32))) (λ d row. (held_alike row) d)
    where
      held_alike : (row : ℕ) → is_held_or_made t rows bs (row_index t row) ≡ is_held_or_made t others bs (row_index t row)
      held_alike row = ap (λ s. not (is_absent s) || is_made s (set_ask t bs (row_index t row))) (alike.states row)

  -- a row is as ready among both, also where it isn't there
  as_ready : (row : ℕ) → is_ready_with t rows bs (row_index t row) ≡ is_ready_with t others bs (row_index t row)
  as_ready row =
      ready_alike t (set_before t rows (row_index t row)) (set_before t others (row_index t row)) (λ column. value_given bs (cell_name t.entry column (row_index t row)))
      (subst (λ s. HasSameColumns t (set_before t rows (row_index t row)) (λ column. cond (is_absent s) (t.rules.first (row_index t row) column) (others.set (row_index t row) column))) (alike.states row) (by_state (is_absent (rows.state (row_index t row))) refl))
    where
      by_state : (b : Bool) → is_absent (rows.state (row_index t row)) ≡ b → HasSameColumns t (λ column. cond b (t.rules.first (row_index t row) column) (rows.set (row_index t row) column)) (λ column. cond b (t.rules.first (row_index t row) column) (others.set (row_index t row) column))
      by_state true e = same_itself t (t.rules.first (row_index t row)) t.columns
      by_state false e = alike.columns row e

  -- the second pass finds the same wrong with a Set
  pub second_pass_alike : (k : ℕ) → second_pass t rows bs k ≡ second_pass t others bs k
  second_pass_alike k = of_place (place_of t (name_at bs k))
    where
      of_place : (p : Place) → together_fault t rows bs k p ≡ together_fault t others bs k p
      of_place Outside = refl
      of_place Entry = refl
      of_place (Column c) = refl
      of_place (Cell c row) =
          ap (λ b. row_fault t (row_index t row) (rows.state (row_index t row)) (set_ask t bs (row_index t row)) b (is_crowded t rows bs) (is_again bs k) c) (as_ready row)
          ∙ ap (λ s. row_fault t (row_index t row) s (set_ask t bs (row_index t row)) (is_ready_with t others bs (row_index t row)) (is_crowded t rows bs) (is_again bs k) c) (alike.states row)
          ∙ ap (λ s. row_fault t (row_index t row) (others.state (row_index t row)) (set_ask t bs (row_index t row)) (is_ready_with t others bs (row_index t row)) s (is_again bs k) c) crowded_alike
