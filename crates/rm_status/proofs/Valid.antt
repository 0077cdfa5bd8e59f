-- How many rows are valid, before and after a Set.
use Rattle.std.proofs.Common.{◌≡◌, ◌^◌, ℕ, ◌<◌, ◌≤◌, zero, suc, Bool, true, false, cond, ◌||◌, ◌&&◌, List, [], ◌∷◌, length, filter, Option, Some, None, find, refl, sym, ap, subst, ◌∙◌, arith, get_or, nat_eq}
use Rattle.std.specs.Option.{option_map}
use borrow.Author.Tests.{eqb-true}
use Rattle.rm_val.specs.Val.{Val}
use Rattle.rm_model.specs.Journal.{Assignment}
use Rattle.rm_model.specs.ControlTable.{row_index, ControlTable}
use Rattle.rm_model.specs.ControlRows.{Beginning, value_ask, next_state, is_valid}
use Rattle.rm_model.specs.Judgement.{Bindings, nothing_bound, name_at, place_of, count_below}
use Rattle.rm_model.specs.Reserves.{state_after, makes_valid, activates_at, activates, count_valid, count_valid_after}
use Rattle.rm_model.specs.declared.row.StatusKind.{StatusKind}
use Rattle.rm_model.specs.declared.row.State.{State}
use Rattle.rm_model.specs.declared.place.Place.{Place}
use Rattle.rm_model.specs.declared.place.Place.TheVariants.{Outside, Entry, Column, Cell}
use Rattle.rm_status.specs.declared.row.Row.{Row}
use Rattle.rm_status.specs.Rows.{row_in, state_seen, state_in, rows_before, Rising, AreControlRows}
use Rattle.rm_status.specs.Commit.{is_cell, is_status}
use Rattle.rm_status.proofs.RowsBefore.{valid_before}
use Rattle.rm_status.proofs.PlaceLemmas.{is_cell_name}
use Rattle.rm_status.proofs.RowEdits.{above_none}
use Rattle.rm_status.proofs.Held.{AllBelow, count_none, count_one, count_or, all_below}

pub count_less : (p q : ℕ → Bool) (n : ℕ) → ((i : ℕ) → p i ≡ true → q i ≡ true) → count_below p n ≤ count_below q n
unfolding count_below
count_less p q zero h = omega arith
count_less p q (suc n) h = omega (arith, one (p n) (q n) (h n), count_less p q n h)
  where
    one : (a b : Bool) → (a ≡ true → b ≡ true) → cond a 1 0 ≤ cond b 1 0
    one true b k = rw (k refl) (omega arith)
    one false b k = omega arith

-- a row that isn't valid after one change and is after another was asked something
module _ (t : ControlTable) (before : Beginning) (bs : Bindings) where
  asked : (kind : StatusKind) (o : Option Assignment) (s : State) → is_valid (next_state (value_ask kind (option_map (λ a. a.value) o)) s) ≡ true → is_valid s ≡ false → (a : Assignment) × (o ≡ Some a)
  asked kind (Some a) s h k = (a, refl)
  asked kind None s h k = absurd (cc)

  place_found : (p : Assignment → Bool) (l : Bindings) (a : Assignment) → find p l ≡ Some a → (k : ℕ) × (k < length l) × (p (get_or l k nothing_bound) ≡ true)
  place_found p [] a h = absurd (cc)
  place_found p (b ∷ l) a h =
      elim (p b) as (λ x. p b ≡ x → cond x (Some b) (find p l) ≡ Some a → (k : ℕ) × (k < length (b ∷ l)) × (p (get_or (b ∷ l) k nothing_bound) ≡ true)) [
        | true ↦ λ e _. (0, omega arith, e)
        | false ↦ λ e more. let rest = place_found p l a more in (suc rest.0, omega (arith, rest.1), rest.2)
      ] refl h

  at_status : (row : ℕ) (p : Place) → is_cell t.status row p ≡ true → makes_valid t before bs (row_index t row) ≡ true → activates_at t before bs p ≡ true
  at_status row Outside here made = absurd (cc)
  at_status row Entry here made = absurd (cc)
  at_status row (Column c) here made = absurd (cc)
  at_status row (Cell c number) here made =
      elim (nat_eq number row) as (λ x. nat_eq number row ≡ x → (x && nat_eq c t.status) ≡ true → (nat_eq c t.status && makes_valid t before bs (row_index t number)) ≡ true) [
        | true ↦ λ e is. let made_there : makes_valid t before bs (row_index t number) ≡ true = subst (λ n. makes_valid t before bs (row_index t n) ≡ true) (sym (eqb-true number row e)) made in rw (is, made_there) refl
        | false ↦ λ _ no. absurd (cc)
      ] refl here

  no_more : ((k : ℕ) → k < length bs → activates t before bs k ≡ false) → (row : ℕ) → is_valid (state_after t before bs (row_index t row)) ≡ true → is_valid (before.state (row_index t row)) ≡ true
  no_more none row after =
      elim (is_valid (before.state (row_index t row))) as (λ x. is_valid (before.state (row_index t row)) ≡ x → x ≡ true) [
        | true ↦ λ _. refl
        | false ↦ λ was.
            let made : makes_valid t before bs (row_index t row) ≡ true = rw (after, was) refl in
            let given = asked t.status_kind (find (is_status t row) bs) (before.state (row_index t row)) after was in
            let at = place_found (is_status t row) bs given.0 given.1 in
            let here : is_cell t.status row (place_of t (name_at bs at.0)) ≡ true = is_cell_name t t.entry (name_at bs at.0) t.status row ∙ at.2 in
            let yes : activates t before bs at.0 ≡ true = at_status row (place_of t (name_at bs at.0)) here made in
            let no : activates t before bs at.0 ≡ false = none at.0 at.1 in
            absurd (cc)
      ] refl

  -- where no binding makes a row valid, no more rows are valid than before
  pub none_activated : ((k : ℕ) → k < length bs → activates t before bs k ≡ false) → count_valid_after t before bs ≤ count_valid t before
  none_activated none = count_less (λ row. is_valid (state_after t before bs (row_index t row))) (λ row. is_valid (before.state (row_index t row))) (2 ^ 32) (no_more none)

module _ {C : Type 0} where
  pub valid-count : (rows : List (Row C)) (n : ℕ) → Rising rows → AllBelow n rows → length (filter (λ r. is_valid r.state) rows) ≡ count_below (λ i. is_valid (state_in rows i)) n
  valid-count [] n rise low = sym (count_none (λ i. false) n (λ i _. refl))
  valid-count (r ∷ rows) n rise low =
      elim (is_valid r.state) as (λ v. is_valid r.state ≡ v → length (cond v (r ∷ filter (λ x. is_valid x.state) rows) (filter (λ x. is_valid x.state) rows)) ≡ count_below (λ i. is_valid (state_in (r ∷ rows) i)) n) [
        | true ↦ λ v.
            let split : count_below (λ i. is_valid (state_in (r ∷ rows) i)) n ≡ count_below (λ i. nat_eq r.index i || is_valid (state_in rows i)) n = ap (λ p. count_below p n) (λ d i. (or_row v i) d) in
            let apart = count_or (nat_eq r.index) (λ i. is_valid (state_in rows i)) n (λ i e. no_other i e) in
            omega (arith, split, apart, count_one r.index n low.0, valid-count rows n rise.1 low.1)
        | false ↦ λ v.
            let same : count_below (λ i. is_valid (state_in (r ∷ rows) i)) n ≡ count_below (λ i. is_valid (state_in rows i)) n = ap (λ p. count_below p n) (λ d i. (not_row v i) d) in
            valid-count rows n rise.1 low.1 ∙ sym same
      ] refl
    where
      no_other : (i : ℕ) → nat_eq r.index i ≡ true → is_valid (state_in rows i) ≡ false
      no_other i e = let is = eqb-true r.index i e in ap (λ o. is_valid (state_seen o)) (above_none r.index i rows rise.0 (omega arith))

      or_row : is_valid r.state ≡ true → (i : ℕ) → is_valid (state_in (r ∷ rows) i) ≡ (nat_eq r.index i || is_valid (state_in rows i))
      or_row v i = elim (nat_eq r.index i) as (λ t. is_valid (state_seen (cond t (Some r) (row_in rows i))) ≡ (t || is_valid (state_in rows i))) [ true ↦ v | false ↦ refl ]

      not_row : is_valid r.state ≡ false → (i : ℕ) → is_valid (state_in (r ∷ rows) i) ≡ is_valid (state_in rows i)
      not_row v i = elim (nat_eq r.index i) as (λ t. nat_eq r.index i ≡ t → is_valid (state_seen (cond t (Some r) (row_in rows i))) ≡ is_valid (state_in rows i)) [ true ↦ λ e. v ∙ sym (no_other i e) | false ↦ λ _. refl ] refl

  -- how many rows are valid
  pub valid-counted : (table : ControlTable) (set_to : C → ℕ → Option Val) (items now : List (Row C)) → items ≡ now → AreControlRows table items → length (filter (λ r. is_valid r.state) items) ≡ count_valid table (rows_before table set_to now)
  valid-counted table set_to items now view h =
      valid-count items (2 ^ 32) h.0 (all_below table items h.1)
      ∙ sym (valid_before table set_to items) ∙ ap (λ l. count_valid table (rows_before table set_to l)) view

pub filter-short : {X : Type 0} (p : X → Bool) (xs : List X) → length (filter p xs) ≤ length xs
filter-short p [] = omega arith
filter-short p (x ∷ xs) = elim (p x) as (λ b. length (cond b (x ∷ filter p xs) (filter p xs)) ≤ suc (length xs)) [ true ↦ let more = filter-short p xs in omega (arith, more) | false ↦ let more = filter-short p xs in omega (arith, more) ]
