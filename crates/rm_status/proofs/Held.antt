-- How many rows there are, counted index by index.
use Rattle.std.proofs.Common.{◌≡◌, ◌^◌, ℕ, ◌<◌, ◌+◌, zero, suc, Bool, true, false, cond, not, ◌||◌, List, [], ◌∷◌, length, Option, Some, refl, sym, ap, arith, nat_eq}
use Rattle.std.specs.Prelude.{is_some}
use borrow.Author.Tests.{eqb-true}
use Rattle.rm_model.specs.ControlTable.{ControlTable}
use Rattle.rm_status.specs.declared.row.Row.{Row}
use Rattle.std.proofs.lemmas.Bool.Decides.{nat_tests}
use Rattle.rm_model.specs.ControlRows.{is_absent}
use Rattle.rm_model.specs.Judgement.{count_below, is_row_number}
use Rattle.rm_status.specs.Rows.{row_in, state_in, state_seen, Rising, AllThere, AreControlRows}
use Rattle.rm_status.proofs.RowEdits.{above_none, eq_more, eq_no}

pub count_none : (p : ℕ → Bool) (n : ℕ) → ((i : ℕ) → i < n → p i ≡ false) → count_below p n ≡ 0
unfolding count_below
count_none p zero h = refl
count_none p (suc n) h = let here : ◌≡◌ {A = ℕ} (cond (p n) 1 0) 0 = ap (λ b. cond b 1 0) (h n (omega arith)) in omega (arith, here, count_none p n (λ i lt. h i (omega arith)))

apart_less : (a n : ℕ) → a < suc n → (a ≡ n → ⊥) → a < n
apart_less a n lt other = omega arith

pub count_one : (a n : ℕ) → a < n → count_below (nat_eq a) n ≡ 1
unfolding count_below
count_one a zero lt = absurd (omega arith)
count_one a (suc n) lt =
    elim (nat_eq a n) as (λ b. nat_eq a n ≡ b → cond b 1 0 + count_below (nat_eq a) n ≡ 1) [
      | true ↦ λ e. let is = eqb-true a n e in omega (arith, count_none (nat_eq a) n (λ i under. eq_more a i (omega arith)))
      | false ↦ λ e. let less : a < n = under_last e in omega (arith, count_one a n less)
    ] refl
  where
    under_last : nat_eq a n ≡ false → a < n
    under_last e = let other = eq_no a n e in apart_less a n lt other

add_tests : (a b : Bool) → (a ≡ true → b ≡ false) → cond (a || b) 1 0 ≡ cond a 1 0 + cond b 1 0
add_tests true b h = let e : ◌≡◌ {A = ℕ} (cond b 1 0) 0 = ap (λ x. cond x 1 0) (h refl) in omega (arith, e)
add_tests false b h = omega arith

pub count_or : (p q : ℕ → Bool) (n : ℕ) → ((i : ℕ) → p i ≡ true → q i ≡ false) → count_below (λ i. p i || q i) n ≡ count_below p n + count_below q n
unfolding count_below
count_or p q zero h = refl
count_or p q (suc n) h = omega (arith, add_tests (p n) (q n) (h n), count_or p q n h)

-- a number that a row can have
pub below : (table : ControlTable) (i : ℕ) → is_row_number table i ≡ true → i < (2 ^ 32)
below table i h = (table.indexed.within i h).1

module _ {C : Type 0} where
  abbrev pub AllBelow : ℕ → List (Row C) → Type 0
  AllBelow n [] = Unit {0}
  AllBelow n (r ∷ rows) = (r.index < n) × AllBelow n rows

  or_row : (b : Bool) (r : Row C) (o : Option (Row C)) → is_some (cond b (Some r) o) ≡ (b || is_some o)
  or_row true r o = refl
  or_row false r o = refl

  pub length-count : (rows : List (Row C)) (n : ℕ) → Rising rows → AllBelow n rows → length rows ≡ count_below (λ i. is_some (row_in rows i)) n
  length-count [] n rise low = sym (count_none (λ i. false) n (λ i _. refl))
  length-count (r ∷ rows) n rise low =
      let split : count_below (λ i. is_some (row_in (r ∷ rows) i)) n ≡ count_below (λ i. nat_eq r.index i || is_some (row_in rows i)) n = ap (λ p. count_below p n) (λ d i. or_row (nat_eq r.index i) r (row_in rows i) d) in
      let apart = count_or (nat_eq r.index) (λ i. is_some (row_in rows i)) n (λ i e. let is = eqb-true r.index i e in ap is_some (above_none r.index i rows rise.0 (omega arith))) in
      omega (arith, split, apart, count_one r.index n low.0, length-count rows n rise.1 low.1)

  pub all_below : (table : ControlTable) (rows : List (Row C)) → AllThere table rows → AllBelow (2 ^ 32) rows
  all_below table [] h = tt
  all_below table (r ∷ rows) h = (below table r.index h.0.0, all_below table rows h.1)

  -- how many rows there are
  pub length-counted : (table : ControlTable) (rows : List (Row C)) → AreControlRows table rows → length rows ≡ count_below (λ i. is_some (row_in rows i)) (2 ^ 32)
  length-counted table rows h = length-count rows (2 ^ 32) h.0 (all_below table rows h.1)

  -- a row is held where its state isn't absent
  pub held_is : (table : ControlTable) (rows : List (Row C)) (i : ℕ) → AllThere table rows → not (is_absent (state_in rows i)) ≡ is_some (row_in rows i)
  held_is table [] i h = refl
  held_is table (r ∷ rows) i h = elim (nat_eq r.index i) as (λ t. not (is_absent (state_seen (cond t (Some r) (row_in rows i)))) ≡ is_some (cond t (Some r) (row_in rows i))) [ true ↦ ap not h.0.1 | false ↦ held_is table rows i h.1 ]
