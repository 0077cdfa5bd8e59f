-- The first cell behind an instance.
use Rattle.std.proofs.Common.{◌≡◌, ℕ, ◌<◌, ◌≤◌, inl, inr, List, [], ◌∷◌, refl, Bool, true, false, cond, ◌&&◌, ◌||◌, Some, None, nat_lt, nat_eq, arith}
use Rattle.std.specs.Prelude.{find}
use Rattle.rm_model.specs.Cells.{is_one_of}
use Rattle.std.proofs.lemmas.Bool.Decides.{nat_tests}
use Rattle.rm_model.specs.Names.{Below, IsLeastAbove}
use Rattle.rm_model.specs.declared.instance.Instance.{Instance}
use Rattle.rm_group.specs.Search.{are_rising, Follows, is_present, IsNextInstance}

pub unless_true : (b : Bool) → (b ≡ true → ⊥) → b ≡ false
unless_true true no_way = absurd (no_way refl)
unless_true false no_way = refl

pub both_true : (a b : Bool) → (a && b) ≡ true → (a ≡ true) × (b ≡ true)
both_true true b h = (refl, h)
both_true false b h = absurd (cc)

-- a rising list is above its first number
above_first : (x : ℕ) (xs : List ℕ) (y : ℕ) → are_rising (x ∷ xs) ≡ true → is_one_of xs y ≡ true → x < y
above_first x [] y rising in_list = absurd (cc)
above_first x (z ∷ zs) y rising in_list =
    let parts = both_true (nat_lt x z) (are_rising (z ∷ zs)) rising in
    let less : x < z = grind (arith, nat_tests) in
    elim (nat_eq z y) as (λ t. nat_eq z y ≡ t → (t || is_one_of zs y) ≡ true → x < y) [
      | true ↦ λ same _. grind (arith, nat_tests)
      | false ↦ λ _ more. let further = above_first z zs y parts.1 more in omega arith
    ] refl in_list

rising_more : (x : ℕ) (xs : List ℕ) → are_rising (x ∷ xs) ≡ true → are_rising xs ≡ true
rising_more x [] rising = refl
rising_more x (y ∷ ys) rising = (both_true (nat_lt x y) (are_rising (y ∷ ys)) rising).1

module _ (c : ℕ) where
  -- the first column above one is above it, and is one of them
  pub first_in : (xs : List ℕ) (d : ℕ) → find (λ x. nat_lt c x) xs ≡ Some d → (c < d) × (is_one_of xs d ≡ true)
  first_in [] d found = absurd (cc)
  first_in (x ∷ xs) d found =
      elim (nat_lt c x) as (λ t. nat_lt c x ≡ t → cond t (Some x) (find (λ y. nat_lt c y) xs) ≡ Some d → (c < d) × ((nat_eq x d || is_one_of xs d) ≡ true)) [
        | true ↦ λ over is. let same : x ≡ d = cc in ((grind (arith, nat_tests)), here x d (is_one_of xs d) same)
        | false ↦ λ over is. let more = first_in xs d is in (more.0, there (nat_eq x d) (is_one_of xs d) more.1)
      ] refl found
    where
      here : (x d : ℕ) (b : Bool) → x ≡ d → (nat_eq x d || b) ≡ true
      here x d b same = let is : nat_eq x d ≡ true = grind (arith, nat_tests) in rw is refl

      there : (a b : Bool) → b ≡ true → (a || b) ≡ true
      there true b is = refl
      there false b is = is

  -- of the columns above one the first is the least
  pub first_least : (xs : List ℕ) (d y : ℕ) → are_rising xs ≡ true → find (λ x. nat_lt c x) xs ≡ Some d → is_one_of xs y ≡ true → c < y → d ≤ y
  first_least [] d y rising found in_list over = absurd (cc)
  first_least (x ∷ xs) d y rising found in_list over =
      elim (nat_lt c x) as (λ t. nat_lt c x ≡ t → cond t (Some x) (find (λ y. nat_lt c y) xs) ≡ Some d → d ≤ y) [
        | true ↦ λ _ is. let same : x ≡ d = cc in
            elim (nat_eq x y) as (λ t. nat_eq x y ≡ t → (t || is_one_of xs y) ≡ true → d ≤ y) [
              | true ↦ λ e _. grind (arith, nat_tests)
              | false ↦ λ e more. let further = above_first x xs y rising more in omega arith
            ] refl in_list
        | false ↦ λ under is.
            elim (nat_eq x y) as (λ t. nat_eq x y ≡ t → (t || is_one_of xs y) ≡ true → d ≤ y) [
              | true ↦ λ e _. grind (arith, nat_tests)
              | false ↦ λ e more. first_least xs d y (rising_more x xs rising) is more over
            ] refl in_list
      ] refl found

  pub none_above : (xs : List ℕ) (y : ℕ) → find (λ x. nat_lt c x) xs ≡ None → c < y → is_one_of xs y ≡ false
  none_above [] y none over = refl
  none_above (x ∷ xs) y none over =
      elim (nat_lt c x) as (λ t. nat_lt c x ≡ t → cond t (Some x) (find (λ y. nat_lt c y) xs) ≡ None → (nat_eq x y || is_one_of xs y) ≡ false) [
        | true ↦ λ _ is. absurd (cc)
        | false ↦ λ under is.
            let other : nat_eq x y ≡ false = grind (arith, nat_tests) in
            rw other (none_above xs y is over)
      ] refl none

-- a list that isn't empty is above the empty one
above_empty : (is_row : List ℕ → Bool) (index : List ℕ) → is_row [] ≡ false → is_row index ≡ true → Below [] index
above_empty is_row [] empty row = absurd (cc)
above_empty is_row (x ∷ index) empty row = refl

module _ (columns : List ℕ) (is_row : List ℕ → Bool) (start : Instance) where
  abbrev here : List ℕ → Bool
  here index = is_present columns is_row (record { column = start.column; index = index })

  no_more_here : IsLeastAbove here start.index None → (at : Instance) → start.column ≡ at.column → Below start.index at.index → is_present columns is_row at ≡ false
  no_more_here none at same under = rw (← same) (none at.index under)

  pub next_here : (index : List ℕ) → IsLeastAbove here start.index (Some index) → IsNextInstance columns is_row start (Some (record { column = start.column; index = index }))
  next_here index least = (inr (refl, least.0), least.1, λ at ahead under. nearer at ahead under)
    where
      nearer : (at : Instance) → Follows start at → Follows at (record { column = start.column; index = index }) → is_present columns is_row at ≡ false
      nearer at (inl less) (inl more) = absurd (omega arith)
      nearer at (inl less) (inr same) = absurd (omega (arith, same.0))
      nearer at (inr same) (inl more) = absurd (omega (arith, same.0))
      nearer at (inr same) (inr under) = rw (← same.0) (least.2 at.index same.1 under.1)

  module _ (none_here : IsLeastAbove here start.index None) where
    pub next_no_column : find (λ x. nat_lt start.column x) columns ≡ None → IsNextInstance columns is_row start None
    next_no_column none at (inl less) = rw (none_above start.column columns at.column none less) refl
    next_no_column none at (inr same) = no_more_here none_here at same.0 same.1

    module _ (empty : is_row [] ≡ false) (column : ℕ) (first : find (λ x. nat_lt start.column x) columns ≡ Some column) where
      pub next_no_row : IsLeastAbove is_row [] None → IsNextInstance columns is_row start None
      next_no_row none at (inl less) = unless_true (is_present columns is_row at) (λ present.
          let parts = both_true (is_one_of columns at.column) (is_row at.index) present in
          let gone = none at.index (above_empty is_row at.index empty parts.1) in
          cc)
      next_no_row none at (inr same) = no_more_here none_here at same.0 same.1

      pub next_below : (index : List ℕ) → are_rising columns ≡ true → IsLeastAbove is_row [] (Some index) → IsNextInstance columns is_row start (Some (record { column = column; index = index }))
      next_below index rising least =
          let found = first_in start.column columns column first in
          (inl found.0, (rw found.1 least.1), λ at ahead under. nearer at ahead under)
        where
          nearer : (at : Instance) → Follows start at → Follows at (record { column = column; index = index }) → is_present columns is_row at ≡ false
          nearer at (inr same) under = no_more_here none_here at same.0 same.1
          nearer at (inl less) (inl more) = unless_true (is_present columns is_row at) (λ present.
              let parts = both_true (is_one_of columns at.column) (is_row at.index) present in
              let up = first_least start.column columns column at.column rising first parts.0 less in
              omega arith)
          nearer at (inl less) (inr under) = unless_true (is_present columns is_row at) (λ present.
              let parts = both_true (is_one_of columns at.column) (is_row at.index) present in
              let gone = least.2 at.index (above_empty is_row at.index empty parts.1) under.1 in
              cc)
