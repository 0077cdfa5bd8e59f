-- The least row above one that has a part.
use Rattle.std.proofs.Common.{◌≡◌, ℕ, ◌<◌, ◌≤◌, ◌⊎◌, inl, inr, List, [], ◌∷◌, filter, Bool, true, false, cond, ◌||◌, Option, Some, None, find, refl, sym, subst, nat_eq, nat_le, nat_lt, min, arith}
use Rattle.std.specs.Prelude.{is_some}
use Rattle.std.specs.Option.{option_map_or}
use Rattle.std.specs.List.{reduce, fold, filter_map, cons_option}
use Rattle.std.proofs.lemmas.Bool.Decides.{nat_tests}
use Rattle.rm_model.specs.Numbers.{IsNumberAbove}
use Rattle.rm_pool.specs.declared.slot.Slot.{Slot}
use Rattle.rm_pool.specs.Slots.{is_of, holder, part_seen, has_part}
use Rattle.rm_pool.proofs.Spares.{eq_itself}

-- whether a number is among some
abbrev is_among : List ℕ → ℕ → Bool
is_among [] n = false
is_among (x ∷ xs) n = nat_eq x n || is_among xs n

or_first : (a b : Bool) → a ≡ true → (a || b) ≡ true
or_first a b h = rw h refl

or_second : (a b : Bool) → b ≡ true → (a || b) ≡ true
or_second true b h = refl
or_second false b h = h

neither : (a b : Bool) → a ≡ false → b ≡ false → (a || b) ≡ false
neither a b h k = rw (h, k) refl

less_is : (n k : ℕ) → nat_lt n k ≡ true → n < k
less_is n k h = grind (arith, nat_tests)

less_isnt : (n k : ℕ) → nat_lt n k ≡ false → k ≤ n
less_isnt n k h = grind (arith, nat_tests)

other_below : (x n : ℕ) → n < x → nat_eq x n ≡ false
other_below x n h = grind (arith, nat_tests)

other_above : (x n : ℕ) → x < n → nat_eq x n ≡ false
other_above x n h = grind (arith, nat_tests)

module _ (row : ℕ) where
  abbrev above : List ℕ → List ℕ
  above xs = filter (λ n. nat_lt row n) xs

  -- the least of a number and of those of some that are above the row
  abbrev IsLeastOf : ℕ → List ℕ → ℕ → Type 0
  IsLeastOf first xs least = (least ≤ first) × ((least ≡ first) ⊎ ((row < least) × (is_among xs least ≡ true))) × ((n : ℕ) → row < n → n < least → is_among xs n ≡ false)

  fold_least : (xs : List ℕ) (first : ℕ) → IsLeastOf first xs (fold min first (above xs))
  fold_least [] first = (omega arith, inl refl, λ n _ _. refl)
  fold_least (x ∷ xs) first =
      elim (nat_lt row x) as (λ t. nat_lt row x ≡ t → IsLeastOf first (x ∷ xs) (fold min first (cond t (x ∷ above xs) (above xs)))) [
        | true ↦ λ e. taken (less_is row x e) (fold min (min first x) (above xs)) (fold_least xs (min first x))
        | false ↦ λ e. left (less_isnt row x e) (fold min first (above xs)) (fold_least xs first)
      ] refl
    where
      taken : row < x → (least : ℕ) → IsLeastOf (min first x) xs least → IsLeastOf first (x ∷ xs) least
      taken over least given = (omega (arith, given.0), which given.1, λ n low under. neither (nat_eq x n) (is_among xs n) (other_below x n (omega (arith, given.0, under))) (given.2 n low under))
        where
          either : least ≡ min first x → (least ≡ first) ⊎ (least ≡ x)
          either same = elim (nat_le first x) as (λ t. nat_le first x ≡ t → (least ≡ first) ⊎ (least ≡ x)) [
            | true ↦ λ e. inl (let under : first ≤ x = grind (arith, nat_tests) in omega (arith, same, under))
            | false ↦ λ e. inr (let more : x < first = grind (arith, nat_tests) in omega (arith, same, more))
          ] refl

          its : (least ≡ first) ⊎ (least ≡ x) → (least ≡ first) ⊎ ((row < least) × (is_among (x ∷ xs) least ≡ true))
          its (inl same) = inl same
          its (inr same) = inr (omega (arith, same, over), or_first (nat_eq x least) (is_among xs least) (subst (λ n. nat_eq x n ≡ true) (sym same) (eq_itself x)))

          which : (least ≡ min first x) ⊎ ((row < least) × (is_among xs least ≡ true)) → (least ≡ first) ⊎ ((row < least) × (is_among (x ∷ xs) least ≡ true))
          which (inl same) = its (either same)
          which (inr (low, among)) = inr (low, or_second (nat_eq x least) (is_among xs least) among)

      left : x ≤ row → (least : ℕ) → IsLeastOf first xs least → IsLeastOf first (x ∷ xs) least
      left under least given = (given.0, which given.1, λ n low less. neither (nat_eq x n) (is_among xs n) (other_above x n (omega (arith, under, low))) (given.2 n low less))
        where
          which : (least ≡ first) ⊎ ((row < least) × (is_among xs least ≡ true)) → (least ≡ first) ⊎ ((row < least) × (is_among (x ∷ xs) least ≡ true))
          which (inl same) = inl same
          which (inr (low, among)) = inr (low, or_second (nat_eq x least) (is_among xs least) among)

  least_among : (xs : List ℕ) → IsNumberAbove (is_among xs) row (reduce min (above xs))
  least_among [] = λ n _. refl
  least_among (x ∷ xs) =
      elim (nat_lt row x) as (λ t. nat_lt row x ≡ t → IsNumberAbove (is_among (x ∷ xs)) row (reduce min (cond t (x ∷ above xs) (above xs)))) [
        | true ↦ λ e. taken (less_is row x e) (fold min x (above xs)) (fold_least xs x)
        | false ↦ λ e. left (less_isnt row x e) (reduce min (above xs)) (least_among xs)
      ] refl
    where
      taken : row < x → (least : ℕ) → IsLeastOf x xs least → IsNumberAbove (is_among (x ∷ xs)) row (Some least)
      taken over least given = with_which given.1
        where
          gap : (n : ℕ) → row < n → n < least → is_among (x ∷ xs) n ≡ false
          gap n low under = neither (nat_eq x n) (is_among xs n) (other_below x n (omega (arith, given.0, under))) (given.2 n low under)

          with_which : (least ≡ x) ⊎ ((row < least) × (is_among xs least ≡ true)) → IsNumberAbove (is_among (x ∷ xs)) row (Some least)
          with_which (inl same) = (omega (arith, same, over), or_first (nat_eq x least) (is_among xs least) (subst (λ n. nat_eq x n ≡ true) (sym same) (eq_itself x)), gap)
          with_which (inr (low, among)) = (low, or_second (nat_eq x least) (is_among xs least) among, gap)

      left : x ≤ row → (found : Option ℕ) → IsNumberAbove (is_among xs) row found → IsNumberAbove (is_among (x ∷ xs)) row found
      left under None none = λ n low. neither (nat_eq x n) (is_among xs n) (other_above x n (omega (arith, under, low))) (none n low)
      left under (Some least) given = (given.0, or_second (nat_eq x least) (is_among xs least) given.1, λ n low less. neither (nat_eq x n) (is_among xs n) (other_above x n (omega (arith, under, low))) (given.2 n low less))

  module _ {P : Type 0} where
    -- the rows that have a part are those that parts are of
    among_is : (slots : List (Slot P)) (n : ℕ) → is_among (filter_map holder slots) n ≡ has_part slots n
    among_is [] n = refl
    among_is (slot ∷ slots) n = by_holder (among_is slots n) slot.row
      where
        by_holder : is_among (filter_map holder slots) n ≡ has_part slots n → (held : Option ℕ) → is_among (cons_option held (filter_map holder slots)) n ≡ is_some (part_seen (cond (option_map_or (λ k. nat_eq k n) held false) (Some slot) (find (is_of n) slots)))
        by_holder rest None = rest
        by_holder rest (Some k) = elim (nat_eq k n) as (λ t. (t || is_among (filter_map holder slots) n) ≡ is_some (part_seen (cond t (Some slot) (find (is_of n) slots)))) [ true ↦ refl | false ↦ rest ]

    pub least_row : (slots : List (Slot P)) → IsNumberAbove (has_part slots) row (reduce min (above (filter_map holder slots)))
    least_row slots = subst (λ (test : ℕ → Bool). IsNumberAbove test row (reduce min (above (filter_map holder slots)))) (λ d n. among_is slots n d) (least_among (filter_map holder slots))
