-- Lists in a strict order: the place of an element is the number of those that stand before it.
use Rattle.std.proofs.Common.{◌≡◌, ℕ, ◌+◌, ◌<◌, ◌≤◌, zero, suc, Bool, true, false, cond, ◌||◌, List, [], ◌∷◌, length, refl, sym, ap, ◌∙◌, arith, subst, Some, slice_get, get_or}
use Rattle.std.specs.Prelude.{count_by}
use Rattle.std.specs.List.{list_any, AllByRecursion}
use Rattle.std.specs.List.Sorted.{IsPermutation, IsSortedBy}
use Rattle.std.specs.Cmp.{IsTotalOrder}
use Rattle.std.specs.Ordering.{is_lt, ordering_reverse}
use Rattle.std.specs.declared.cmp.Ordering.{Ordering}
use Rattle.std.specs.declared.cmp.Ordering.TheVariants.{Less, Equal, Greater}
use Rattle.std.proofs.lemmas.Bool.{true≢false}
use Rattle.std.proofs.lemmas.List.Sorted.{sorted_far, ranks_by, sum_by-IsPermutation}
use Rattle.std.proofs.lemmas.List.Sums.{sum_by-cons}
use Rattle.std.proofs.lemmas.Cmp.{tied_itself}
use Rattle.rm_evicting.specs.Held.{IsExact}
use Rattle.rm_evicting.proofs.Recency.{IsApart}

module _ {X : Type 0} (eq : X → X → Bool) (exact : IsExact eq) where
  -- how often an element stands in a list
  abbrev times : X → List X → ℕ
  times x xs = count_by (eq x) xs

  times_more : (x y : X) (xs : List X) → times x (y ∷ xs) ≡ cond (eq x y) 1 0 + times x xs
  times_more x y xs = sum_by-cons (λ z. cond (eq x z) 1 0) y xs

  none_among : (x : X) (xs : List X) → list_any (eq x) xs ≡ false → times x xs ≡ 0
  none_among x [] none = refl
  none_among x (y ∷ xs) none = go (eq x y) refl (none_among x xs)
    where
      go : (t : Bool) → eq x y ≡ t → (list_any (eq x) xs ≡ false → times x xs ≡ 0) → times x (y ∷ xs) ≡ 0
      go true is rest = absurd (true≢false (ap (λ b. b || list_any (eq x) xs) (sym is) ∙ none))
      go false is rest = times_more x y xs ∙ ap (λ b. cond b 1 0 + times x xs) is ∙ ap (λ n. 0 + n) (rest (ap (λ b. b || list_any (eq x) xs) (sym is) ∙ none))

  once : (x : X) (xs : List X) → IsApart eq exact xs → times x xs ≤ 1
  once x [] apart = omega arith
  once x (y ∷ xs) apart = go (eq x y) refl (once x xs apart.1)
    where
      go : (t : Bool) → eq x y ≡ t → times x xs ≤ 1 → times x (y ∷ xs) ≤ 1
      go true is rest =
          let none : times x xs ≡ 0 = none_among x xs (ap (λ z. list_any (eq z) xs) (exact.same x y is) ∙ apart.0) in
          let more : times x (y ∷ xs) ≡ 1 + times x xs = times_more x y xs ∙ ap (λ b. cond b 1 0 + times x xs) is in
          omega arith
      go false is rest =
          let more : times x (y ∷ xs) ≡ 0 + times x xs = times_more x y xs ∙ ap (λ b. cond b 1 0 + times x xs) is in
          omega arith

  some_among : (x : X) (xs : List X) → list_any (eq x) xs ≡ true → 1 ≤ times x xs
  some_among x [] some = absurd (true≢false (sym some))
  some_among x (y ∷ xs) some = go (eq x y) refl (some_among x xs)
    where
      go : (t : Bool) → eq x y ≡ t → (list_any (eq x) xs ≡ true → 1 ≤ times x xs) → 1 ≤ times x (y ∷ xs)
      go true is rest = let more : times x (y ∷ xs) ≡ 1 + times x xs = times_more x y xs ∙ ap (λ b. cond b 1 0 + times x xs) is in omega arith
      go false is rest =
          let more : times x (y ∷ xs) ≡ 0 + times x xs = times_more x y xs ∙ ap (λ b. cond b 1 0 + times x xs) is in
          let left : 1 ≤ times x xs = rest (ap (λ b. b || list_any (eq x) xs) (sym is) ∙ some) in
          omega arith

  apart_once : (xs : List X) → ((x : X) → times x xs ≤ 1) → IsApart eq exact xs
  apart_once [] few = tt
  apart_once (y ∷ xs) few = (first (list_any (eq y) xs) refl, apart_once xs (λ x. let more = times_more x y xs in let all = few x in omega arith))
    where
      first : (t : Bool) → list_any (eq y) xs ≡ t → list_any (eq y) xs ≡ false
      first true is =
          let more : times y (y ∷ xs) ≡ 1 + times y xs = times_more y y xs ∙ ap (λ b. cond b 1 0 + times y xs) (exact.itself y) in
          let all = few y in
          let some = some_among y xs is in
          absurd (omega arith)
      first false is = is

  -- elements that stand apart do so in any order
  pub apart_moved : (xs ys : List X) → IsPermutation xs ys → IsApart eq exact xs → IsApart eq exact ys
  apart_moved xs ys moved apart =
      apart_once ys (λ x. let same = sum_by-IsPermutation (λ y. cond (eq x y) 1 0) xs ys moved in let few = once x xs apart in omega arith)

-- elements that compare as equal are the same
module _ {X : Type 0} (cmp : X → X → Ordering) (total : IsTotalOrder cmp) (eq : X → X → Bool) (exact : IsExact eq) (equal : (x y : X) → cmp x y ≡ Equal → eq x y ≡ true) where
  abbrev before : X → X → Bool
  before x y = is_lt (cmp x y)

  -- each stands before all that follow it
  abbrev IsStrict : List X → Type 0
  IsStrict [] = Unit {0}
  IsStrict (x ∷ xs) = AllByRecursion (λ y. before x y ≡ true) xs × IsStrict xs

  not_before : (x y : X) → eq x y ≡ false → before y x ≡ false → before x y ≡ true
  not_before x y other off = go (cmp x y) (cmp y x) refl refl (total.antisymm x y)
    where
      go : (o p : Ordering) → cmp x y ≡ o → cmp y x ≡ p → cmp x y ≡ ordering_reverse (cmp y x) → before x y ≡ true
      go Less p is back turned = ap is_lt is
      go Equal p is back turned = absurd (true≢false (sym (equal x y is) ∙ other))
      go Greater p is back turned = absurd (true≢false (sym (ap (λ o. is_lt o) (less p back turned is)) ∙ off))
        where
          less : (p : Ordering) → cmp y x ≡ p → cmp x y ≡ ordering_reverse (cmp y x) → cmp x y ≡ Greater → cmp y x ≡ Less
          less Less back turned is = back
          less Equal back turned is = let e : Greater ≡ Equal = sym is ∙ turned ∙ ap ordering_reverse back in cc
          less Greater back turned is = let e : Greater ≡ Less = sym is ∙ turned ∙ ap ordering_reverse back in cc

  after_first : (x : X) (xs : List X) → list_any (eq x) xs ≡ false → ((k : ℕ) → k < length xs → before (get_or xs k x) x ≡ false) → AllByRecursion (λ y. before x y ≡ true) xs
  after_first x [] apart off = tt
  after_first x (y ∷ xs) apart off =
      let parts = or_parts (eq x y) (list_any (eq x) xs) apart in
      (not_before x y parts.0 (off 0 (omega arith)), after_first x xs parts.1 (λ k lt. off (suc k) (omega arith)))
    where
      or_parts : (a b : Bool) → (a || b) ≡ false → (a ≡ false) × (b ≡ false)
      or_parts true b e = absurd (true≢false e)
      or_parts false b e = (refl, e)

  -- elements that are sorted, and stand apart, are in strict order
  pub strict : (xs : List X) → IsApart eq exact xs → IsSortedBy before xs → IsStrict xs
  strict [] apart sorted = tt
  strict (x ∷ xs) apart sorted = (
    after_first x xs apart.0 (λ k lt. sorted_far before (ranks_by total (λ y. y)) (x ∷ xs) sorted 0 (suc k) x (omega arith) (omega arith)),
    strict xs apart.1 (λ k d low high. subst (λ i. before (get_or (x ∷ xs) i d) (get_or xs k d) ≡ false) (next k) (sorted (suc k) d (omega arith) (omega arith))),
  )
    where
      next : (k : ℕ) → suc k + 1 ≡ suc (k + 1)
      next k = omega arith

  itself : (x : X) → before x x ≡ false
  itself x = ap is_lt (tied_itself total x)

  turned : (x y : X) → before x y ≡ true → before y x ≡ false
  turned x y is = (ranks_by total (λ (z : X). z)).one_way x y is

  counted : (x : X) (xs : List X) → AllByRecursion (λ y. before x y ≡ true) xs → count_by (λ y. before y x) xs ≡ 0
  counted x [] after = refl
  counted x (y ∷ xs) after =
      sum_by-cons (λ z. cond (before z x) 1 0) y xs
      ∙ (λ d. cond (turned x y after.0 d) 1 0 + counted x xs after.1 d)

  at_each : (P : X → Type 0) (xs : List X) (i : ℕ) (x : X) → AllByRecursion P xs → slice_get xs i ≡ Some x → P x
  at_each P [] i x each here = cc
  at_each P (y ∷ xs) zero x each here = let same : y ≡ x = cc in subst P same each.0
  at_each P (y ∷ xs) (suc i) x each here = at_each P xs i x each.1 here

  -- so many stand before the one at a place
  pub place_counted : (xs : List X) (i : ℕ) (x : X) → IsStrict xs → slice_get xs i ≡ Some x → count_by (λ y. before y x) xs ≡ i
  place_counted [] i x order here = cc
  place_counted (y ∷ xs) zero x order here =
      let same : y ≡ x = cc in
      subst (λ z. count_by (λ w. before w z) (y ∷ xs) ≡ 0) same
      (sum_by-cons (λ z. cond (before z y) 1 0) y xs ∙ (λ d. cond (itself y d) 1 0 + counted y xs order.0 d))
  place_counted (y ∷ xs) (suc i) x order here =
      sum_by-cons (λ z. cond (before z x) 1 0) y xs
      ∙ (λ d. cond (at_each (λ z. before y z ≡ true) xs i x order.0 here d) 1 0 + place_counted xs i x order.1 here d)
      ∙ one_more i
    where
      one_more : (n : ℕ) → 1 + n ≡ suc n
      one_more n = omega arith
