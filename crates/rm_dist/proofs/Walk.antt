-- The least local index above some numbers.
use Rattle.std.proofs.Common.{◌≡◌, ℕ, ◌<◌, List, [], ◌∷◌, length, slice_index, Bool, true, false, cond, Option, Some, None, is_some, refl, ap, nat_eq, nat_lt, arith}
use Rattle.std.specs.Ordering.{nat_cmp, ordering_then}
use Rattle.std.specs.declared.cmp.Ordering.TheVariants.{Less, Equal, Greater}
use Rattle.std.specs.Cmp.Lexicographic.{slice_cmp}
use Rattle.std.proofs.lemmas.Bool.Decides.{nat_tests}
use Rattle.rm_model.specs.Names.{Below}
use Rattle.rm_model.specs.Numbers.{IsNumberAbove}
use Rattle.rm_nested.specs.Nested.{is_number}
use Rattle.rm_dist.specs.declared.count.Count.{Count}
use Rattle.rm_dist.specs.Counts.{IsFirstLocal, count_in}
use Rattle.rm_dist.specs.Shown.{IsLocalAfter}

not_below_none : (more : List ℕ) → slice_cmp nat_cmp more [] ≡ Less → ⊥
not_below_none [] h = cc
not_below_none (x ∷ more) h = cc

below_number : (first : ℕ) (more : List ℕ) (k : ℕ) → Below (first ∷ more) (k ∷ []) → first < k
below_number first more k h = by_less (nat_lt first k) refl (nat_eq first k) h
  where
    by_less : (t : Bool) → nat_lt first k ≡ t → (s : Bool) → ordering_then (cond t Less (cond s Equal Greater)) (slice_cmp nat_cmp more []) ≡ Less → first < k
    by_less true e s h = grind (arith, nat_tests)
    by_less false e true h = absurd (not_below_none more h)
    by_less false e false h = absurd (cc)

number_above : (first : ℕ) (more : List ℕ) (k : ℕ) → first < k → Below (first ∷ more) (k ∷ [])
number_above first more k less = let is : nat_lt first k ≡ true = grind (arith, nat_tests, less) in rw is refl

-- above numbers of which there is a first one
pub above_first : (test : ℕ → Bool) (index : List ℕ) (found : Option ℕ) → 0 < length index → IsNumberAbove test (slice_index index 0) found → IsLocalAfter test index found
above_first test [] found some least = absurd (omega (arith, some))
above_first test (first ∷ more) None some none = nothing
  where
    nothing : (name : List ℕ) → Below (first ∷ more) name → is_number test name ≡ false
    nothing [] over = refl
    nothing (k ∷ []) over = none k (below_number first more k over)
    nothing (k ∷ next ∷ rest) over = refl
above_first test (first ∷ more) (Some n) some least = (number_above first more n least.0, least.1, between)
  where
    between : (name : List ℕ) → Below (first ∷ more) name → Below name (n ∷ []) → is_number test name ≡ false
    between [] over under = refl
    between (k ∷ []) over under = least.2 k (below_number first more k over) (below_number k [] n under)
    between (k ∷ next ∷ rest) over under = refl

-- above no numbers at all
pub above_none : (counts : List Count) (index : List ℕ) (found : Option ℕ) → length index ≡ 0 → IsFirstLocal counts found → IsLocalAfter (λ local. is_some (count_in counts local)) index found
above_none counts (n ∷ index) found none first = absurd (omega (arith, none))
above_none counts [] None none first = nothing
  where
    nothing : (name : List ℕ) → Below [] name → is_number (λ local. is_some (count_in counts local)) name ≡ false
    nothing [] over = refl
    nothing (k ∷ []) over = ap is_some (first k)
    nothing (k ∷ next ∷ rest) over = refl
above_none counts [] (Some n) none first = (refl, first.0, between)
  where
    between : (name : List ℕ) → Below [] name → Below name (n ∷ []) → is_number (λ local. is_some (count_in counts local)) name ≡ false
    between [] over under = refl
    between (k ∷ []) over under = ap is_some (first.1 k (below_number k [] n under))
    between (k ∷ next ∷ rest) over under = refl

-- where nothing is counted there is none
pub none_after : (test : ℕ → Bool) (index : List ℕ) → ((n : ℕ) → test n ≡ false) → IsLocalAfter test index None
none_after test index none = nothing
  where
    nothing : (name : List ℕ) → Below index name → is_number test name ≡ false
    nothing [] over = refl
    nothing (k ∷ []) over = none k
    nothing (k ∷ next ∷ rest) over = refl
