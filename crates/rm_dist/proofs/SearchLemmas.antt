-- What a search finds among counts whose local indexes rise.
use Rattle.std.proofs.Common.{◌≡◌, ℕ, zero, suc, ◌<◌, ◌≤◌, List, [], ◌∷◌, length, get_or, Bool, true, false, ◌&&◌, nat_eq, nat_le, nat_lt, Result, Ok, Err, IfOk, IfErr, refl, sym, ap, arith}
use Rattle.std.specs.List.Sorted.{IsSearchInRange, IsBinarySearchResult, IsNonDecreasingBy}
use Rattle.std.specs.Ordering.{nat_cmp, ordering_index}
use Rattle.std.proofs.lemmas.Cmp.{ranked}
use Rattle.std.proofs.lemmas.List.Sorted.{IsNonDecreasingBy-from_default}
use Rattle.std.proofs.lemmas.Bool.Decides.{nat_tests}
use Rattle.rm_dist.specs.declared.count.Count.{Count}
use Rattle.rm_dist.specs.Counts.{AllAbove, Rising, no_count, place_for, IsFoundAt, IsMissingAt}

abbrev local_at : List Count → ℕ → ℕ
local_at counts place = (get_or counts place no_count).local

above_at : (low : ℕ) (counts : List Count) → AllAbove low counts → (place : ℕ) → place < length counts → low < local_at counts place
above_at low [] all place within = absurd (omega (arith, within))
above_at low (count ∷ counts) all zero within = all.0
above_at low (count ∷ counts) all (suc place) within = above_at low counts all.1 place (omega (arith, within))

rises : (counts : List Count) → Rising counts → (i j : ℕ) → i < j → j < length counts → local_at counts i < local_at counts j
rises [] rise i j less within = absurd (omega (arith, within))
rises (count ∷ counts) rise i zero less within = absurd (omega (arith, less))
rises (count ∷ counts) rise zero (suc j) less within = above_at count.local counts rise.0 j (omega (arith, within))
rises (count ∷ counts) rise (suc i) (suc j) less within = rises counts rise.1 i j (omega (arith, less)) (omega (arith, within))

-- the counts of local indexes from one on begin where those before are less, and those from there on aren't
place_at : (counts : List Count) (local place : ℕ) → place ≤ length counts → ((k : ℕ) → k < place → local_at counts k < local)
    → ((k : ℕ) → place ≤ k → k < length counts → local ≤ local_at counts k) → place_for counts local ≡ place
place_at [] local place within less more = omega (arith, within)
place_at (count ∷ counts) local zero within less more = let here : nat_le local count.local ≡ true = (let low = more 0 (omega arith) (omega arith) in grind (arith, nat_tests, low)) in rw here refl
place_at (count ∷ counts) local (suc place) within less more =
    let here : nat_le local count.local ≡ false = (let low = less 0 (omega arith) in grind (arith, nat_tests, low)) in
    rw here
    (ap suc
    (place_at counts local place (omega (arith, within)) (λ k below. less (suc k) (omega (arith, below))) (λ k from below. more (suc k) (omega (arith, from)) (omega (arith, below)))))

module _ (counts : List Count) (rise : Rising counts) (local : ℕ) where
  comparisons_rise : IsNonDecreasingBy (λ count. ordering_index (nat_cmp count.local local)) counts
  comparisons_rise = IsNonDecreasingBy-from_default (λ count. ordering_index (nat_cmp count.local local)) counts no_count (λ i j le within.
      let locals_rise : local_at counts i ≤ local_at counts j = grind (arith, rises counts rise i j, λ (same : i ≡ j). ap (local_at counts) same) in
      grind (arith, nat_tests))

  -- a search ends at the count of the local index, or at the place for it
  pub searched : (r : Result ℕ ℕ) → IsSearchInRange r (length counts) → IsBinarySearchResult (λ count. nat_cmp count.local local) counts r
      → record { found : IfOk r (IsFoundAt counts local); missing : IfErr r (IsMissingAt counts local) }
  searched (Ok at) within equal = record { found = record { at = sym place; found = rw place is_there }; missing = tt }
    where
      has : local_at counts at ≡ local
      has = ranked _ local _ (sym (equal no_count))

      place : place_for counts local ≡ at
      place = place_at counts local at (omega (arith, within)) (λ k below. let less = rises counts rise k at below within in omega (arith, less, has)) at_least
        where
          at_least : (k : ℕ) → at ≤ k → k < length counts → local ≤ local_at counts k
          at_least k from below = grind (arith, has, rises counts rise at k, λ (same : at ≡ k). ap (local_at counts) same)

      is_there : (nat_lt at (length counts) && nat_eq (local_at counts at) local) ≡ true
      is_there =
          let inside : nat_lt at (length counts) ≡ true = grind (arith, nat_tests, within) in
          let same : nat_eq (local_at counts at) local ≡ true = grind (arith, nat_tests, has) in
          rw (inside, same) refl
  searched (Err at) within parted = record { found = tt; missing = record { at = sym place; missing = rw place is_none } }
    where
      less : (k : ℕ) → k < at → local_at counts k < local
      less k below = ranked _ local _ (sym ((parted comparisons_rise).0 k no_count (omega arith) below))

      more : (k : ℕ) → at ≤ k → k < length counts → local < local_at counts k
      more k from below = ranked _ local _ (sym ((parted comparisons_rise).1 k no_count from below))

      place : place_for counts local ≡ at
      place = place_at counts local at within less (λ k from below. let over = more k from below in omega (arith, over))

      is_none : (nat_lt at (length counts) && nat_eq (local_at counts at) local) ≡ false
      is_none = by_test (nat_lt at (length counts)) refl
        where
          by_test : (t : Bool) → nat_lt at (length counts) ≡ t → (t && nat_eq (local_at counts at) local) ≡ false
          by_test true e = let over = more at (omega arith) (grind (arith, nat_tests)) in grind (arith, nat_tests, over)
          by_test false e = refl
