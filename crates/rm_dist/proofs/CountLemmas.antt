-- Counts in the order of their local indexes.
use Rattle.std.proofs.Common.{◌≡◌, ℕ, suc, ◌<◌, ◌≤◌, List, [], ◌∷◌, length, get_or, set, Bool, true, false, cond, ◌&&◌, ◌||◌, nat_eq, nat_le, nat_lt, Option, Some, None, is_some, find, option_map, refl, sym, ap, ◌∙◌, arith}
use Rattle.std.specs.Prelude.{◌==◌, slice_get}
use Rattle.std.specs.List.{insert}
use Rattle.std.proofs.lemmas.Bool.Decides.{nat_tests}
use borrow.Author.Tests.{eqb-true}
use Rattle.rm_model.specs.Numbers.{IsNumberAbove}
use Rattle.rm_dist.specs.declared.count.Count.{Count}
use Rattle.rm_dist.specs.Counts.{AllAbove, Rising, count_in, first_frame, IsFirstLocal, is_found, marked, no_count, place_for, with_frame, with_mark}

less_behind : (m n : ℕ) → nat_lt (suc m) (suc n) ≡ nat_lt m n
less_behind m n = by_test (nat_lt m n) refl
  where
    by_test : (t : Bool) → nat_lt m n ≡ t → nat_lt (suc m) (suc n) ≡ t
    by_test true e = grind (arith, nat_tests)
    by_test false e = grind (arith, nat_tests)

first_less : (n : ℕ) → nat_lt 0 (suc n) ≡ true
first_less n = grind (arith, nat_tests)

above_more : (low local : ℕ) (counts : List Count) → low ≤ local → AllAbove local counts → AllAbove low counts
above_more low local [] under all = tt
above_more low local (count ∷ counts) under all = (omega (arith, under, all.0), above_more low local counts under all.1)

-- a local index that is no greater than the least one below all counts has none
pub none_below : (counts : List Count) (low local : ℕ) → local ≤ low → AllAbove low counts → count_in counts local ≡ None
none_below [] low local under all = refl
none_below (count ∷ counts) low local under all =
    let other : nat_eq count.local local ≡ false = grind (arith, nat_tests, all.0) in
    rw other (none_below counts low local under all.1)

itself : (n : ℕ) → nat_eq n n ≡ true
itself n = grind (arith, nat_tests)

-- the first count has the least local index
pub first_is : (counts : List Count) → Rising counts → IsFirstLocal counts (option_map (λ (count : Count). count.local) (slice_get counts 0))
first_is [] rise = λ local. refl
first_is (count ∷ counts) rise = (
  ap (λ b. is_some (cond b (Some count) (count_in counts count.local))) (itself count.local),
  λ local below.
      let other : nat_eq count.local local ≡ false = grind (arith, nat_tests, below) in
      rw other (none_below counts count.local local (omega (arith, below)) rise.0),
)

-- the first count of a local index above one has the least such index
pub above_is : (counts : List Count) (local : ℕ) → Rising counts
    → IsNumberAbove (λ n. is_some (count_in counts n)) local (option_map (λ (count : Count). count.local) (find (λ count. nat_lt local count.local) counts))
above_is [] local rise = λ n above. refl
above_is (count ∷ counts) local rise = by_test (nat_lt local count.local) refl (above_is counts local rise.1)
  where
    by_found : count.local ≤ local → (found : Option Count) → IsNumberAbove (λ n. is_some (count_in counts n)) local (option_map (λ (one : Count). one.local) found)
        → IsNumberAbove (λ n. is_some (count_in (count ∷ counts) n)) local (option_map (λ (one : Count). one.local) found)
    by_found low None rest = λ n above. let other : nat_eq count.local n ≡ false = grind (arith, nat_tests, low, above) in rw other (rest n above)
    by_found low (Some found) rest =
        let other : nat_eq count.local found.local ≡ false = grind (arith, nat_tests, low, rest.0) in
        (rest.0, rw other rest.1, λ n above below. let apart : nat_eq count.local n ≡ false = grind (arith, nat_tests, low, above) in rw apart (rest.2 n above below))

    by_test : (t : Bool) → nat_lt local count.local ≡ t → IsNumberAbove (λ n. is_some (count_in counts n)) local (option_map (λ (one : Count). one.local) (find (λ one. nat_lt local one.local) counts))
        → IsNumberAbove (λ n. is_some (count_in (count ∷ counts) n)) local (option_map (λ (one : Count). one.local) (cond t (Some count) (find (λ one. nat_lt local one.local) counts)))
    by_test true e rest = (
      grind (arith, nat_tests),
      ap (λ b. is_some (cond b (Some count) (count_in counts count.local))) (itself count.local),
      λ n above below.
          let other : nat_eq count.local n ≡ false = grind (arith, nat_tests, below) in
          rw other (ap is_some (none_below counts count.local n (omega (arith, below)) rise.0)),
    )
    by_test false e rest = by_found (grind (arith, nat_tests)) (find (λ one. nat_lt local one.local) counts) rest

-- a search finds the count of a local index
pub found_is : (counts : List Count) (local : ℕ) → Rising counts → is_found counts local ≡ is_some (count_in counts local)
found_is [] local rise = refl
found_is (count ∷ counts) local rise = by_place (nat_le local count.local) refl (found_is counts local rise.1)
  where
    by_place : (t : Bool) → nat_le local count.local ≡ t → is_found counts local ≡ is_some (count_in counts local)
        → (nat_lt (cond t 0 (suc (place_for counts local))) (suc (length counts)) && nat_eq (get_or (count ∷ counts) (cond t 0 (suc (place_for counts local))) no_count).local local) ≡ is_some (count_in (count ∷ counts) local)
    by_place true e rest = rw (first_less (length counts)) (by_same (nat_eq count.local local) refl)
      where
        by_same : (s : Bool) → nat_eq count.local local ≡ s → s ≡ is_some (cond s (Some count) (count_in counts local))
        by_same true f = refl
        by_same false f = sym (ap is_some (none_below counts count.local local (grind (arith, nat_tests)) rise.0))
    by_place false e rest =
        let other : nat_eq count.local local ≡ false = grind (arith, nat_tests) in
        rw (other, less_behind (place_for counts local) (length counts)) rest

-- the count that was found is counted up in place
pub bumped_is : (counts : List Count) (local octets : ℕ) → is_found counts local ≡ true → set counts (place_for counts local) (with_frame octets (get_or counts (place_for counts local) no_count)) ≡ marked counts local octets
bumped_is [] local octets found = absurd (cc)
bumped_is (count ∷ counts) local octets found = by_place (nat_le local count.local) found (bumped_is counts local octets)
  where
    by_place : (t : Bool) → (nat_lt (cond t 0 (suc (place_for counts local))) (suc (length counts)) && nat_eq (get_or (count ∷ counts) (cond t 0 (suc (place_for counts local))) no_count).local local) ≡ true
        → (is_found counts local ≡ true → set counts (place_for counts local) (with_frame octets (get_or counts (place_for counts local) no_count)) ≡ marked counts local octets)
        → set (count ∷ counts) (cond t 0 (suc (place_for counts local))) (with_frame octets (get_or (count ∷ counts) (cond t 0 (suc (place_for counts local))) no_count))
        ≡ cond t (cond (nat_eq count.local local) (with_frame octets count ∷ counts) (first_frame local octets ∷ count ∷ counts)) (count ∷ marked counts local octets)
    by_place true is rest = let same : nat_eq count.local local ≡ true = rw (first_less (length counts)) at is in rw same refl
    by_place false is rest = ap (λ more. count ∷ more) (rest (rw (less_behind (place_for counts local) (length counts)) at is))

-- and where none was found a new one is put in
pub inserted_is : (counts : List Count) (local octets : ℕ) → is_found counts local ≡ false → insert counts (place_for counts local) (first_frame local octets) ≡ marked counts local octets
inserted_is [] local octets none = refl
inserted_is (count ∷ counts) local octets none = by_place (nat_le local count.local) none (inserted_is counts local octets)
  where
    by_place : (t : Bool) → (nat_lt (cond t 0 (suc (place_for counts local))) (suc (length counts)) && nat_eq (get_or (count ∷ counts) (cond t 0 (suc (place_for counts local))) no_count).local local) ≡ false
        → (is_found counts local ≡ false → insert counts (place_for counts local) (first_frame local octets) ≡ marked counts local octets)
        → insert (count ∷ counts) (cond t 0 (suc (place_for counts local))) (first_frame local octets)
        ≡ cond t (cond (nat_eq count.local local) (with_frame octets count ∷ counts) (first_frame local octets ∷ count ∷ counts)) (count ∷ marked counts local octets)
    by_place true is rest = let other : nat_eq count.local local ≡ false = rw (first_less (length counts)) at is in rw other refl
    by_place false is rest = ap (λ more. count ∷ more) (rest (rw (less_behind (place_for counts local) (length counts)) at is))

-- the local indexes rise then
above_marked : (low : ℕ) (counts : List Count) (local octets : ℕ) → low < local → AllAbove low counts → AllAbove low (marked counts local octets)
above_marked low [] local octets under all = (under, tt)
above_marked low (count ∷ counts) local octets under all = by_place (nat_le local count.local) (nat_eq count.local local) (above_marked low counts local octets under all.1)
  where
    by_place : (t s : Bool) → AllAbove low (marked counts local octets) → AllAbove low (cond t (cond s (with_frame octets count ∷ counts) (first_frame local octets ∷ count ∷ counts)) (count ∷ marked counts local octets))
    by_place true true rest = all
    by_place true false rest = (under, all)
    by_place false s rest = (all.0, rest)

pub marked_rise : (counts : List Count) (local octets : ℕ) → Rising counts → Rising (marked counts local octets)
marked_rise [] local octets rise = (tt, tt)
marked_rise (count ∷ counts) local octets rise = by_place (nat_le local count.local) (nat_eq count.local local) refl refl (marked_rise counts local octets rise.1)
  where
    by_place : (t s : Bool) → nat_le local count.local ≡ t → nat_eq count.local local ≡ s → Rising (marked counts local octets)
        → Rising (cond t (cond s (with_frame octets count ∷ counts) (first_frame local octets ∷ count ∷ counts)) (count ∷ marked counts local octets))
    by_place true true e f rest = rise
    by_place true false e f rest =
        let under : local < count.local = grind (arith, nat_tests) in
        ((under, above_more local count.local counts (omega (arith, under)) rise.0), rise)
    by_place false s e f rest = (above_marked count.local counts local octets (grind (arith, nat_tests)) rise.0, rest)

-- a count with one frame more, or that of the first one
abbrev pub bumped : (local octets : ℕ) → Option Count → Count
bumped local octets None = first_frame local octets
bumped local octets (Some count) = with_frame octets count

-- what each local index has then
pub marked_has : (counts : List Count) (local octets other : ℕ) → Rising counts
    → count_in (marked counts local octets) other ≡ cond (nat_eq local other) (Some (bumped local octets (count_in counts local))) (count_in counts other)
marked_has [] local octets other rise = refl
marked_has (count ∷ counts) local octets other rise = by_place (nat_le local count.local) (nat_eq count.local local) refl refl (marked_has counts local octets other rise.1)
  where
    by_place : (t s : Bool) → nat_le local count.local ≡ t → nat_eq count.local local ≡ s
        → count_in (marked counts local octets) other ≡ cond (nat_eq local other) (Some (bumped local octets (count_in counts local))) (count_in counts other)
        → count_in (cond t (cond s (with_frame octets count ∷ counts) (first_frame local octets ∷ count ∷ counts)) (count ∷ marked counts local octets)) other
        ≡ cond (nat_eq local other) (Some (bumped local octets (cond s (Some count) (count_in counts local)))) (cond (nat_eq count.local other) (Some count) (count_in counts other))
    by_place true true e f rest =
        let same : count.local ≡ local = eqb-true count.local local f in
        by_other (nat_eq count.local other) (nat_eq local other) (ap (λ k. nat_eq k other) same)
      where
        by_other : (a b : Bool) → a ≡ b → cond a (Some (with_frame octets count)) (count_in counts other) ≡ cond b (Some (with_frame octets count)) (cond a (Some count) (count_in counts other))
        by_other true true g = refl
        by_other false false g = refl
        by_other true false g = absurd (cc)
        by_other false true g = absurd (cc)
    by_place true false e f rest =
        let none : count_in counts local ≡ None = none_below counts count.local local (grind (arith, nat_tests)) rise.0 in
        rw none refl
    by_place false true e f rest = absurd (let same : count.local ≡ local = eqb-true count.local local f in grind (arith, nat_tests))
    by_place false false e f rest = by_other (nat_eq count.local other) refl
      where
        by_other : (b : Bool) → nat_eq count.local other ≡ b → cond b (Some count) (count_in (marked counts local octets) other)
            ≡ cond (nat_eq local other) (Some (bumped local octets (count_in counts local))) (cond b (Some count) (count_in counts other))
        by_other true g =
            let differs : nat_eq local other ≡ false = grind (arith, nat_tests) in
            rw differs refl
        by_other false g = rest

-- where there is a count, or room for one
module _ (counts : List Count) (rise : Rising counts) (local octets : ℕ) where
  pub found_mark : is_found counts local ≡ true → with_mark counts local octets ≡ marked counts local octets
  found_mark found = by_test (nat_lt (length counts) 32)
    where
      some : is_some (count_in counts local) ≡ true
      some = sym (found_is counts local rise) ∙ found

      by_test : (t : Bool) → cond (t || is_some (count_in counts local)) (marked counts local octets) counts ≡ marked counts local octets
      by_test true = refl
      by_test false = rw some refl

  pub room_mark : length counts < 32 → with_mark counts local octets ≡ marked counts local octets
  room_mark room = let few : nat_lt (length counts) 32 ≡ true = grind (arith, nat_tests) in rw few refl

  pub full_mark : is_found counts local ≡ false → 32 ≤ length counts → with_mark counts local octets ≡ counts
  full_mark missing full =
      let none : is_some (count_in counts local) ≡ false = sym (found_is counts local rise) ∙ missing in
      let many : nat_lt (length counts) 32 ≡ false = grind (arith, nat_tests) in
      rw (many, none) refl

-- the place of a count that was found lies among the counts, and that of one that is missing too, or behind them
pub place_within : (counts : List Count) (local : ℕ) → place_for counts local ≤ length counts
place_within [] local = omega arith
place_within (count ∷ counts) local = by_test (nat_le local count.local) (place_within counts local)
  where
    by_test : (t : Bool) → place_for counts local ≤ length counts → cond t 0 (suc (place_for counts local)) ≤ suc (length counts)
    by_test true rest = omega arith
    by_test false rest = omega (arith, rest)

pub found_within : (counts : List Count) (local : ℕ) → is_found counts local ≡ true → place_for counts local < length counts
found_within counts local found = by_test (nat_lt (place_for counts local) (length counts)) refl found
  where
    by_test : (t : Bool) → nat_lt (place_for counts local) (length counts) ≡ t → (t && nat_eq (get_or counts (place_for counts local) no_count).local local) ≡ true → place_for counts local < length counts
    by_test true e is = grind (arith, nat_tests)
    by_test false e is = absurd (cc)

-- whether there is room for one more
pub has_room : (full : Bool) (n most : ℕ) → full ≡ (n == most) → full ≡ false → n ≤ most → n < most
has_room full n most is none fits = let other : nat_eq n most ≡ false = sym is ∙ none in grind (arith, nat_tests)

pub is_filled : (full : Bool) (n most : ℕ) → full ≡ (n == most) → full ≡ true → most ≤ n
is_filled full n most is all = let same : nat_eq n most ≡ true = sym is ∙ all in grind (arith, nat_tests)
