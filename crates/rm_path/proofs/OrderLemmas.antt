-- What a search finds among entries whose numbers rise, and what one more entry at the end does.
use Rattle.std.proofs.Common.{◌≡◌, ℕ, zero, suc, ◌+◌, ◌-◌, ◌<◌, ◌≤◌, ◌≢◌, List, [], ◌∷◌, length, get_or, Bool, true, false, nat_eq, nat_lt, cond, Some, None, Result, Ok, Err, IfOk, IfErr, refl, sym, ◌∙◌, ap, arith}
use Rattle.std.specs.List.{insert, remove}
use Rattle.std.proofs.lemmas.List.Edits.{length-insert, get_or-insert_below, get_or-insert_at, get_or-insert_above, length-remove, get_or-remove_below, get_or-remove_above}
use Rattle.std.specs.List.Sorted.{IsSearchInRange, IsBinarySearchResult, IsNonDecreasingBy}
use Rattle.std.specs.Ordering.{nat_cmp, ordering_index}
use Rattle.std.proofs.lemmas.Cmp.{ranked}
use Rattle.std.proofs.lemmas.List.Sorted.{IsNonDecreasingBy-from_default}
use Rattle.std.proofs.lemmas.Bool.Decides.{nat_tests}
use Rattle.rm_path.specs.declared.entry.Entry.{Entry}
use Rattle.rm_path.specs.Order.{slot_with, no_entry, number_at, AreRising, IsAt, IsGap}

-- no entry before a place has the number
abbrev NoneBefore : List Entry → ℕ → ℕ → Type 0
NoneBefore entries number place = (i : ℕ) → i < place → number_at entries i ≢ number

none_behind : (first : Entry) (entries : List Entry) (number place : ℕ) → NoneBefore (first ∷ entries) number (suc place) → NoneBefore entries number place
none_behind first entries number place none i below = none (suc i) (omega arith)

at_behind : (first : Entry) (entries : List Entry) (number place : ℕ) → IsAt (first ∷ entries) number (suc place) → IsAt entries number place
at_behind first entries number place is = record { within = omega (arith, is.within); has_number = is.has_number }

-- a number that no entry has leads nowhere
absent : (entries : List Entry) (number : ℕ) → NoneBefore entries number (length entries) → slot_with entries number ≡ None
absent [] number none = refl
absent (first ∷ entries) number none = grind (arith, nat_tests, none 0 (omega arith), absent entries number (none_behind first entries number _ none))

-- the first entry that has the number leads to its slot
present : (entries : List Entry) (number place : ℕ) → IsAt entries number place → NoneBefore entries number place → slot_with entries number ≡ Some (get_or entries place no_entry).slot
present [] number place is none = absurd (omega (arith, is.within))
present (first ∷ entries) number zero is none = grind (arith, nat_tests, is.has_number)
present (first ∷ entries) number (suc place) is none =
    grind (arith, nat_tests, none 0 (omega arith), present entries number place (at_behind first entries number place is) (none_behind first entries number place none))

module _ (entries : List Entry) (rising : AreRising entries) (number : ℕ) where
  comparisons_rise : IsNonDecreasingBy (λ entry. ordering_index (nat_cmp entry.number number)) entries
  comparisons_rise = IsNonDecreasingBy-from_default (λ entry. ordering_index (nat_cmp entry.number number)) entries no_entry (λ i j le within.
      let numbers_rise : number_at entries i ≤ number_at entries j = grind (arith, rising i j, λ (same : i ≡ j). ap (number_at entries) same) in
      grind (arith, nat_tests))

  -- a search by number ends at the entry, or at the gap for it
  pub searched : (r : Result ℕ ℕ) → IsSearchInRange r (length entries) → IsBinarySearchResult (λ entry. nat_cmp entry.number number) entries r → record { found : IfOk r (IsAt entries number); absent : IfErr r (IsGap entries number) }
  searched (Ok at) within equal = record { found = record { within = within; has_number = ranked _ number _ (sym (equal no_entry)) }; absent = tt }
  searched (Err at) within parted = record {
    found = tt;
    absent = record {
      within = within;
      less_before = λ i below. ranked _ number _ (sym ((parted comparisons_rise).0 i no_entry (omega arith) below));
      greater_after = λ i le below. ranked _ number _ (sym ((parted comparisons_rise).1 i no_entry le below));
    };
  }

  none_before : (place : ℕ) → IsAt entries number place → NoneBefore entries number place
  none_before place is i below same = omega (arith, rising i place below is.within, is.has_number, same)

  -- the entry that was found leads to its slot
  pub found_leads : (place : ℕ) → IsAt entries number place → slot_with entries number ≡ Some (get_or entries place no_entry).slot
  found_leads place is = present entries number place is (none_before place is)

-- a number that has a gap leads nowhere
pub gap_leads : (entries : List Entry) (number place : ℕ) → IsGap entries number place → slot_with entries number ≡ None
gap_leads entries number place gap = absent entries number (λ i below same. grind (arith, gap.less_before i, gap.greater_after i))

-- what the numbers lead to with one more entry, whose number no other has
pub more_leads : (entries : List Entry) (new : Entry) (place number : ℕ) → slot_with entries new.number ≡ None
    → slot_with (insert entries place new) number ≡ cond (nat_eq new.number number) (Some new.slot) (slot_with entries number)
more_leads entries new zero number other = refl
more_leads [] new (suc place) number other = refl
more_leads (first ∷ entries) new (suc place) number other = by_test (nat_eq first.number new.number) refl other (more_leads entries new place number)
  where
    by_test : (t : Bool) → nat_eq first.number new.number ≡ t → cond t (Some first.slot) (slot_with entries new.number) ≡ None
        → (slot_with entries new.number ≡ None → slot_with (insert entries place new) number ≡ cond (nat_eq new.number number) (Some new.slot) (slot_with entries number))
        → slot_with (insert (first ∷ entries) (suc place) new) number ≡ cond (nat_eq new.number number) (Some new.slot) (slot_with (first ∷ entries) number)
    by_test true e none rest = absurd (cc)
    by_test false e none rest = let more = rest none in grind (arith, nat_tests)

module _ (entries : List Entry) (rising : AreRising entries) where
  -- with an entry put in where its number belongs, the numbers rise
  module _ (new : Entry) (place : ℕ) (gap : IsGap entries new.number place) where
    then_at : (i : ℕ) → number_at (insert entries place new) i ≡ cond (nat_lt i place) (number_at entries i) (cond (nat_eq i place) new.number (number_at entries (i - 1)))
    then_at i = by_place (nat_lt i place) refl
      where
        by_place : (t : Bool) → nat_lt i place ≡ t → number_at (insert entries place new) i ≡ cond t (number_at entries i) (cond (nat_eq i place) new.number (number_at entries (i - 1)))
        by_place true e = ap (λ entry. entry.number) (get_or-insert_below entries place new no_entry i (grind (arith, nat_tests)) gap.within)
        by_place false e = by_same (nat_eq i place) refl
          where
            by_same : (t : Bool) → nat_eq i place ≡ t → number_at (insert entries place new) i ≡ cond t new.number (number_at entries (i - 1))
            by_same true same = let at : i ≡ place = grind (arith, nat_tests) in rw at (ap (λ entry. entry.number) (get_or-insert_at entries place new no_entry gap.within))
            by_same false differs =
                let above : place ≤ i - 1 = grind (arith, nat_tests) in
                let next : i ≡ (i - 1) + 1 = grind (arith, nat_tests) in
                ap (λ k. number_at (insert entries place new) k) next ∙ ap (λ entry. entry.number) (get_or-insert_above entries place new no_entry (i - 1) above gap.within)

    pub more_rise : AreRising (insert entries place new)
    more_rise i j less within =
        let long = length-insert entries place new gap.within in
        rw (then_at i, then_at j) (grind (arith, nat_tests, rising i j, rising i (j - 1), rising (i - 1) (j - 1), gap.less_before i, gap.greater_after (j - 1)))

  -- without the entry at a place
  module _ (place : ℕ) (below : place < length entries) where
    without_at : (i : ℕ) → number_at (remove entries place) i ≡ cond (nat_lt i place) (number_at entries i) (number_at entries (i + 1))
    without_at i = by_place (nat_lt i place) refl
      where
        by_place : (t : Bool) → nat_lt i place ≡ t → number_at (remove entries place) i ≡ cond t (number_at entries i) (number_at entries (i + 1))
        by_place true e = ap (λ entry. entry.number) (get_or-remove_below entries place no_entry i (grind (arith, nat_tests)) below)
        by_place false e = ap (λ entry. entry.number) (get_or-remove_above entries place no_entry i (grind (arith, nat_tests)) below)

    pub fewer_rise : AreRising (remove entries place)
    fewer_rise i j less within =
        let short = length-remove entries place below in
        rw (without_at i, without_at j) (grind (arith, nat_tests, rising i j, rising i (j + 1), rising (i + 1) (j + 1)))

behind_rise : (first : Entry) (entries : List Entry) → AreRising (first ∷ entries) → AreRising entries
behind_rise first entries rising i j less within = rising (suc i) (suc j) (omega arith) (omega arith)

-- what the numbers lead to without the entry at a place
pub fewer_leads : (entries : List Entry) → AreRising entries → (place number : ℕ) → place < length entries
    → slot_with (remove entries place) number ≡ cond (nat_eq (number_at entries place) number) None (slot_with entries number)
fewer_leads [] rising place number below = absurd (omega (arith, below))
fewer_leads (first ∷ entries) rising zero number below = by_test (nat_eq first.number number) refl
  where
    by_test : (t : Bool) → nat_eq first.number number ≡ t → slot_with entries number ≡ cond t None (cond t (Some first.slot) (slot_with entries number))
    by_test true e = absent entries number (λ i within same. let less = rising 0 (suc i) (omega arith) (omega arith) in grind (arith, nat_tests))
    by_test false e = refl
fewer_leads (first ∷ entries) rising (suc place) number below =
    let within : place < length entries = omega arith in
    let less = rising 0 (suc place) (omega arith) (omega arith) in
    let rest = fewer_leads entries (behind_rise first entries rising) place number within in
    grind (arith, nat_tests)
