-- The hosts that are reported, when those that gained something are put in order.
use Rattle.std.proofs.Common.{◌≡◌, ℕ, ◌+◌, ◌<◌, ◌≤◌, zero, suc, Bool, true, false, cond, ◌&&◌, ◌||◌, List, [], ◌∷◌, length, filter, map, take, find, refl, sym, ap, ◌∙◌, arith, subst, Option, Some, None, slice_get, get_or, nat_eq}
use Rattle.std.specs.Prelude.{count_by, nat_lt, nat_le, All}
use Rattle.std.specs.Option.{option_map}
use Rattle.std.specs.List.{list_any}
use Rattle.std.specs.List.Sorted.{IsPermutation, IsSorted, IsSortedBy}
use Rattle.std.specs.Cmp.{IsTotalOrder}
use Rattle.std.specs.Cmp.Lexicographic.{slice_cmp}
use Rattle.std.specs.Ordering.{is_lt, nat_cmp, ordering_then, on, flip_args}
use Rattle.std.specs.Str.{bytes_eq}
use Rattle.std.specs.declared.cmp.Ordering.{Ordering}
use Rattle.std.specs.declared.cmp.Ordering.TheVariants.{Less, Equal, Greater}
use Rattle.std.proofs.lemmas.Bool.{true≢false}
use Rattle.std.proofs.lemmas.Bool.Decides.{nat_tests}
use Rattle.std.proofs.lemmas.Cmp.{nat_cmp_total, nat_list_cmp_total, on_total, then_total, back_total}
use Rattle.std.proofs.lemmas.List.{get_or-map, length-map}
use Rattle.std.proofs.lemmas.List.Elements.{All-map, All-tail}
use Rattle.std.proofs.lemmas.List.Sorted.{All-permutation, IsPermutation-map, list_any-IsPermutation}
use Rattle.std.proofs.lemmas.List.Sums.{length-filter}
use Rattle.std.proofs.lemmas.Map.Lookups.{exact_bytes}
use Rattle.std.proofs.lemmas.Option.{slice_get-map}
use Rattle.rm_evicting.specs.Held.{IsExact}
use Rattle.rm_evicting.proofs.Recency.{IsApart}
use Rattle.rm_evicting.proofs.RankLemmas.{any-filter, apart-filter, same_length}
use Rattle.rm_report.specs.declared.ranked.Ranked.{Ranked}
use Rattle.rm_report.specs.Ranks.{comes_before, gainers, place_of, gainer_at}
use Rattle.rm_report.specs.Ranking.{with_rate, gains_something, in_order, IsReport}
use Rattle.rm_report.proofs.Order.{apart_moved, strict, place_counted}

or_right : {b : Bool} (a : Bool) → b ≡ true → (a || b) ≡ true
or_right true is = refl
or_right false is = is

module _ {K : Type 0} (eq : K → K → Bool) (exact : IsExact eq) where
  -- an element among others has a place
  pub among_at : (x : K) (xs : List K) → list_any (eq x) xs ≡ true → (i : ℕ) × (slice_get xs i ≡ Some x)
  among_at x [] some = absurd (true≢false (sym some))
  among_at x (y ∷ xs) some = go (eq x y) refl (among_at x xs)
    where
      go : (t : Bool) → eq x y ≡ t → (list_any (eq x) xs ≡ true → (i : ℕ) × (slice_get xs i ≡ Some x)) → (i : ℕ) × (slice_get (y ∷ xs) i ≡ Some x)
      go true is rest = (0, ap Some (sym (exact.same x y is)))
      go false is rest = let more = rest (ap (λ b. b || list_any (eq x) xs) (sym is) ∙ some) in (suc more.0, more.1)

  pub at_among : (xs : List K) (i : ℕ) (x : K) → slice_get xs i ≡ Some x → list_any (eq x) xs ≡ true
  at_among [] i x here = cc
  at_among (y ∷ xs) zero x here = let same : y ≡ x = cc in subst (λ z. list_any (eq z) (y ∷ xs) ≡ true) same (ap (λ b. b || list_any (eq y) xs) (exact.itself y))
  at_among (y ∷ xs) (suc i) x here = or_right (eq x y) (at_among xs i x here)

  module _ (test : K → Bool) where
    -- none of them passes a test
    find_no : (xs : List K) → ((x : K) → list_any (eq x) xs ≡ true → test x ≡ false) → find test xs ≡ None
    find_no [] fails = refl
    find_no (y ∷ xs) fails =
        let first : test y ≡ false = fails y (ap (λ b. b || list_any (eq y) xs) (exact.itself y)) in
        ap (λ t. cond t (Some y) (find test xs)) first ∙ find_no xs (λ x i. fails x (or_right (eq x y) i))

    -- one of them passes a test, and no other
    find_one : (xs : List K) (x : K) → list_any (eq x) xs ≡ true → ((y : K) → list_any (eq y) xs ≡ true → test y ≡ eq x y) → find test xs ≡ Some x
    find_one [] x some tests = absurd (true≢false (sym some))
    find_one (y ∷ xs) x some tests = go (eq x y) refl (λ more. find_one xs x more (λ z i. tests z (or_right (eq z y) i)))
      where
        first : test y ≡ eq x y
        first = tests y (ap (λ b. b || list_any (eq y) xs) (exact.itself y))

        go : (t : Bool) → eq x y ≡ t → (list_any (eq x) xs ≡ true → find test xs ≡ Some x) → cond (test y) (Some y) (find test xs) ≡ Some x
        go true is rest = ap (λ t. cond t (Some y) (find test xs)) (first ∙ is) ∙ ap Some (sym (exact.same x y is))
        go false is rest = ap (λ t. cond t (Some y) (find test xs)) (first ∙ is) ∙ rest (ap (λ b. b || list_any (eq x) xs) (sym is) ∙ some)

-- the order of hosts by their rates
in_order_total : IsTotalOrder in_order
in_order_total = then_total {R = on (λ (r : Ranked). r.rate.0) (flip_args nat_cmp)} {S = on (λ (r : Ranked). r.address) (slice_cmp nat_cmp)} (on_total (λ (r : Ranked). r.rate.0) (back_total nat_cmp_total)) (on_total (λ (r : Ranked). r.address) nat_list_cmp_total)

-- the test of ranks and the order by which they were put in order are one
by_numbers : (m n : ℕ) (o : Ordering) → (nat_lt n m || (nat_eq m n && is_lt o)) ≡ is_lt (ordering_then (nat_cmp n m) o)
by_numbers m n Less = grind (arith, nat_tests)
by_numbers m n Equal = grind (arith, nat_tests)
by_numbers m n Greater = grind (arith, nat_tests)

-- of places
is_at : (p i : ℕ) → p ≡ suc i → nat_eq p (suc i) ≡ true
is_at p i is = grind (arith, nat_tests)

not_at : (p j i : ℕ) → p ≡ suc j → (j ≡ i → ⊥) → nat_eq p (suc i) ≡ false
not_at p j i is other = grind (arith, nat_tests)

no_place : (n : ℕ) → nat_eq (1 + n) 0 ≡ false
no_place n = grind (arith, nat_tests)

below : (i most : ℕ) → nat_le (suc i) most ≡ true → i < most
below i most within = grind (arith, nat_tests)

above : (i most : ℕ) → nat_le (suc i) most ≡ false → most ≤ i
above i most past = grind (arith, nat_tests)

-- what a list begins with
module _ {X : Type 0} where
  take_within : (n : ℕ) (xs : List X) (i : ℕ) → i < n → slice_get (take n xs) i ≡ slice_get xs i
  take_within zero xs i lt = absurd (omega arith)
  take_within (suc n) [] i lt = refl
  take_within (suc n) (x ∷ xs) zero lt = refl
  take_within (suc n) (x ∷ xs) (suc i) lt = take_within n xs i (omega arith)

  take_past : (n : ℕ) (xs : List X) (i : ℕ) → n ≤ i → slice_get (take n xs) i ≡ None
  take_past zero xs i le = refl
  take_past (suc n) [] i le = refl
  take_past (suc n) (x ∷ xs) zero le = absurd (omega arith)
  take_past (suc n) (x ∷ xs) (suc i) le = take_past n xs i (omega arith)

-- Hosts that stand apart, and the same ones by their keys; and these with their rates, of which those that gained something were put in order.
module _ (exact : IsExact bytes_eq) (rate : List ℕ → ℕ) (held keys : List (List ℕ)) (held_apart : IsApart bytes_eq exact held) (keys_apart : IsApart bytes_eq exact keys)
    (members : (a : List ℕ) → list_any (bytes_eq a) held ≡ list_any (bytes_eq a) keys)
    (ranked : List Ranked) where
  abbrev rated : List ℕ → Ranked
  rated a = with_rate (rate a) a

  abbrev gained : List ℕ → Bool
  gained a = nat_lt 0 (rate a)

  abbrev compare : List ℕ → List ℕ → Ordering
  compare a b = in_order (rated a) (rated b)

  compare_total : IsTotalOrder compare
  compare_total = on_total rated in_order_total

  equal : (a b : List ℕ) → compare a b ≡ Equal → bytes_eq a b ≡ true
  equal a b e = subst (λ c. bytes_eq a c ≡ true) (exact_bytes a b (second (nat_cmp (rate b) (rate a)) (slice_cmp nat_cmp a b) e)) (exact.itself a)
    where
      second : (o p : Ordering) → ordering_then o p ≡ Equal → p ≡ Equal
      second Less p e = cc
      second Equal p e = e
      second Greater p e = cc

  same_test : (a b : List ℕ) → comes_before rate a b ≡ is_lt (compare a b)
  same_test a b = by_numbers (rate a) (rate b) (slice_cmp nat_cmp a b)

  filtered : (xs : List (List ℕ)) → filter gains_something (map rated xs) ≡ map rated (filter gained xs)
  filtered [] = refl
  filtered (a ∷ xs) = go (gained a) (filtered xs)
    where
      go : (t : Bool) → filter gains_something (map rated xs) ≡ map rated (filter gained xs)
          → cond t (rated a ∷ filter gains_something (map rated xs)) (filter gains_something (map rated xs)) ≡ map rated (cond t (a ∷ filter gained xs) (filter gained xs))
      go true rest = ap (λ rs. rated a ∷ rs) rest
      go false rest = rest

  addresses_of : List Ranked → List (List ℕ)
  addresses_of rs = map (λ r. r.address) rs

  addresses_rated : (xs : List (List ℕ)) → map (λ (r : Ranked). r.address) (map rated xs) ≡ xs
  addresses_rated [] = refl
  addresses_rated (a ∷ xs) = ap (λ ys. a ∷ ys) (addresses_rated xs)

  -- those with their rates are so by their addresses
  abbrev IsRated : Ranked → Type 0
  IsRated r = r ≡ rated r.address

  all_rated : (xs : List (List ℕ)) → All IsRated (map rated xs)
  all_rated xs = All-map IsRated rated xs (λ k d lt. refl)

  rated_again : (rs : List Ranked) → All IsRated rs → rs ≡ map rated (map (λ (r : Ranked). r.address) rs)
  rated_again [] all = refl
  rated_again (r ∷ rs) all = λ d. all 0 r (omega arith) d ∷ rated_again rs (All-tail IsRated r rs all) d

  module _ (moved : IsPermutation (filter gains_something (map rated keys)) ranked) (sorted : IsSorted in_order ranked) where
    abbrev found : List (List ℕ)
    found = filter gained keys

    abbrev placed : List (List ℕ)
    placed = map (λ r. r.address) ranked

    rated_moved : IsPermutation (map rated found) ranked
    rated_moved = subst (λ rs. IsPermutation rs ranked) (filtered keys) moved

    found_moved : IsPermutation found placed
    found_moved = subst (λ xs. IsPermutation xs placed) (addresses_rated found) (IsPermutation-map (λ (r : Ranked). r.address) (map rated found) ranked rated_moved)

    ranked_is : ranked ≡ map rated placed
    ranked_is = rated_again ranked (All-permutation IsRated (map rated found) ranked rated_moved (all_rated found))

    placed_apart : IsApart bytes_eq exact placed
    placed_apart = apart_moved bytes_eq exact found placed found_moved (apart-filter bytes_eq exact gained keys keys_apart)

    sorted_placed : IsSorted in_order (map rated placed)
    sorted_placed = subst (IsSorted in_order) ranked_is sorted

    placed_sorted : IsSortedBy (λ a b. is_lt (compare a b)) placed
    placed_sorted k d low high =
        subst (λ r. is_lt (in_order r (rated (get_or placed k d))) ≡ false) (get_or-map rated placed (k + 1) d (rated d) (omega arith))
        (subst (λ r. is_lt (in_order (get_or (map rated placed) (k + 1) (rated d)) r) ≡ false) (get_or-map rated placed k d (rated d) (omega arith))
        (sorted_placed k (rated d) low (subst (λ n. k + 1 < n) (sym (length-map placed rated)) high)))

    gainers_apart : IsApart bytes_eq exact (gainers rate held)
    gainers_apart = apart-filter bytes_eq exact gained held held_apart

    same_members : (a : List ℕ) → list_any (bytes_eq a) (gainers rate held) ≡ list_any (bytes_eq a) placed
    same_members a =
        any-filter bytes_eq exact gained a held ∙ ap (λ t. t && gained a) (members a) ∙ sym (any-filter bytes_eq exact gained a keys)
        ∙ list_any-IsPermutation (bytes_eq a) found placed found_moved

    -- the place of the one that stands behind so many
    place_is : (i : ℕ) (a : List ℕ) → slice_get placed i ≡ Some a → place_of rate held a ≡ suc i
    place_is i a here =
        let p : List ℕ → Bool = λ b. comes_before rate b a in
        let q : List ℕ → Bool = λ b. is_lt (compare b a) in
        let many : length (filter p (gainers rate held)) ≡ length (filter p placed) =
        same_length bytes_eq exact (filter p (gainers rate held)) (filter p placed)
        (apart-filter bytes_eq exact p (gainers rate held) gainers_apart) (apart-filter bytes_eq exact p placed placed_apart)
        (λ h. any-filter bytes_eq exact p h (gainers rate held) ∙ ap (λ t. t && p h) (same_members h) ∙ sym (any-filter bytes_eq exact p h placed)) in
        let tests : p ≡ q = λ d b. same_test b a d in
        let stand : count_by q placed ≡ i = place_counted compare compare_total bytes_eq exact equal placed i a (strict compare compare_total bytes_eq exact equal placed placed_apart placed_sorted) here in
        let all : count_by p placed ≡ i = ap (λ t. count_by t placed) tests ∙ stand in
        let one : length (filter p (gainers rate held)) ≡ count_by p (gainers rate held) = length-filter p (gainers rate held) in
        let two : length (filter p placed) ≡ count_by p placed = length-filter p placed in
        omega arith

    abbrev place_at : (a : List ℕ) → list_any (bytes_eq a) (gainers rate held) ≡ true → (j : ℕ) × (slice_get placed j ≡ Some a)
    place_at a i = among_at bytes_eq exact a placed (sym (same_members a) ∙ i)

    module _ (i : ℕ) where
      none_there : (a : List ℕ) → list_any (bytes_eq a) (gainers rate held) ≡ true → slice_get placed i ≡ None → nat_eq (place_of rate held a) (suc i) ≡ false
      none_there a among none =
          let at = place_at a among in
          not_at (place_of rate held a) at.0 i (place_is at.0 a at.1) (λ same. let f : None ≡ Some a = sym none ∙ ap (slice_get placed) (sym same) ∙ at.1 in cc)

      one_there : (a b : List ℕ) → list_any (bytes_eq b) (gainers rate held) ≡ true → slice_get placed i ≡ Some a → nat_eq (place_of rate held b) (suc i) ≡ bytes_eq a b
      one_there a b among here = go (bytes_eq a b) refl
        where
          go : (t : Bool) → bytes_eq a b ≡ t → nat_eq (place_of rate held b) (suc i) ≡ t
          go true is = subst (λ c. nat_eq (place_of rate held c) (suc i) ≡ true) (exact.same a b is) (is_at (place_of rate held a) i (place_is i a here))
          go false isnt =
              let at = place_at b among in
              not_at (place_of rate held b) at.0 i (place_is at.0 b at.1) (λ same.
              let f : Some a ≡ Some b = sym here ∙ ap (slice_get placed) (sym same) ∙ at.1 in
              let one : a ≡ b = cc in
              true≢false (sym (subst (λ c. bytes_eq a c ≡ true) one (exact.itself a)) ∙ isnt))

    gainer_is : (i : ℕ) → gainer_at rate held (suc i) ≡ slice_get placed i
    gainer_is i = go (slice_get placed i) refl
      where
        test : List ℕ → Bool
        test a = nat_eq (place_of rate held a) (suc i)

        go : (o : Option (List ℕ)) → slice_get placed i ≡ o → find test (gainers rate held) ≡ o
        go None e = find_no bytes_eq exact test (gainers rate held) (λ a among. none_there i a among e)
        go (Some a) e = find_one bytes_eq exact test (gainers rate held) a (same_members a ∙ at_among bytes_eq exact placed i a e) (λ b among. one_there i a b among e)

    pub reported : (most : ℕ) → IsReport rate held most (take most ranked)
    reported most zero = ap (option_map rated) (sym (both_none (nat_le 0 most) (find_no bytes_eq exact (λ a. nat_eq (place_of rate held a) 0) (gainers rate held) (λ a among. no_place (count_by (λ b. comes_before rate b a) (gainers rate held))))))
      where
        both_none : {o : Option (List ℕ)} (t : Bool) → o ≡ None → cond t o None ≡ None
        both_none true none = none
        both_none false none = refl
    reported most (suc i) = go (nat_le (suc i) most) refl
      where
        go : (t : Bool) → nat_le (suc i) most ≡ t → slice_get (take most ranked) i ≡ option_map rated (cond t (gainer_at rate held (suc i)) None)
        go true within =
            take_within most ranked i (below i most within) ∙ ap (λ rs. slice_get rs i) ranked_is ∙ slice_get-map rated placed i ∙ ap (option_map rated) (sym (gainer_is i))
        go false past = take_past most ranked i (above i most past)
