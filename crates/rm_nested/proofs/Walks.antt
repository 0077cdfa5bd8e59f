-- The next one of nested rows.
use Rattle.std.proofs.Common.{◌≡◌, ℕ, zero, suc, ◌<◌, ◌≤◌, ◌⊎◌, inl, inr, List, [], ◌∷◌, slice_index, drop, Bool, true, false, cond, Option, Some, None, refl, sym, subst, nat_eq, nat_lt, arith}
use Rattle.std.specs.Ordering.{nat_cmp, ordering_then}
use Rattle.std.specs.declared.cmp.Ordering.TheVariants.{Less, Equal, Greater}
use Rattle.std.specs.Cmp.Lexicographic.{slice_cmp}
use Rattle.std.proofs.lemmas.Bool.Decides.{nat_tests}
use Rattle.rm_model.specs.Names.{Below, IsLeastAbove}
use Rattle.rm_model.specs.Numbers.{IsNumberAbove}
use Rattle.rm_nested.specs.Nested.{is_nested, is_number, IsFirstAbove}

eq_is : (a b : ℕ) → nat_eq a b ≡ true → a ≡ b
eq_is a b h = grind (arith, nat_tests)

less_yes : (n k : ℕ) → n < k → nat_lt n k ≡ true
less_yes n k h = grind (arith, nat_tests)

less_is : (n k : ℕ) → nat_lt n k ≡ true → n < k
less_is n k h = grind (arith, nat_tests)

less_isnt : (n k : ℕ) → nat_lt n k ≡ false → k ≤ n
less_isnt n k h = grind (arith, nat_tests)

less_no : (n : ℕ) → nat_lt n n ≡ false
less_no n = grind (arith, nat_tests)

equal_yes : (n : ℕ) → nat_eq n n ≡ true
equal_yes n = grind (arith, nat_tests)

-- the first numbers decide, and where they are the same, those after them
below_first : (n : ℕ) (more : List ℕ) (k : ℕ) (rest : List ℕ) → n < k → Below (n ∷ more) (k ∷ rest)
below_first n more k rest h = rw (less_yes n k h) refl

below_same : (n : ℕ) (more : List ℕ) (rest : List ℕ) → Below more rest → Below (n ∷ more) (n ∷ rest)
below_same n more rest h = rw (less_no n, equal_yes n) h

below_parts : (n : ℕ) (more : List ℕ) (k : ℕ) (rest : List ℕ) → Below (n ∷ more) (k ∷ rest) → (n < k) ⊎ ((n ≡ k) × Below more rest)
below_parts n more k rest h =
    elim (nat_lt n k) as (λ t. nat_lt n k ≡ t → ordering_then (cond t Less (cond (nat_eq n k) Equal Greater)) (slice_cmp nat_cmp more rest) ≡ Less → (n < k) ⊎ ((n ≡ k) × Below more rest)) [
      | true ↦ λ e _. inl (less_is n k e)
      | false ↦ λ _. elim (nat_eq n k) as (λ t. nat_eq n k ≡ t → ordering_then (cond t Equal Greater) (slice_cmp nat_cmp more rest) ≡ Less → (n < k) ⊎ ((n ≡ k) × Below more rest)) [
        | true ↦ λ same later. inr (eq_is n k same, later)
        | false ↦ λ _ no. absurd (cc)
      ] refl
    ] refl h

not_below_none : (more : List ℕ) → Below more [] → ⊥
not_below_none [] h = cc
not_below_none (x ∷ more) h = cc

module _ (is_inner : ℕ → List ℕ → Bool) where
  -- the next one is of the same row
  pub next_in_row : (row : ℕ) (rest inner : List ℕ) → IsLeastAbove (is_inner row) rest (Some inner) → IsLeastAbove (is_nested is_inner) (row ∷ rest) (Some (row ∷ inner))
  next_in_row row rest inner least = (below_same row rest inner least.0, least.1, between)
    where
      at : (i : ℕ) (other : List ℕ) → (row < i) ⊎ ((row ≡ i) × Below rest other) → (i < row) ⊎ ((i ≡ row) × Below other inner) → is_inner i other ≡ false
      at i other (inl over) (inl under) = absurd (omega (arith, over, under))
      at i other (inl over) (inr under) = absurd (omega (arith, over, under.0))
      at i other (inr over) (inl under) = absurd (omega (arith, over.0, under))
      at i other (inr over) (inr under) = subst (λ n. is_inner n other ≡ false) over.0 (least.2 other over.1 under.1)

      between : (name : List ℕ) → Below (row ∷ rest) name → Below name (row ∷ inner) → is_nested is_inner name ≡ false
      between [] over under = refl
      between (i ∷ other) over under = at i other (below_parts row rest i other over) (below_parts i other row inner under)

  -- the next one is the first one of the rows above
  pub next_in_other : (row : ℕ) (rest : List ℕ) (found : Option (List ℕ)) → IsLeastAbove (is_inner row) rest None → IsFirstAbove is_inner row found → IsLeastAbove (is_nested is_inner) (row ∷ rest) found
  next_in_other row rest None none first = nothing
    where
      at : (i : ℕ) (other : List ℕ) → (row < i) ⊎ ((row ≡ i) × Below rest other) → is_inner i other ≡ false
      at i other (inl over) = first i other over
      at i other (inr over) = subst (λ n. is_inner n other ≡ false) over.0 (none other over.1)

      nothing : (name : List ℕ) → Below (row ∷ rest) name → is_nested is_inner name ≡ false
      nothing [] over = refl
      nothing (i ∷ other) over = at i other (below_parts row rest i other over)
  next_in_other row rest (Some []) none first = absurd first
  next_in_other row rest (Some (x ∷ inner)) none first = (below_first row rest x inner first.0, first.1, between)
    where
      at : (i : ℕ) (other : List ℕ) → (row < i) ⊎ ((row ≡ i) × Below rest other) → (i < x) ⊎ ((i ≡ x) × Below other inner) → is_inner i other ≡ false
      at i other (inl over) (inl under) = first.2 i other over under
      at i other (inl over) (inr under) = subst (λ n. is_inner n other ≡ false) (sym under.0) (first.3 other under.1)
      at i other (inr over) _ = subst (λ n. is_inner n other ≡ false) over.0 (none other over.1)

      between : (name : List ℕ) → Below (row ∷ rest) name → Below name (x ∷ inner) → is_nested is_inner name ≡ false
      between [] over under = refl
      between (i ∷ other) over under = at i other (below_parts row rest i other over) (below_parts i other x inner under)

  module _ (not_empty : (row : ℕ) → is_inner row [] ≡ false) where
    -- the first one of a row, where no row between has any
    pub first_of : (row x : ℕ) (inner : List ℕ) → row < x → ((other : ℕ) (index : List ℕ) → row < other → other < x → is_inner other index ≡ false) → IsLeastAbove (is_inner x) [] (Some inner) → IsFirstAbove is_inner row (Some (x ∷ inner))
    first_of row x inner over none least = (over, least.1, none, before)
      where
        before : (index : List ℕ) → Below index inner → is_inner x index ≡ false
        before [] under = not_empty x
        before (k ∷ more) under = least.2 (k ∷ more) refl under

    none_of : (x : ℕ) → IsLeastAbove (is_inner x) [] None → (index : List ℕ) → is_inner x index ≡ false
    none_of x none [] = not_empty x
    none_of x none (k ∷ more) = none (k ∷ more) refl

    -- no row up to one has any
    module _ (is_outer : ℕ → Bool) (of_outer : (row : ℕ) (index : List ℕ) → is_outer row ≡ false → is_inner row index ≡ false) where
      pub none_between : (row last next : ℕ) → ((other : ℕ) (index : List ℕ) → row < other → other ≤ last → is_inner other index ≡ false) → IsNumberAbove is_outer last (Some next) → (other : ℕ) (index : List ℕ) → row < other → other < next → is_inner other index ≡ false
      none_between row last next none least other index over under =
          elim (nat_lt last other) as (λ t. nat_lt last other ≡ t → is_inner other index ≡ false) [
            | true ↦ λ e. of_outer other index (least.2 other (less_is last other e) under)
            | false ↦ λ e. none other index over (less_isnt last other e)
          ] refl

      pub none_up_to : (row last next : ℕ) → ((other : ℕ) (index : List ℕ) → row < other → other ≤ last → is_inner other index ≡ false) → IsNumberAbove is_outer last (Some next) → IsLeastAbove (is_inner next) [] None → (other : ℕ) (index : List ℕ) → row < other → other ≤ next → is_inner other index ≡ false
      none_up_to row last next none least empty other index over low =
          elim (nat_lt other next) as (λ t. nat_lt other next ≡ t → is_inner other index ≡ false) [
            | true ↦ λ e. none_between row last next none least other index over (less_is other next e)
            | false ↦ λ e. let same : next ≡ other = omega (arith, low, less_isnt other next e) in subst (λ n. is_inner n index ≡ false) same (none_of next empty index)
          ] refl

      pub none_above : (row last : ℕ) → ((other : ℕ) (index : List ℕ) → row < other → other ≤ last → is_inner other index ≡ false) → IsNumberAbove is_outer last None → IsFirstAbove is_inner row None
      none_above row last none no_more other index over =
          elim (nat_lt last other) as (λ t. nat_lt last other ≡ t → is_inner other index ≡ false) [
            | true ↦ λ e. of_outer other index (no_more other (less_is last other e))
            | false ↦ λ e. none other index over (less_isnt last other e)
          ] refl

    -- above an index are the rows above its first number and the rest
    above_rest : (name : List ℕ) → Below [] name → is_nested is_inner name ≡ true → Below (0 ∷ []) name
    above_rest [] over is = absurd (cc)
    above_rest (i ∷ []) over is = let no = not_empty i in absurd (cc)
    above_rest (zero ∷ k ∷ more) over is = below_same 0 [] (k ∷ more) refl
    above_rest (suc i ∷ k ∷ more) over is = below_first 0 [] (suc i) (k ∷ more) (omega arith)

    pub above_index : (index : List ℕ) (found : Option (List ℕ)) → IsLeastAbove (is_nested is_inner) (slice_index index 0 ∷ drop 1 index) found → IsLeastAbove (is_nested is_inner) index found
    above_index (row ∷ rest) found least = least
    above_index [] None least = nothing
      where
        nothing : (name : List ℕ) → Below [] name → is_nested is_inner name ≡ false
        nothing name over = elim (is_nested is_inner name) as (λ t. is_nested is_inner name ≡ t → t ≡ false) [
          | true ↦ λ is. let no = least name (above_rest name over is) in absurd (cc)
          | false ↦ λ _. refl
        ] refl
    above_index [] (Some found) least = (some found least.0, least.1, between)
      where
        some : (found : List ℕ) → Below (0 ∷ []) found → Below [] found
        some [] h = absurd (not_below_none (0 ∷ []) h)
        some (x ∷ found) h = refl

        between : (name : List ℕ) → Below [] name → Below name found → is_nested is_inner name ≡ false
        between name over under = elim (is_nested is_inner name) as (λ t. is_nested is_inner name ≡ t → t ≡ false) [
          | true ↦ λ is. let no = least.2 name (above_rest name over is) under in absurd (cc)
          | false ↦ λ _. refl
        ] refl

-- Inner indexes of one number.
module _ (test : ℕ → Bool) (no_0 : test 0 ≡ false) where
  first_above : (index : List ℕ) (k : ℕ) → test k ≡ true → Below index (k ∷ []) → slice_index index 0 < k
  first_above [] zero is over = absurd (cc)
  first_above [] (suc k) is over = omega arith
  first_above (m ∷ more) k is over = by_parts (below_parts m more k [] over)
    where
      by_parts : (m < k) ⊎ ((m ≡ k) × Below more []) → m < k
      by_parts (inl less) = less
      by_parts (inr same) = absurd (not_below_none more same.1)

  above_first : (index : List ℕ) (n : ℕ) → slice_index index 0 < n → Below index (n ∷ [])
  above_first [] n over = refl
  above_first (m ∷ more) n over = below_first m more n [] over

  pub none_above_it : (index : List ℕ) → IsNumberAbove test (slice_index index 0) None → IsLeastAbove (is_number test) index None
  none_above_it index none = nothing
    where
      nothing : (name : List ℕ) → Below index name → is_number test name ≡ false
      nothing [] over = refl
      nothing (k ∷ []) over = elim (test k) as (λ t. test k ≡ t → t ≡ false) [ true ↦ λ e. let no = none k (first_above index k e over) in absurd (cc) | false ↦ λ _. refl ] refl
      nothing (k ∷ next ∷ more) over = refl

  pub least_above_it : (index : List ℕ) (n : ℕ) → IsNumberAbove test (slice_index index 0) (Some n) → IsLeastAbove (is_number test) index (Some (n ∷ []))
  least_above_it index n least = (above_first index n least.0, least.1, between)
    where
      under_first : (k : ℕ) → Below (k ∷ []) (n ∷ []) → k < n
      under_first k h = by_parts (below_parts k [] n [] h)
        where
          by_parts : (k < n) ⊎ ((k ≡ n) × Below [] []) → k < n
          by_parts (inl less) = less
          by_parts (inr same) = absurd (not_below_none [] same.1)

      between : (name : List ℕ) → Below index name → Below name (n ∷ []) → is_number test name ≡ false
      between [] over under = refl
      between (k ∷ []) over under = elim (test k) as (λ t. test k ≡ t → t ≡ false) [ true ↦ λ e. let no = least.2 k (first_above index k e over) (under_first k under) in absurd (cc) | false ↦ λ _. refl ] refl
      between (k ∷ next ∷ more) over under = refl
