-- Keys in the order of their indexes.
use Rattle.std.proofs.Common.{◌≡◌, ℕ, zero, suc, ◌+◌, ◌<◌, ◌≤◌, List, [], ◌∷◌, length, drop, slice_index, Bool, true, false, Option, Some, None, Contains, ◌⊎◌, inl, inr, refl, sym, ap, ◌∙◌, subst, arith}
use Rattle.std.specs.Prelude.{is_some}
use Rattle.std.specs.List.{AllByRecursion}
use Rattle.std.specs.Str.{bytes_eq}
use Rattle.std.specs.Ordering.{nat_cmp, ordering_reverse, ordering_then, is_gt, is_ge, is_eq}
use Rattle.std.specs.declared.cmp.Ordering.{Ordering}
use Rattle.std.specs.declared.cmp.Ordering.TheVariants.{Less, Equal, Greater}
use Rattle.std.specs.Cmp.{IsTotalOrder, nat_cmp_is}
use Rattle.std.specs.Cmp.Lexicographic.{slice_cmp}
use Rattle.std.proofs.lemmas.Bool.{cases_Bool, cases_lt}
use Rattle.std.proofs.lemmas.List.{drop_all, drop_more}
use Rattle.std.proofs.lemmas.Cmp.{nat_list_cmp_total, tied_itself}
use Rattle.std.proofs.lemmas.Map.Lookups.{exact_bytes}
use Rattle.std.proofs.lemmas.Slice.Eq.{bytes_eq-Decides}
use Rattle.std.proofs.lemmas.List.Elements.{recursion_from_All}
use Rattle.rm_model.specs.Names.{Below, IsLeastAbove}
use Rattle.rm_rows.specs.Table.{PassesUpward, IsFirstPassing}
use Rattle.rm_keyed.specs.Indexes.{key_with, is_index_of}

abbrev by_number : List ℕ → List ℕ → Ordering
by_number xs ys = slice_cmp nat_cmp xs ys

-- what an answer of a comparison is
gt_is : (o : Ordering) → is_gt o ≡ true → o ≡ Greater
gt_is Less e = cc
gt_is Equal e = cc
gt_is Greater e = refl

ge_is : (o : Ordering) → is_ge o ≡ true → (o ≡ Equal) ⊎ (o ≡ Greater)
ge_is Less e = cc
ge_is Equal e = inl refl
ge_is Greater e = inr refl

eq_is : (o : Ordering) → is_eq o ≡ true → o ≡ Equal
eq_is Less e = cc
eq_is Equal e = refl
eq_is Greater e = cc

turned : (xs ys : List ℕ) → by_number xs ys ≡ Greater → Below ys xs
turned xs ys e = nat_list_cmp_total.antisymm ys xs ∙ ap ordering_reverse e

over : (xs ys : List ℕ) → Below ys xs → by_number xs ys ≡ Greater
over xs ys e = nat_list_cmp_total.antisymm xs ys ∙ ap ordering_reverse e

itself : (xs : List ℕ) → by_number xs xs ≡ Equal
itself xs = tied_itself nat_list_cmp_total xs

never : (xs : List ℕ) → Below xs xs → ⊥
never xs e = let f : Less ≡ Equal = sym e ∙ itself xs in cc

module _ {K : Type 0} (cmp : K → K → Ordering) (index : K → List ℕ) (rises : (one other : K) → cmp one other ≡ Less → Below (index one) (index other)) (numbers : List ℕ) where
  -- above a key whose index is above numbers, each is
  pub over_rises : PassesUpward cmp (λ key. is_gt (slice_cmp nat_cmp (index key) numbers))
  over_rises one other passes less =
      ap is_gt (over (index other) numbers (nat_list_cmp_total.trans numbers (index one) (index other) (turned (index one) numbers (gt_is (by_number (index one) numbers) passes)) (rises one other less)))

  -- and so above one whose index isn't below them
  pub from_rises : PassesUpward cmp (λ key. is_ge (slice_cmp nat_cmp (index key) numbers))
  from_rises one other passes less = elim (ge_is (by_number (index one) numbers) passes) [
    | inl same ↦ ap is_ge (over (index other) numbers (sym (nat_list_cmp_total.congr (index one) numbers (index other) same) ∙ rises one other less))
    | inr more ↦ ap is_ge (over (index other) numbers (nat_list_cmp_total.trans numbers (index one) (index other) (turned (index one) numbers more) (rises one other less)))
  ]

module _ {K : Type 0} (index : K → List ℕ) where
  -- numbers that are the index of no key that is such are that of none
  no_index : (IsSuch : K → Type 0) (numbers : List ℕ) → ((key : K) → index key ≡ numbers → ¬ (IsSuch key)) → (keys : List K) → AllByRecursion IsSuch keys → is_index_of index keys numbers ≡ false
  no_index IsSuch numbers isnt [] all = refl
  no_index IsSuch numbers isnt (key ∷ keys) all = elim (cases_Bool (bytes_eq (index key) numbers)) [
    | inl same ↦ absurd (isnt key ((bytes_eq-Decides (index key) numbers).0 same) all.0)
    | inr other ↦ rw other (no_index IsSuch numbers isnt keys all.1)
  ]

  -- the index of a key among them is one
  is_index : (key : K) (keys : List K) → Contains keys key → is_index_of index keys (index key) ≡ true
  is_index key [] c = absurd (omega (arith, c.1))
  is_index key (first ∷ keys) (zero, lt, e) = rw ((bytes_eq-Decides (index first) (index key)).1 (ap index e)) refl
  is_index key (first ∷ keys) (suc place, lt, e) = elim (cases_Bool (bytes_eq (index first) (index key))) [
    | inl same ↦ rw same refl
    | inr other ↦ rw other (is_index key keys (place, omega (arith, lt), e))
  ]

module _ {K : Type 0} (cmp : K → K → Ordering) (order : IsTotalOrder cmp) (exact : (a b : K) → cmp a b ≡ Equal → a ≡ b) (index : K → List ℕ) (rises : (one other : K) → cmp one other ≡ Less → Below (index one) (index other))
    (keys : List K) (numbers : List ℕ) where
  -- the lesser index is that of the lesser key
  lower : (j k : K) → Below (index j) (index k) → cmp j k ≡ Less
  lower j k below = at (cmp j k) refl
    where
      at : (o : Ordering) → cmp j k ≡ o → cmp j k ≡ Less
      at Less e = e
      at Equal e = absurd (never (index k) (subst (λ key. Below (index key) (index k)) (exact j k e) below))
      at Greater e = absurd (never (index k) (nat_list_cmp_total.trans (index k) (index j) (index k) (rises k j (order.antisymm k j ∙ ap ordering_reverse e)) below))

  -- keys with one index are one
  one_key : (j k : K) → index j ≡ index k → j ≡ k
  one_key j k same = at (cmp j k) refl
    where
      at : (o : Ordering) → cmp j k ≡ o → j ≡ k
      at Less e = absurd (never (index k) (subst (λ xs. Below xs (index k)) same (rises j k e)))
      at Equal e = exact j k e
      at Greater e = absurd (never (index j) (subst (λ xs. Below xs (index j)) (sym same) (rises k j (order.antisymm k j ∙ ap ordering_reverse e))))

  -- a key among some is the one with its index
  key_among : (key : K) (some : List K) → Contains some key → key_with index some (index key) ≡ Some key
  key_among key [] c = absurd (omega (arith, c.1))
  key_among key (first ∷ some) (zero, lt, e) = rw ((bytes_eq-Decides (index first) (index key)).1 (ap index e)) (ap Some e)
  key_among key (first ∷ some) (suc place, lt, e) = elim (cases_Bool (bytes_eq (index first) (index key))) [
    | inl same ↦ rw same (ap Some (one_key first key ((bytes_eq-Decides (index first) (index key)).0 same)))
    | inr other ↦ rw other (key_among key some (place, omega (arith, lt), e))
  ]

  pub key_is : (key : K) → Contains keys key → index key ≡ numbers → Some key ≡ key_with index keys numbers
  key_is key there is = sym (subst (λ xs. key_with index keys xs ≡ Some key) is (key_among key keys there))

  abbrev is_over : K → Bool
  is_over key = is_gt (slice_cmp nat_cmp (index key) numbers)

  abbrev is_from : K → Bool
  is_from key = is_ge (slice_cmp nat_cmp (index key) numbers)

  pub none_above : IsFirstPassing cmp is_over keys None → IsLeastAbove (is_index_of index keys) numbers None
  none_above none = λ name below.
      no_index index (λ key. ¬ (is_over key ≡ true)) name (λ key is isnt. isnt (ap is_gt (over (index key) numbers (subst (Below numbers) (sym is) below)))) keys
      (recursion_from_All (λ key. ¬ (is_over key ≡ true)) keys none)

  pub first_above : (key : K) → IsFirstPassing cmp is_over keys (Some key) → IsLeastAbove (is_index_of index keys) numbers (Some (index key))
  first_above key first = (
    turned (index key) numbers (gt_is (by_number (index key) numbers) first.1),
    is_index index key keys first.0,
    (λ name below before.
        no_index index (λ j. is_over j ≡ true → ¬ (cmp j key ≡ Less)) name
        (λ j is least. least (ap is_gt (over (index j) numbers (subst (Below numbers) (sym is) below))) (lower j key (subst (λ other. Below other (index key)) (sym is) before))) keys
        (recursion_from_All (λ j. is_over j ≡ true → ¬ (cmp j key ≡ Less)) keys first.2)),
  )

  is_from-same : (key : K) → index key ≡ numbers → is_from key ≡ true
  is_from-same key is = ap is_ge (subst (λ other. by_number (index key) other ≡ Equal) is (itself (index key)))

  -- no key has these numbers, where none is from them on
  pub none_from : IsFirstPassing cmp is_from keys None → is_index_of index keys numbers ≡ false
  none_from none =
      no_index index (λ key. ¬ (is_from key ≡ true)) numbers (λ key is isnt. isnt (is_from-same key is)) keys
      (recursion_from_All (λ key. ¬ (is_from key ≡ true)) keys none)

  -- or where the first of those has others
  pub other_from : (key : K) → IsFirstPassing cmp is_from keys (Some key) → is_eq (slice_cmp nat_cmp (index key) numbers) ≡ false → is_index_of index keys numbers ≡ false
  other_from key first other =
      no_index index (λ j. is_from j ≡ true → ¬ (cmp j key ≡ Less)) numbers
      (λ j is least. least (is_from-same j is) (lower j key (subst (λ xs. Below xs (index key)) (sym is) past))) keys
      (recursion_from_All (λ j. is_from j ≡ true → ¬ (cmp j key ≡ Less)) keys first.2)
    where
      past : Below numbers (index key)
      past = elim (ge_is (by_number (index key) numbers) first.1) [
        | inl same ↦ let clash : true ≡ false = sym (ap is_eq same) ∙ other in cc
        | inr more ↦ turned (index key) numbers more
      ]

-- numbers that compare as equal are the same
pub same_numbers : (xs ys : List ℕ) → is_eq (slice_cmp nat_cmp xs ys) ≡ true → xs ≡ ys
same_numbers xs ys e = exact_bytes xs ys (eq_is (by_number xs ys) e)

-- two lists from a place on: the numbers there decide, and where one ends the lengths do
module _ (xs ys : List ℕ) (place : ℕ) where
  pub compare_step : place < length xs → place < length ys
      → slice_cmp nat_cmp (drop place xs) (drop place ys) ≡ ordering_then (nat_cmp (slice_index xs place) (slice_index ys place)) (slice_cmp nat_cmp (drop (place + 1) xs) (drop (place + 1) ys))
  compare_step l m = rw (drop_more xs place 0 l, drop_more ys place 0 m) refl

  pub compare_over : place < length xs → length ys ≤ place → slice_cmp nat_cmp (drop place xs) (drop place ys) ≡ Greater
  compare_over l m = rw (drop_more xs place 0 l, drop_all place ys m) refl

  pub compare_end : length xs ≤ place → place ≤ length ys → slice_cmp nat_cmp (drop place xs) (drop place ys) ≡ nat_cmp place (length ys)
  compare_end l m = elim (cases_lt place (length ys)) [
    | inl more ↦ rw (drop_all place xs l, drop_more ys place 0 more) (nat_cmp_is place (length ys) Less more)
    | inr none ↦ rw (drop_all place xs l, drop_all place ys none) (nat_cmp_is place (length ys) Equal (omega arith))
  ]

-- there is none where none is found
pub is_none : {X : Type 0} (o : Option X) → is_some o ≡ false → None ≡ o
is_none None none = refl
is_none (Some x) none = absurd (cc)
