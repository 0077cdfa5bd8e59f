-- The row at a place has that place as its rank by entry.
use Rattle.std.proofs.Common.{◌≡◌, ℕ, ◌<◌, ◌+◌, zero, suc, Bool, true, false, not, ◌&&◌, ◌||◌, nat_lt, nat_le, List, [], ◌∷◌, length, min, filter, refl, sym, ap, ◌∙◌, arith, subst, Some, slice_get, inl, inr}
use Rattle.std.specs.List.{list_any, AllByRecursion, count_by}
use Rattle.std.proofs.lemmas.Bool.{cases_Bool, true≢false, lt-ltb, le-ltb}
use Rattle.std.proofs.lemmas.Bool.Decides.{nat_tests}
use Rattle.std.proofs.lemmas.List.Sums.{length-filter}
use Rattle.rm_evicting.specs.Mention.{Mention, keys}
use Rattle.rm_evicting.specs.Held.{IsExact, without, distinct, held, held_keys, entry, order, is_eviction}
use Rattle.rm_evicting.specs.declared.Row.{Row}
use Rattle.rm_evicting.specs.Row.{takes_place}
use Rattle.rm_evicting.specs.Stands.{IsByEntry, IsRow, Stands}
use Rattle.rm_evicting.proofs.Recency.{and_false, and_true, IsApart, any-without, any-distinct, distinct-apart, length-without}
use Rattle.rm_evicting.proofs.RowLemmas.{row_keys, each-weaker, holds-keys, apart_by_entry}

module _ {K : Type 0} (eq : K → K → Bool) (exact : IsExact eq) where
  -- what a filter keeps
  pub any-filter : (p : K → Bool) (h : K) (xs : List K) → list_any (eq h) (filter p xs) ≡ (list_any (eq h) xs && p h)
  any-filter p h [] = refl
  any-filter p h (x ∷ xs) = elim (cases_Bool (eq h x)) [
    | inl e ↦ let same : p h ≡ p x = ap p (exact.same h x e) in elim (cases_Bool (p x)) [
      | inl y ↦ rw (y, e, same, y) refl
      | inr y ↦ let off : p h ≡ false = same ∙ y in rw (y, any-filter p h xs, e, off) (and_false (list_any (eq h) xs))
    ]
    | inr e ↦ elim (cases_Bool (p x)) [
      | inl y ↦ rw (y, e) (any-filter p h xs)
      | inr y ↦ rw (y, e) (any-filter p h xs)
    ]
  ]

  pub apart-filter : (p : K → Bool) (xs : List K) → IsApart eq exact xs → IsApart eq exact (filter p xs)
  apart-filter p [] a = tt
  apart-filter p (x ∷ xs) a = elim (cases_Bool (p x)) [
    | inl e ↦ rw e (any-filter p x xs ∙ ap (λ b. b && p x) a.0, apart-filter p xs a.1)
    | inr e ↦ rw e (apart-filter p xs a.1)
  ]

  -- keys apart with the same members are as many
  pub same_length : (xs ys : List K) → IsApart eq exact xs → IsApart eq exact ys → ((h : K) → list_any (eq h) xs ≡ list_any (eq h) ys) → length xs ≡ length ys
  same_length [] [] a b same = refl
  same_length [] (y ∷ ys) a b same = absurd (true≢false (sym (same y ∙ ap (λ t. t || list_any (eq y) ys) (exact.itself y))))
  same_length (x ∷ xs) ys a b same =
      let here : list_any (eq x) ys ≡ true = sym (same x) ∙ ap (λ t. t || list_any (eq x) xs) (exact.itself x) in
      ap suc (same_length xs (without eq x ys) a.1 (apart-filter (λ j. not (eq x j)) ys b) (λ h. rest h ∙ sym (any-without eq exact h x ys))) ∙ length-without eq exact x ys b here
    where
      rest : (h : K) → list_any (eq h) xs ≡ (list_any (eq h) ys && not (eq h x))
      rest h = elim (cases_Bool (eq h x)) [
        | inl e ↦ rw e (ap (λ j. list_any (eq j) xs) (exact.same h x e) ∙ a.0 ∙ sym (and_false (list_any (eq h) ys)))
        | inr e ↦ let all : list_any (eq h) xs ≡ list_any (eq h) ys = (rw e at (same h)) in rw e (all ∙ sym (and_true (list_any (eq h) ys)))
      ]

module _ {K V : Type 0} where
  -- how many rows come before an entry
  abbrev earlier : ℕ → List (Row K V) → List (Row K V)
  earlier e rows = filter (λ row. nat_lt row.entry e) rows

  earlier_none : (e : ℕ) (rows : List (Row K V)) → AllByRecursion (λ other. e < other.entry) rows → length (earlier e rows) ≡ 0
  earlier_none e [] a = refl
  earlier_none e (row ∷ rows) a = let lt : e < row.entry = a.0 in rw (le-ltb row.entry e (omega arith)) (earlier_none e rows a.1)

  pub each_at : (P : Row K V → Type 0) (rows : List (Row K V)) (i : ℕ) (row : Row K V) → AllByRecursion P rows → slice_get rows i ≡ Some row → P row
  each_at P [] i row a is = cc
  each_at P (x ∷ rows) zero row a is = let same : x ≡ row = cc in subst P same a.0
  each_at P (x ∷ rows) (suc i) row a is = each_at P rows i row a.1 is

  earlier_at : (rows : List (Row K V)) (i : ℕ) (row : Row K V) → IsByEntry rows → slice_get rows i ≡ Some row → length (earlier row.entry rows) ≡ i
  earlier_at [] i row o is = cc
  earlier_at (x ∷ rows) zero row o is = let same : x ≡ row = cc in subst (λ y. length (earlier y.entry (x ∷ rows)) ≡ 0) same (rw (le-ltb x.entry x.entry (omega arith)) (earlier_none x.entry rows o.0))
  earlier_at (x ∷ rows) (suc i) row o is = let lt : x.entry < row.entry = each_at (λ other. x.entry < other.entry) rows i row o.0 is in rw (lt-ltb x.entry row.entry lt) (ap suc (earlier_at rows i row o.1 is))

module _ {K V : Type 0} where
  keys-earlier : (f : K → ℕ) (e : ℕ) (rows : List (Row K V)) → AllByRecursion (λ row. row.entry ≡ f row.key) rows → length (filter (λ k. nat_lt (f k) e) (row_keys rows)) ≡ length (earlier e rows)
  keys-earlier f e [] a = refl
  keys-earlier f e (row ∷ rows) a = rw (← a.0) (elim (cases_Bool (nat_lt row.entry e)) [
    | inl y ↦ rw (y, keys-earlier f e rows a.1) refl
    | inr y ↦ rw (y, keys-earlier f e rows a.1) refl
  ])

module _ {K C V : Type 0} (eq : K → K → Bool) (exact : IsExact eq) (means : List C → V → Type 0) (cap : ℕ) (r : List (Mention K C)) (rows : List (Row K V)) (stands : Stands eq means cap r rows) where
  entries : AllByRecursion (λ row. row.entry ≡ entry eq cap row.key r) rows
  entries = each-weaker (IsRow eq means cap r) (λ row. row.entry ≡ entry eq cap row.key r) (λ row is. is.entry) rows stands.each

  pub members : (h : K) → list_any (eq h) (held_keys eq cap (keys r)) ≡ list_any (eq h) (row_keys rows)
  members h = any-filter eq exact (λ k. held eq cap k (keys r)) h (distinct eq (keys r)) ∙ ap (λ b. b && held eq cap h (keys r)) (any-distinct eq exact h (keys r)) ∙ twice (list_any (eq h) (keys r)) _ ∙ sym (stands.held h) ∙ holds-keys eq exact h rows
    where
      twice : (a b : Bool) → (a && (a && b)) ≡ (a && b)
      twice true b = refl
      twice false b = refl

  -- the row at a place has the rank of that place
  pub order-at : (i : ℕ) (row : Row K V) → slice_get rows i ≡ Some row → order eq cap row.key r ≡ i + 1
  order-at i row is =
      let p : K → Bool = λ k. nat_lt (entry eq cap k r) (entry eq cap row.key r) in
      let many : length (filter p (held_keys eq cap (keys r))) ≡ length (filter p (row_keys rows)) =
      same_length eq exact (filter p (held_keys eq cap (keys r))) (filter p (row_keys rows))
      (apart-filter eq exact p (held_keys eq cap (keys r)) (apart-filter eq exact (λ k. held eq cap k (keys r)) (distinct eq (keys r)) (distinct-apart eq exact (keys r))))
      (apart-filter eq exact p (row_keys rows) (apart_by_entry eq exact (λ h. entry eq cap h r) rows entries stands.order))
      (λ h. any-filter eq exact p h (held_keys eq cap (keys r)) ∙ ap (λ b. b && p h) (members h) ∙ sym (any-filter eq exact p h (row_keys rows))) in
      let its : row.entry ≡ entry eq cap row.key r = each_at (λ row. row.entry ≡ entry eq cap row.key r) rows i row entries is in
      let among : length (filter p (row_keys rows)) ≡ i = keys-earlier (λ k. entry eq cap k r) (entry eq cap row.key r) rows entries ∙ ap (λ e. length (earlier e rows)) (sym its) ∙ earlier_at rows i row stands.order is in
      let counted : length (filter p (held_keys eq cap (keys r))) ≡ count_by p (held_keys eq cap (keys r)) = length-filter p (held_keys eq cap (keys r)) in
      omega arith

  -- a reference puts a row out exactly where it is an eviction
  pub takes_place-is : (k : K) → takes_place eq cap k rows ≡ is_eviction eq cap k (keys r)
  takes_place-is k = rw (stands.held k, stands.size) (ap (λ b. not (held eq cap k (keys r)) && b) (enough (length (distinct eq (keys r)))))
    where
      enough : (m : ℕ) → nat_le cap (min cap m) ≡ nat_le cap m
      enough m = grind (arith, nat_tests)
