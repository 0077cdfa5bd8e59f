-- Lists of rows, by their keys.
use Rattle.std.proofs.Common.{cond, ◌≡◌, ℕ, ◌<◌, Bool, true, false, not, ◌||◌, List, [], ◌∷◌, ◌++◌, map, filter, refl, sym, ap, ◌∙◌, arith, inl, inr}
use Rattle.std.specs.List.{list_any, list_all, AllByRecursion}
use Rattle.std.proofs.lemmas.Bool.{cases_Bool, true≢false}
use Rattle.rm_evicting.specs.Held.{IsExact, without}
use Rattle.rm_evicting.specs.declared.Row.{Row}
use Rattle.rm_evicting.specs.Row.{holds, at_first, without_first}
use Rattle.rm_evicting.specs.Stands.{IsByEntry}
use Rattle.rm_evicting.proofs.Recency.{IsApart}

module _ {X : Type 0} where
  pub each-filter : (P : X → Type 0) (p : X → Bool) (xs : List X) → AllByRecursion P xs → AllByRecursion P (filter p xs)
  each-filter P p [] a = tt
  each-filter P p (x ∷ xs) a = elim (cases_Bool (p x)) [
    | inl e ↦ rw e (a.0, each-filter P p xs a.1)
    | inr e ↦ rw e (each-filter P p xs a.1)
  ]

  pub each-map : (P Q : X → Type 0) (f : X → X) → ((x : X) → P x → Q (f x)) → (xs : List X) → AllByRecursion P xs → AllByRecursion Q (map f xs)
  each-map P Q f h [] a = tt
  each-map P Q f h (x ∷ xs) a = (h x a.0, each-map P Q f h xs a.1)

  pub each-push : (P : X → Type 0) (xs : List X) (x : X) → AllByRecursion P xs → P x → AllByRecursion P (xs ++ x ∷ [])
  each-push P [] x a p = (p, tt)
  each-push P (y ∷ xs) x a p = (a.0, each-push P xs x a.1 p)

  pub each-both : (P Q : X → Type 0) (xs : List X) → AllByRecursion P xs → AllByRecursion Q xs → AllByRecursion (λ x. P x × Q x) xs
  each-both P Q [] a b = tt
  each-both P Q (x ∷ xs) a b = ((a.0, b.0), each-both P Q xs a.1 b.1)

  pub each-weaker : (P Q : X → Type 0) → ((x : X) → P x → Q x) → (xs : List X) → AllByRecursion P xs → AllByRecursion Q xs
  each-weaker P Q h [] a = tt
  each-weaker P Q h (x ∷ xs) a = (h x a.0, each-weaker P Q h xs a.1)

  pub without_first-same : (p q : X → Bool) (xs : List X) → AllByRecursion (λ x. p x ≡ q x) xs → without_first p xs ≡ without_first q xs
  without_first-same p q [] a = refl
  without_first-same p q (x ∷ xs) a = rw (a.0, without_first-same p q xs a.1) refl

  pub list_all-each : (p : X → Bool) (xs : List X) → AllByRecursion (λ x. p x ≡ true) xs → list_all p xs ≡ true
  list_all-each p [] a = refl
  list_all-each p (x ∷ xs) a = rw (a.0, list_all-each p xs a.1) refl

module _ {K V : Type 0} where
  abbrev pub row_keys : List (Row K V) → List K
  row_keys rows = map (λ row. row.key) rows

  pub keys-map : (f : Row K V → Row K V) → ((row : Row K V) → (f row).key ≡ row.key) → (rows : List (Row K V)) → row_keys (map f rows) ≡ row_keys rows
  keys-map f h [] = refl
  keys-map f h (row ∷ rows) = rw (h row, keys-map f h rows) refl

  pub by_entry-map : (f : Row K V → Row K V) → ((row : Row K V) → (f row).entry ≡ row.entry) → (rows : List (Row K V)) → IsByEntry rows → IsByEntry (map f rows)
  by_entry-map f h [] a = tt
  by_entry-map f h (row ∷ rows) a =
      (each-map (λ other. row.entry < other.entry) (λ other. (f row).entry < other.entry) f (λ other lt. rw (h row, h other) lt) rows a.0, by_entry-map f h rows a.1)

  pub by_entry-filter : (p : Row K V → Bool) (rows : List (Row K V)) → IsByEntry rows → IsByEntry (filter p rows)
  by_entry-filter p [] a = tt
  by_entry-filter p (row ∷ rows) a = elim (cases_Bool (p row)) [
    | inl e ↦ rw e (each-filter (λ other. row.entry < other.entry) p rows a.0, by_entry-filter p rows a.1)
    | inr e ↦ rw e (by_entry-filter p rows a.1)
  ]

  pub by_entry-push : (rows : List (Row K V)) (row : Row K V) → IsByEntry rows → AllByRecursion (λ other. other.entry < row.entry) rows → IsByEntry (rows ++ row ∷ [])
  by_entry-push [] row a b = (tt, tt)
  by_entry-push (x ∷ rows) row a b = (each-push (λ other. x.entry < other.entry) rows row a.0 b.0, by_entry-push rows row a.1 b.1)

module _ {K V : Type 0} (eq : K → K → Bool) (exact : IsExact eq) where
  pub holds-keys : (h : K) (rows : List (Row K V)) → holds eq h rows ≡ list_any (eq h) (row_keys rows)
  holds-keys h [] = refl
  holds-keys h (row ∷ rows) = ap (λ b. eq h row.key || b) (holds-keys h rows)

  pub keys-without : (x : K) (rows : List (Row K V)) → row_keys (filter (λ row. not (eq x row.key)) rows) ≡ without eq x (row_keys rows)
  keys-without x [] = refl
  keys-without x (row ∷ rows) = elim (cases_Bool (eq x row.key)) [
    | inl e ↦ rw e (keys-without x rows)
    | inr e ↦ rw e (ap (λ l. row.key ∷ l) (keys-without x rows))
  ]

  without_absent : (x : K) (rows : List (Row K V)) → holds eq x rows ≡ false → filter (λ row. not (eq x row.key)) rows ≡ rows
  without_absent x [] n = refl
  without_absent x (row ∷ rows) n = elim (cases_Bool (eq x row.key)) [
    | inl e ↦ absurd (true≢false (rw e at n))
    | inr e ↦ rw e (ap (λ l. row ∷ l) (without_absent x rows (rw e at n)))
  ]

  map_absent : (x : K) (f : Row K V → Row K V) (rows : List (Row K V)) → holds eq x rows ≡ false → map (λ row. cond (eq x row.key) (f row) row) rows ≡ rows
  map_absent x f [] n = refl
  map_absent x f (row ∷ rows) n = elim (cases_Bool (eq x row.key)) [
    | inl e ↦ absurd (true≢false (rw e at n))
    | inr e ↦ rw e (ap (λ l. row ∷ l) (map_absent x f rows (rw e at n)))
  ]

  pub at_first-map : (x : K) (f : Row K V → Row K V) (rows : List (Row K V)) → IsApart eq exact (row_keys rows) → at_first (λ row. eq x row.key) f rows ≡ map (λ row. cond (eq x row.key) (f row) row) rows
  at_first-map x f [] a = refl
  at_first-map x f (row ∷ rows) a = elim (cases_Bool (eq x row.key)) [
    | inl e ↦ rw e (ap (λ l. f row ∷ l) (sym (map_absent x f rows (holds-keys x rows ∙ ap (λ j. list_any (eq j) (row_keys rows)) (exact.same x row.key e) ∙ a.0))))
    | inr e ↦ rw e (ap (λ l. row ∷ l) (at_first-map x f rows a.1))
  ]

  -- where no key stands twice, the first row of a key is its only one
  pub without_first-key : (x : K) (rows : List (Row K V)) → IsApart eq exact (row_keys rows) → without_first (λ row. eq x row.key) rows ≡ filter (λ row. not (eq x row.key)) rows
  without_first-key x [] a = refl
  without_first-key x (row ∷ rows) a = elim (cases_Bool (eq x row.key)) [
    | inl e ↦ rw e (sym (without_absent x rows (holds-keys x rows ∙ ap (λ j. list_any (eq j) (row_keys rows)) (exact.same x row.key e) ∙ a.0)))
    | inr e ↦ rw e (ap (λ l. row ∷ l) (without_first-key x rows a.1))
  ]

  -- a row with that key has what holds of each
  pub holds_each : (P : Row K V → Type 0) (h : K) (rows : List (Row K V)) → AllByRecursion P rows → holds eq h rows ≡ true → (row : Row K V) × P row × (row.key ≡ h) × ((p : Row K V → Bool) → p row ≡ false → list_all p rows ≡ false)
  holds_each P h [] a i = absurd (true≢false (sym i))
  holds_each P h (row ∷ rows) a i = elim (cases_Bool (eq h row.key)) [
    | inl e ↦ (row, a.0, sym (exact.same h row.key e), λ p f. rw f refl)
    | inr e ↦ let more = holds_each P h rows a.1 (rw e at i) in (more.0, more.1, more.2, λ p f. elim (cases_Bool (p row)) [ inl t ↦ rw t (more.3 p f) | inr n ↦ rw n refl ])
  ]

  pub each_other : (h : K) (rows : List (Row K V)) → holds eq h rows ≡ false → AllByRecursion (λ row. eq h row.key ≡ false) rows
  each_other h [] n = tt
  each_other h (row ∷ rows) n = elim (cases_Bool (eq h row.key)) [
    | inl e ↦ absurd (true≢false (rw e at n))
    | inr e ↦ (e, each_other h rows (rw e at n))
  ]

  pub each_held : (rows : List (Row K V)) → AllByRecursion (λ row. holds eq row.key rows ≡ true) rows
  each_held rows = go rows (λ row i. i)
    where
      go : (some : List (Row K V)) → ((row : Row K V) → holds eq row.key some ≡ true → holds eq row.key rows ≡ true) → AllByRecursion (λ row. holds eq row.key rows ≡ true) some
      go [] h = tt
      go (x ∷ some) h = (h x (ap (λ b. b || holds eq x.key some) (exact.itself x.key)), go some (λ row i. h row (elim (cases_Bool (eq row.key x.key)) [ inl e ↦ rw e refl | inr e ↦ rw (e, i) refl ])))

  -- rows in order of entry, each of the entry of its key, have a key each
  pub apart_by_entry : (f : K → ℕ) (rows : List (Row K V)) → AllByRecursion (λ row. row.entry ≡ f row.key) rows → IsByEntry rows → IsApart eq exact (row_keys rows)
  apart_by_entry f [] a o = tt
  apart_by_entry f (row ∷ rows) a o = (off rows a.1 o.0, apart_by_entry f rows a.1 o.1)
    where
      off : (others : List (Row K V)) → AllByRecursion (λ row. row.entry ≡ f row.key) others → AllByRecursion (λ other. row.entry < other.entry) others → list_any (eq row.key) (row_keys others) ≡ false
      off [] b l = refl
      off (x ∷ others) b l = elim (cases_Bool (eq row.key x.key)) [
        | inl e ↦ let same : f row.key ≡ f x.key = ap f (exact.same row.key x.key e) in let mine : row.entry ≡ f row.key = a.0 in let its : x.entry ≡ f x.key = b.0 in let less : row.entry < x.entry = l.0 in absurd (omega arith)
        | inr e ↦ rw e (off others b.1 l.1)
      ]
