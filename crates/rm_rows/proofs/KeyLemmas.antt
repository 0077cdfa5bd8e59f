-- What a reference does to the keys of the rows.
use Rattle.std.proofs.Common.{◌≡◌, ℕ, Bool, true, false, List, [], ◌∷◌, ◌++◌, find, Option, Some, None, Contains, refl, sym, ap, ◌∙◌, subst, true≢false, inl, inr}
use Rattle.std.specs.List.{list_any}
use Rattle.std.specs.Option.{option_map}
use Rattle.std.specs.Cmp.{IsTotalOrder, IsEquivalence}
use Rattle.std.specs.declared.cmp.Ordering.{Ordering}
use Rattle.std.proofs.lemmas.Bool.{cases_Bool}
use Rattle.std.proofs.lemmas.Map.Views.{Contains-from_any, list_any-from_Contains}
use denote.RawPtr.{Ptr}
use Rattle.rm_evicting.specs.declared.Row.{Row}
use Rattle.rm_evicting.specs.Held.{IsExact, without}
use Rattle.rm_evicting.specs.Row.{holds, at_first, without_first, is_oldest, without_oldest, renewed}
use Rattle.rm_evicting.proofs.Recency.{IsApart}
use Rattle.rm_evicting.proofs.RowLemmas.{holds-keys}
use Rattle.rm_recency.specs.declared.RecencyList.{RecencyList}
use Rattle.rm_recency.specs.Threads.{row_at}
use Rattle.rm_rows.specs.Stored.{In, Distinct, Pairwise, rows_by, Has, Before}
use Rattle.rm_rows.specs.Table.{key_of, keys_of, AreAfter}
use Rattle.rm_rows.specs.Index.{rows_in, Kept}
use Rattle.rm_rows.specs.declared.touch.Touch.TheVariants.{Held, Fresh, Evicted}
use Rattle.rm_rows.proofs.Members.{of_some}
use Rattle.rm_rows.proofs.RowsBy.{none_in}
use Rattle.rm_rows.proofs.Steps.{keys_apart}

none_some : {X : Type 0} {x : X} → None ≡ Some x → ⊥
none_some e = cc

module _ {K V : Type 0} where
  -- a change that leaves the keys
  pub keys_still : (test : Row K V → Bool) (change : Row K V → Row K V) → ((row : Row K V) → (change row).key ≡ row.key) → (rows : List (Row K V)) → keys_of (at_first test change rows) ≡ keys_of rows
  keys_still test change still [] = refl
  keys_still test change still (row ∷ rows) = elim (cases_Bool (test row)) [
    | inl t ↦ rw (t, still row) refl
    | inr f ↦ rw f (ap (λ l. row.key ∷ l) (keys_still test change still rows))
  ]

  keys_pushed : (rows : List (Row K V)) (row : Row K V) → keys_of (rows ++ row ∷ []) ≡ keys_of rows ++ row.key ∷ []
  keys_pushed [] row = refl
  keys_pushed (x ∷ rows) row = ap (λ l. x.key ∷ l) (keys_pushed rows row)

  row_found : (o : Option (Row K V)) (key : K) → option_map key_of o ≡ Some key → (row : Row K V) × (o ≡ Some row) × (row.key ≡ key)
  row_found None key e = absurd (none_some e)
  row_found (Some row) key e = (row, refl, of_some e)

module _ {K : Type 0} (eq : K → K → Bool) where
  without_absent : (key : K) (keys : List K) → list_any (eq key) keys ≡ false → without eq key keys ≡ keys
  without_absent key [] a = refl
  without_absent key (k ∷ keys) a = elim (cases_Bool (eq key k)) [
    | inl e ↦ absurd (true≢false (rw e at a))
    | inr e ↦ rw e (ap (λ l. k ∷ l) (without_absent key keys (rw e at a)))
  ]

module _ {K V : Type 0} (eq : K → K → Bool) (exact : IsExact eq) where
  -- the key of a row that is found is among them
  found_among : (test : Row K V → Bool) (rows : List (Row K V)) (row : Row K V) → find test rows ≡ Some row → list_any (eq row.key) (keys_of rows) ≡ true
  found_among test [] row e = absurd (none_some e)
  found_among test (x ∷ rows) row e = elim (cases_Bool (test x)) [
    | inl t ↦ let same : x ≡ row = of_some (rw t at e) in subst (λ (r : Row K V). list_any (eq r.key) (keys_of (x ∷ rows)) ≡ true) same (rw (exact.itself x.key) refl)
    | inr f ↦ let rest = found_among test rows row (rw f at e) in elim (cases_Bool (eq row.key x.key)) [ inl t ↦ rw t refl | inr n ↦ rw (n, rest) refl ]
  ]

  -- a row that goes takes its key out
  keys_out : (test : Row K V → Bool) (rows : List (Row K V)) (row : Row K V) → IsApart eq exact (keys_of rows) → find test rows ≡ Some row → keys_of (without_first test rows) ≡ without eq row.key (keys_of rows)
  keys_out test [] row a e = absurd (none_some e)
  keys_out test (x ∷ rows) row a e = elim (cases_Bool (test x)) [
    | inl t ↦
        let same : x ≡ row = of_some (rw t at e) in
        rw t (subst (λ (r : Row K V). keys_of rows ≡ without eq r.key (x.key ∷ keys_of rows)) same (rw (exact.itself x.key) (sym (without_absent eq x.key (keys_of rows) a.0))))
    | inr f ↦
        let rest : find test rows ≡ Some row = rw f at e in
        elim (cases_Bool (eq row.key x.key)) [
          | inl t ↦ absurd (true≢false (sym (subst (λ k. list_any (eq k) (keys_of rows) ≡ true) (exact.same row.key x.key t) (found_among test rows row rest)) ∙ a.0))
          | inr n ↦ rw (f, n) (ap (λ l. x.key ∷ l) (keys_out test rows row a.1 rest))
        ]
  ]

  module _ (laws : IsEquivalence eq) (key : K) (rows : List (Row K V)) where
    pub after-held : (stamp tick : ℕ) (new : List (Row K V)) → new ≡ renewed eq key stamp tick rows → AreAfter eq key Held (keys_of rows) (keys_of new)
    after-held stamp tick new e = ap keys_of e ∙ keys_still (λ row. eq key row.key) (λ row. record row { last = stamp; tick = tick }) (λ row. refl) rows

    absent : holds eq key rows ≡ false → ¬ (Contains (keys_of rows) key)
    absent off h = true≢false (sym (list_any-from_Contains laws key (keys_of rows) h) ∙ sym (holds-keys eq exact key rows) ∙ off)

    pub after-fresh : (row : Row K V) (new : List (Row K V)) → holds eq key rows ≡ false → row.key ≡ key → new ≡ rows ++ row ∷ [] → AreAfter eq key Fresh (keys_of rows) (keys_of new)
    after-fresh row new off same e = (absent off, ap keys_of e ∙ keys_pushed rows row ∙ ap (λ k. keys_of rows ++ k ∷ []) same)

    pub after-evicted : (row : Row K V) (new : List (Row K V)) (gone : K) → holds eq key rows ≡ false → IsApart eq exact (keys_of rows) → row.key ≡ key → new ≡ without_oldest rows ++ row ∷ []
        → option_map key_of (find (is_oldest rows) rows) ≡ Some gone → AreAfter eq key (Evicted gone) (keys_of rows) (keys_of new)
    after-evicted row new gone off apart same e out =
        let found = row_found (find (is_oldest rows) rows) gone out in (
          absent off,
          Contains-from_any exact.same gone (keys_of rows) (subst (λ k. list_any (eq k) (keys_of rows) ≡ true) found.2 (found_among (is_oldest rows) rows found.0 found.1)),
          ap keys_of e ∙ keys_pushed (without_oldest rows) row
              ∙ (λ i. (keys_out (is_oldest rows) rows found.0 apart found.1 i) ++ same i ∷ [])
              ∙ ap (λ k. without eq k (keys_of rows) ++ key ∷ []) found.2,
        )

-- no two rows have the same key
module _ {K V : Type 0} (cmp : K → K → Ordering) (order : IsTotalOrder cmp) (eq : K → K → Bool) (exact : IsExact eq) where
  rows_apart : {P : Type 0} (row : P → Option (Row K V)) (xs : List P) → Pairwise (Before row cmp) xs
      → (es : List P) → ((q : P) → In q es → Has row q) → ((q : P) → In q es → In q xs) → Distinct es → IsApart eq exact (keys_of (rows_by row es))
  rows_apart row xs sorted [] has among d = tt
  rows_apart row xs sorted (p ∷ es) has among d =
      let on = has p (inl refl) in
      rw on.1 (
        sym (holds-keys eq exact on.0.key (rows_by row es)) ∙ none_in row (λ s. eq on.0.key s.key) es (λ q k s e. elim (cases_Bool (eq on.0.key s.key)) [
          | inl t ↦ absurd (keys_apart cmp order row xs sorted p q (among p (inl refl)) (among q (inr k)) (λ z. d.0 (subst (λ y. In y es) (sym z) k)) on.0 s on.1 e (exact.same on.0.key s.key t))
          | inr n ↦ n
        ]) (λ q k. has q (inr k)),
        rows_apart row xs sorted es (λ q k. has q (inr k)) (λ q k. among q (inr k)) d.1,
      )

  pub are_apart : (t : RecencyList K V) (es xs : List Ptr) → Kept cmp t es xs → IsApart eq exact (keys_of (rows_in t es))
  are_apart t es xs k = rows_apart (row_at t) xs k.stored.sorted es k.stored.has k.stored.index.there k.stored.distinct
