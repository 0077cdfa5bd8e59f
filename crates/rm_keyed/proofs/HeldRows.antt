-- The rows of a table that stands for mentions, by key and by rank.
use Rattle.std.proofs.Common.{◌≡◌, ℕ, ◌<◌, ◌+◌, zero, suc, Bool, true, false, nat_eq, List, [], ◌∷◌, length, find, position, slice_get, Option, Some, None, refl, sym, ap, ◌∙◌, subst, arith, inl, inr}
use Rattle.std.specs.Option.{option_map}
use Rattle.std.specs.List.{list_any, position_or_len}
use Rattle.std.proofs.lemmas.Bool.{cases_Bool, cases_lt, true≢false, lt-ltb, le-ltb}
use Rattle.std.proofs.lemmas.Bool.Decides.{nat_tests}
use Rattle.std.proofs.lemmas.List.Folds.{find_at}
use Rattle.std.proofs.lemmas.Option.{slice_get_within}
use Rattle.rm_evicting.specs.Mention.{Mention, keys}
use Rattle.rm_evicting.specs.Held.{IsExact, held, held_keys, order, shares}
use Rattle.rm_evicting.specs.declared.Row.{Row}
use Rattle.rm_evicting.specs.Row.{holds}
use Rattle.rm_evicting.specs.Stands.{IsTotal, IsRow, Stands, total}
use Rattle.rm_evicting.proofs.RowLemmas.{each_held, holds-keys}
use Rattle.rm_evicting.proofs.RankLemmas.{each_at, members, order-at}
use Rattle.rm_rows.specs.Table.{row_of, value_of, key_of, key_at, order_of}
use Rattle.rm_keyed.specs.Held.{value_held, rank_held, key_of_rank}

module _ {X : Type 0} (test : X → Bool) where
  pub find_none : (xs : List X) → find test xs ≡ None → list_any test xs ≡ false
  find_none [] e = refl
  find_none (x ∷ xs) e = elim (cases_Bool (test x)) [
    | inl y ↦ let f : Some x ≡ None = rw y at e in cc
    | inr n ↦ rw n (find_none xs (rw n at e))
  ]

  pub find_passing : (xs : List X) (x : X) → find test xs ≡ Some x → (list_any test xs ≡ true) × (test x ≡ true)
  find_passing [] x e = let f : None ≡ Some x = e in cc
  find_passing (y ∷ xs) x e = elim (cases_Bool (test y)) [
    | inl t ↦ let f : Some y ≡ Some x = rw t at e in let same : y ≡ x = cc in (rw t refl, subst (λ z. test z ≡ true) same t)
    | inr n ↦ let more = find_passing xs x (rw n at e) in (rw n more.0, more.1)
  ]

  outside : (xs : List X) (n : ℕ) → n < length xs → slice_get xs n ≡ None → ⊥
  outside [] n lt e = absurd (omega arith)
  outside (x ∷ xs) zero lt e = let f : Some x ≡ None = e in cc
  outside (x ∷ xs) (suc n) lt e = outside xs n (omega arith) e

  place_none : (xs : List X) → find test xs ≡ None → position test xs ≡ None
  place_none xs e = elim (cases_lt (position_or_len test xs) (length xs)) [
    | inl lt ↦ absurd (outside xs (position_or_len test xs) lt (sym (find_at test xs) ∙ e))
    | inr le ↦ rw (le-ltb (position_or_len test xs) (length xs) le) refl
  ]

  place_at : (xs : List X) (x : X) → find test xs ≡ Some x → (n : ℕ) × (position test xs ≡ Some n) × (slice_get xs n ≡ Some x)
  place_at xs x e =
      let n : ℕ = position_or_len test xs in
      let at : slice_get xs n ≡ Some x = sym (find_at test xs) ∙ e in
      (n, rw (lt-ltb n (length xs) (slice_get_within xs n x at)) refl, at)

module _ {K : Type 0} (eq : K → K → Bool) (exact : IsExact eq) (test : K → Bool) where
  pub find_nowhere : (xs : List K) → ((x : K) → list_any (eq x) xs ≡ true → test x ≡ false) → find test xs ≡ None
  find_nowhere [] fails = refl
  find_nowhere (x ∷ xs) fails =
      rw (fails x (rw (exact.itself x) refl)) (find_nowhere xs (λ y i. fails y (elim (cases_Bool (eq y x)) [ inl e ↦ rw e refl | inr e ↦ rw (e, i) refl ])))

  pub find_only : (xs : List K) (x : K) → list_any (eq x) xs ≡ true → test x ≡ true → ((y : K) → list_any (eq y) xs ≡ true → test y ≡ true → y ≡ x) → find test xs ≡ Some x
  find_only [] x i passes only = absurd (true≢false (sym i))
  find_only (y ∷ xs) x i passes only = elim (cases_Bool (test y)) [
    | inl t ↦ rw t (ap Some (only y (rw (exact.itself y) refl) t))
    | inr n ↦ rw n (find_only xs x (rest n) passes (λ z j. only z (elim (cases_Bool (eq z y)) [ inl e ↦ rw e refl | inr e ↦ rw (e, j) refl ])))
  ]
    where
      rest : test y ≡ false → list_any (eq x) xs ≡ true
      rest n = elim (cases_Bool (eq x y)) [
        | inl e ↦ absurd (true≢false (sym passes ∙ ap test (exact.same x y e) ∙ n))
        | inr e ↦ rw e at i
      ]

module _ {K C V : Type 0} (eq : K → K → Bool) (exact : IsExact eq) (blank : V) (plus : V → C → V) (capacity : ℕ) (mentions : List (Mention K C)) (rows : List (Row K V))
    (stands : Stands eq (IsTotal blank plus) capacity mentions rows) where
  absent : (key : K) → row_of eq key rows ≡ None → held eq capacity key (keys mentions) ≡ false
  absent key e = sym (stands.held key) ∙ find_none (λ row. eq key row.key) rows e

  record IsFound (key : K) (row : Row K V) : Type 0 where
    comes : held eq capacity key (keys mentions) ≡ true
    same : row.key ≡ key
    place : ℕ
    first : position (λ row. eq key row.key) rows ≡ Some place
    at : slice_get rows place ≡ Some row
    ranked : order eq capacity key mentions ≡ place + 1

  found : (key : K) (row : Row K V) → row_of eq key rows ≡ Some row → IsFound key row
  found key row e =
      let passing = find_passing (λ row. eq key row.key) rows row e in
      let place = place_at (λ row. eq key row.key) rows row e in
      let same : row.key ≡ key = sym (exact.same key row.key passing.1) in
      record {
        comes = sym (stands.held key) ∙ passing.0;
        same = same;
        place = place.0;
        first = place.1;
        at = place.2;
        ranked = subst (λ k. order eq capacity k mentions ≡ place.0 + 1) same (order-at eq exact (IsTotal blank plus) capacity mentions rows stands place.0 row place.2);
      }

  pub value_here : (key : K) → option_map value_of (row_of eq key rows) ≡ value_held eq capacity mentions blank plus key
  value_here key = go (row_of eq key rows) refl
    where
      go : (o : Option (Row K V)) → row_of eq key rows ≡ o → option_map value_of o ≡ value_held eq capacity mentions blank plus key
      go None e = rw (absent key e) refl
      go (Some row) e =
          let is = found key row e in
          let its = each_at (IsRow eq (IsTotal blank plus) capacity mentions) rows is.place row stands.each is.at in
          rw is.comes (ap Some (its.value ∙ ap (λ k. total blank plus (shares eq capacity k mentions)) is.same))

  pub rank_here : (key : K) → order_of eq key rows ≡ rank_held eq capacity mentions key
  rank_here key = go (row_of eq key rows) refl
    where
      go : (o : Option (Row K V)) → row_of eq key rows ≡ o → order_of eq key rows ≡ rank_held eq capacity mentions key
      go None e = rw (absent key e, place_none (λ row. eq key row.key) rows e) refl
      go (Some row) e = let is = found key row e in rw (is.comes, is.first, is.ranked) refl

  abbrev among : List K
  among = held_keys eq capacity (keys mentions)

  is_among : (key : K) → list_any (eq key) among ≡ holds eq key rows
  is_among key = members eq exact (IsTotal blank plus) capacity mentions rows stands key ∙ sym (holds-keys eq exact key rows)

  member : (key : K) → list_any (eq key) among ≡ true → (row : Row K V) × IsFound key row
  member key i = go (row_of eq key rows) refl
    where
      go : (o : Option (Row K V)) → row_of eq key rows ≡ o → (row : Row K V) × IsFound key row
      go None e = absurd (true≢false (sym i ∙ is_among key ∙ find_none (λ row. eq key row.key) rows e))
      go (Some row) e = (row, found key row e)

  pub made_here : (rank : ℕ) → key_at rank rows ≡ key_of_rank eq capacity mentions rank
  made_here zero = sym (find_nowhere eq exact (λ key. nat_eq (order eq capacity key mentions) 0) among (λ key i. grind (arith, nat_tests)))
  made_here (suc place) = go (slice_get rows place) refl
    where
      test : K → Bool
      test key = nat_eq (order eq capacity key mentions) (suc place)

      go : (o : Option (Row K V)) → slice_get rows place ≡ o → option_map key_of o ≡ find test among
      go None e = sym (find_nowhere eq exact test among (λ key i.
          let is = member key i in
          let its : order eq capacity key mentions ≡ is.1.place + 1 = is.1.ranked in
          let at : slice_get rows is.1.place ≡ Some is.0 = is.1.at in
          elim (cases_Bool (test key)) [
            | inl t ↦ let same : is.1.place ≡ place = grind (arith, nat_tests) in let f : None ≡ Some is.0 = sym e ∙ ap (slice_get rows) (sym same) ∙ at in cc
            | inr n ↦ n
          ]))
      go (Some row) e =
          let its : order eq capacity row.key mentions ≡ place + 1 = order-at eq exact (IsTotal blank plus) capacity mentions rows stands place row e in
          sym (find_only eq exact test among row.key
          (is_among row.key ∙ each_at (λ row. holds eq row.key rows ≡ true) rows place row (each_held eq exact rows) e)
          (grind (arith, nat_tests))
          (λ key i t.
          let is = member key i in
          let mine : order eq capacity key mentions ≡ is.1.place + 1 = is.1.ranked in
          let same : is.1.place ≡ place = grind (arith, nat_tests) in
          let one : Some row ≡ Some is.0 = sym e ∙ ap (slice_get rows) (sym same) ∙ is.1.at in
          let row_same : row ≡ is.0 = cc in
          sym is.1.same ∙ ap (λ (r : Row K V). r.key) (sym row_same)))
