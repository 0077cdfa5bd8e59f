-- The rows that have some numbers for their index.
use Rattle.std.proofs.Common.{◌≡◌, ℕ, List, [], ◌∷◌, Bool, true, false, ◌&&◌, Option, Some, None, Contains, map, find, option_map, refl, sym, ap, ◌∙◌, subst, inl, inr}
use Rattle.std.specs.Prelude.{is_some}
use Rattle.std.specs.List.{list_any}
use Rattle.std.specs.Str.{bytes_eq}
use Rattle.std.proofs.lemmas.Bool.{cases_Bool, true≢false}
use Rattle.std.proofs.lemmas.Slice.Eq.{bytes_eq-Decides}
use Rattle.rm_model.proofs.Members.{here, there, in_map}
use Rattle.rm_evicting.specs.Mention.{Mention, keys}
use Rattle.rm_evicting.specs.Held.{IsExact, distinct, held, held_keys}
use Rattle.rm_evicting.specs.declared.Row.{Row}
use Rattle.rm_evicting.specs.Stands.{IsTotal, Stands}
use Rattle.rm_evicting.proofs.Recency.{any-distinct}
use Rattle.rm_evicting.proofs.RankLemmas.{any-filter, members}
use Rattle.rm_keyed.specs.Held.{key_of_index}
use Rattle.rm_rows.specs.Table.{keys_of}
use Rattle.rm_keyed.specs.Indexes.{key_with}
use Rattle.rm_keyed.proofs.HeldRows.{find_none, find_passing, find_nowhere, find_only}

module _ {X : Type 0} (test : X → Bool) where
  -- what is found is among those that are searched
  pub found_among : (xs : List X) (x : X) → find test xs ≡ Some x → Contains xs x
  found_among [] x e = let f : None ≡ Some x = e in cc
  found_among (y ∷ xs) x e = elim (cases_Bool (test y)) [
    | inl t ↦ let f : Some y ≡ Some x = rw t at e in let same : y ≡ x = cc in subst (Contains (y ∷ xs)) same (here y xs)
    | inr n ↦ there y xs x (found_among xs x (rw n at e))
  ]

-- what is found of a list by what its members stand for
pub found_mapped : {X Y : Type 0} (stands_for : X → Y) (test : Y → Bool) (xs : List X) → option_map stands_for (find (λ x. test (stands_for x)) xs) ≡ find test (map stands_for xs)
found_mapped stands_for test [] = refl
found_mapped stands_for test (x ∷ xs) = elim (cases_Bool (test (stands_for x))) [
  | inl e ↦ rw e refl
  | inr e ↦ rw e (found_mapped stands_for test xs)
]

module _ {K : Type 0} (eq : K → K → Bool) (exact : IsExact eq) (test : K → Bool) where
  pub found_member : (xs : List K) (x : K) → find test xs ≡ Some x → list_any (eq x) xs ≡ true
  found_member [] x e = let f : None ≡ Some x = e in cc
  found_member (y ∷ xs) x e = elim (cases_Bool (test y)) [
    | inl t ↦ let f : Some y ≡ Some x = rw t at e in let same : y ≡ x = cc in subst (λ z. list_any (eq z) (y ∷ xs) ≡ true) same (rw (exact.itself y) refl)
    | inr n ↦ elim (cases_Bool (eq x y)) [ inl t ↦ rw t refl | inr o ↦ rw (o, found_member xs x (rw n at e)) refl ]
  ]

  member_passes : (xs : List K) (x : K) → list_any (eq x) xs ≡ true → test x ≡ true → list_any test xs ≡ true
  member_passes [] x i t = absurd (true≢false (sym i))
  member_passes (y ∷ xs) x i t = elim (cases_Bool (eq x y)) [
    | inl e ↦ let passes : test y ≡ true = subst (λ z. test z ≡ true) (exact.same x y e) t in rw passes refl
    | inr o ↦ elim (cases_Bool (test y)) [ inl p ↦ rw p refl | inr p ↦ rw p (member_passes xs x (rw o at i) t) ]
  ]

  -- where one key passes at most, lists with the same members have the same one that does
  module _ (one : (x y : K) → test x ≡ true → test y ≡ true → x ≡ y) where
    found_only : (xs : List K) (x : K) → list_any (eq x) xs ≡ true → test x ≡ true → find test xs ≡ Some x
    found_only xs x i t = find_only eq exact test xs x i t (λ y j p. one y x p t)

    pub found_same : (xs ys : List K) → ((x : K) → list_any (eq x) xs ≡ list_any (eq x) ys) → find test xs ≡ find test ys
    found_same xs ys same = go (find test xs) refl
      where
        go : (o : Option K) → find test xs ≡ o → o ≡ find test ys
        go None e = sym (find_nowhere eq exact test ys (λ x i. elim (cases_Bool (test x)) [
          | inl t ↦ absurd (true≢false (sym (member_passes xs x (same x ∙ i) t) ∙ find_none test xs e))
          | inr o ↦ o
        ]))
        go (Some x) e = sym (found_only ys x (sym (same x) ∙ found_member xs x e) (find_passing test xs x e).1)

module _ {K : Type 0} (eq : K → K → Bool) (exact : IsExact eq) (capacity : ℕ) where
  -- the keys that are held are those listed
  pub held_listed : (key : K) (referred : List K) → list_any (eq key) (held_keys eq capacity referred) ≡ held eq capacity key referred
  held_listed key referred =
      any-filter eq exact (λ k. held eq capacity k referred) key (distinct eq referred)
      ∙ ap (λ b. b && held eq capacity key referred) (any-distinct eq exact key referred)
      ∙ twice (list_any (eq key) referred) _
    where
      twice : (a b : Bool) → (a && (a && b)) ≡ (a && b)
      twice true b = refl
      twice false b = refl

module _ {K : Type 0} (index : K → List ℕ) (apart : (one other : K) → index one ≡ index other → one ≡ other) (numbers : List ℕ) where
  abbrev has : K → Bool
  has key = bytes_eq (index key) numbers

  -- one key at most has these numbers for its index
  pub index_one : (one other : K) → has one ≡ true → has other ≡ true → one ≡ other
  index_one one other e f = apart one other ((bytes_eq-Decides (index one) numbers).0 e ∙ sym ((bytes_eq-Decides (index other) numbers).0 f))

  module _ {C V : Type 0} (eq : K → K → Bool) (exact : IsExact eq) (blank : V) (plus : V → C → V) (capacity : ℕ) (mentions : List (Mention K C)) (rows : List (Row K V))
      (stands : Stands eq (IsTotal blank plus) capacity mentions rows) where
    -- the key of a row with these numbers is that of the held ones with them
    pub index_held : key_with index (keys_of rows) numbers ≡ key_of_index eq capacity mentions index numbers
    index_held = found_same eq exact has index_one (keys_of rows) (held_keys eq capacity (keys mentions)) (λ key. sym (members eq exact (IsTotal blank plus) capacity mentions rows stands key))

  -- which is among the indexes of the held ones
  pub index_listed : (others : List K) → is_some (find has others) ≡ true → Contains (map index others) numbers
  index_listed others some = go (find has others) refl some
    where
      go : (o : Option K) → find has others ≡ o → is_some o ≡ true → Contains (map index others) numbers
      go None e some = absurd (true≢false (sym some))
      go (Some key) e some =
          subst (Contains (map index others)) ((bytes_eq-Decides (index key) numbers).0 (find_passing has others key e).1)
          (in_map index others key (found_among has others key e))
