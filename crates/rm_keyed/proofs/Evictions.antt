-- A row gives way exactly where a reference is answered so.
use Rattle.std.proofs.Common.{◌≡◌, ℕ, ◌<◌, ◌≤◌, Bool, true, false, nat_le, List, [], ◌∷◌, length, find, Option, Some, None, refl, sym, ◌∙◌, arith, inl, inr}
use Rattle.std.proofs.lemmas.Bool.{cases_Bool, true≢false, cases_lt, le-leb, lt-leb, le-ltb, lt-ltb, leb-true}
use Rattle.std.specs.List.{list_any, list_all}
use Rattle.rm_evicting.specs.declared.Row.{Row}
use Rattle.rm_evicting.specs.Row.{holds, takes_place, is_oldest}
use Rattle.rm_rows.specs.Table.{touch_answer, evicted}
use Rattle.rm_rows.specs.declared.touch.Touch.{Touch}
use Rattle.rm_rows.specs.declared.touch.Touch.TheVariants.{Held, Fresh, Evicted}

module _ {K : Type 0} where
  -- no row gave way
  abbrev pub IsNone : Touch K → Type 0
  IsNone answer = (gone : K) → answer ≡ Evicted gone → ⊥

module _ {K V : Type 0} where
  -- one of some rows is the oldest
  least : (row : Row K V) (rows : List (Row K V)) → (x : Row K V) × (is_oldest (row ∷ rows) x ≡ true) × ((p : Row K V → Bool) → p x ≡ true → list_any p (row ∷ rows) ≡ true)
  least row [] = (row, rw (le-leb row.last row.last (omega arith)) refl, λ p y. rw y refl)
  least row (next ∷ rows) = let more = least next rows in elim (cases_lt more.0.last row.last) [
    | inl lt ↦ (more.0, rw (le-leb more.0.last row.last (omega arith)) more.1, λ p y. elim (cases_Bool (p row)) [ inl e ↦ rw e refl | inr e ↦ rw e (more.2 p y) ])
    | inr le ↦ (row, rw (le-leb row.last row.last (omega arith)) (below row.last more.0.last le (next ∷ rows) more.1), λ p y. rw y refl)
  ]
    where
      below : (m n : ℕ) → m ≤ n → (some : List (Row K V)) → list_all (λ other. nat_le n other.last) some ≡ true → list_all (λ other. nat_le m other.last) some ≡ true
      below m n le [] a = refl
      below m n le (x ∷ some) a = elim (cases_Bool (nat_le n x.last)) [
        | inl e ↦ let lx : n ≤ x.last = leb-true n x.last e in rw (le-leb m x.last (omega arith)) (below m n le some (rw e at a))
        | inr e ↦ absurd (true≢false (sym (rw e at a)))
      ]

  found : (p : Row K V → Bool) (rows : List (Row K V)) → list_any p rows ≡ true → find p rows ≡ None → ⊥
  found p [] i n = true≢false (sym i)
  found p (x ∷ rows) i n = elim (cases_Bool (p x)) [
    | inl e ↦ let f : Some x ≡ None = rw e at n in cc
    | inr e ↦ found p rows (rw e at i) (rw e at n)
  ]

  some_oldest : (rows : List (Row K V)) → 0 < length rows → find (is_oldest rows) rows ≡ None → ⊥
  some_oldest [] lt n = absurd (omega arith)
  some_oldest (row ∷ rows) lt n = let l = least row rows in found (is_oldest (row ∷ rows)) (row ∷ rows) (l.2 (is_oldest (row ∷ rows)) l.1) n

module _ {K V : Type 0} (eq : K → K → Bool) (capacity : ℕ) (key : K) (rows : List (Row K V)) (answer : Touch K) (is : answer ≡ touch_answer eq capacity key rows) where
  pub answers_eviction : (gone : K) → answer ≡ Evicted gone → takes_place eq capacity key rows ≡ true
  answers_eviction gone e = elim (cases_Bool (holds eq key rows)) [
    | inl i ↦ let f : answer ≡ Held = is ∙ rw i refl in cc
    | inr o ↦ elim (cases_lt (length rows) capacity) [
      | inl lt ↦ let f : answer ≡ Fresh = is ∙ rw (o, lt-ltb (length rows) capacity lt) refl in cc
      | inr le ↦ rw (o, le-leb capacity (length rows) le) refl
    ]
  ]

  pub answers_none : 1 ≤ capacity → IsNone answer → takes_place eq capacity key rows ≡ false
  answers_none some none = elim (cases_Bool (holds eq key rows)) [
    | inl i ↦ rw i refl
    | inr o ↦ elim (cases_lt (length rows) capacity) [
      | inl lt ↦ rw (o, lt-leb capacity (length rows) lt) refl
      | inr le ↦
          let full : answer ≡ evicted (find (is_oldest rows) rows) = is ∙ rw (o, le-ltb (length rows) capacity le) refl in
          absurd (there (find (is_oldest rows) rows) (some_oldest rows (omega arith)) full)
    ]
  ]
    where
      there : (o : Option (Row K V)) → (o ≡ None → ⊥) → answer ≡ evicted o → ⊥
      there None some e = some refl
      there (Some row) some e = none row.key e
