-- The least key so far.
use Rattle.std.proofs.Common.{◌≡◌, ℕ, ◌≤◌, ◌+◌, zero, suc, List, [], ◌∷◌, get_or, ◌⊎◌, nat_le, Option, Some, None, All, Contains, refl, ap, arith, inl, inr}
use Rattle.std.specs.declared.cmp.Ordering.{Ordering}
use Rattle.std.specs.declared.cmp.Ordering.TheVariants.{Less}
use Rattle.std.proofs.lemmas.Bool.{cases_Bool, both_ways, le-leb, leb-true}
use Rattle.std.proofs.lemmas.List.Elements.{All-weaker, All-from_recursion, recursion_from_All}
use Rattle.std.specs.List.{AllByRecursion}
use Rattle.std.specs.Prelude.{⊤}
use Rattle.rm_evicting.specs.declared.Row.{Row}
use Rattle.rm_rows.specs.Table.{IsAbove, IsNextKey, IsPairAbove, IsNextMark, keys_of, from_mark}

Contains-cons_cases : {X : Type 0} (y : X) (ys : List X) (k : X) → Contains (y ∷ ys) k → (y ≡ k) ⊎ Contains ys k
Contains-cons_cases y ys k (zero, lt, e) = inl e
Contains-cons_cases y ys k (suc i, lt, e) = inr (i, omega arith, e)

module _ {K V : Type 0} where
  pub from_mark-zero : (rows : List (Row K V)) → from_mark 0 rows ≡ rows
  from_mark-zero [] = refl
  from_mark-zero (row ∷ rows) = rw (le-leb 0 row.tick (omega arith)) (ap (λ l. row ∷ l) (from_mark-zero rows))

  -- what holds of the keys from a mark holds of each row that stands there
  rows_from : (P : K → Type 0) (mark : ℕ) (rows : List (Row K V)) → AllByRecursion P (keys_of (from_mark mark rows)) → AllByRecursion (λ row. mark ≤ row.tick → P row.key) rows
  rows_from P mark [] a = tt
  rows_from P mark (row ∷ rows) a = elim (cases_Bool (nat_le mark row.tick)) [
    | inl e ↦ let b : P row.key × AllByRecursion P (keys_of (from_mark mark rows)) = rw e at a in ((λ _. b.0), rows_from P mark rows b.1)
    | inr e ↦ ((λ le. absurd (both_ways (nat_le mark row.tick) e (le-leb mark row.tick le))), rows_from P mark rows (rw e at a))
  ]

  pub all_from : (P : K → Type 0) (mark : ℕ) (rows : List (Row K V)) → All P (keys_of (from_mark mark rows)) → All (λ row. mark ≤ row.tick → P row.key) rows
  all_from P mark rows a = All-from_recursion (λ row. mark ≤ row.tick → P row.key) rows (rows_from P mark rows (recursion_from_All P (keys_of (from_mark mark rows)) a))

  pub row_from : (mark : ℕ) (k : K) (rows : List (Row K V)) → Contains (keys_of (from_mark mark rows)) k → (row : Row K V) × Contains rows row × (row.key ≡ k) × (mark ≤ row.tick)
  row_from mark k [] c = absurd (omega (arith, c.1))
  row_from mark k (row ∷ rows) c = elim (cases_Bool (nat_le mark row.tick)) [
    | inl e ↦ elim (Contains-cons_cases row.key (keys_of (from_mark mark rows)) k (rw e at c)) [
      | inl same ↦ (row, (0, omega arith, refl), same, leb-true mark row.tick e)
      | inr later ↦ deeper (row_from mark k rows later)
    ]
    | inr e ↦ deeper (row_from mark k rows (rw e at c))
  ]
    where
      deeper : ((r : Row K V) × Contains rows r × (r.key ≡ k) × (mark ≤ r.tick)) → (r : Row K V) × Contains (row ∷ rows) r × (r.key ≡ k) × (mark ≤ r.tick)
      deeper d = (d.0, (let t = d.1 in (suc t.0, omega (arith, t.1), t.2)), d.2, d.3)

module _ {K V : Type 0} (cmp : K → K → Ordering) where
  -- a key at the mark itself
  pub mark_here : (rows : List (Row K V)) (mark : ℕ) (from : Option K) (k : K) → IsNextKey cmp (keys_of (from_mark mark rows)) from (Some k) → IsNextMark cmp rows mark from (Some (mark, k))
  mark_here rows mark from k next = (row_from mark k rows next.0, inr (refl, next.1), All-weaker (λ row. mark ≤ row.tick → IsAbove cmp from row.key → cmp row.key k ≡ Less → ⊥) (λ row. (m : ℕ) → m ≤ row.tick → IsPairAbove cmp mark from m row.key → IsPairAbove cmp m (Some row.key) mark k → ⊥) each rows (all_from (λ j. IsAbove cmp from j → cmp j k ≡ Less → ⊥) mark rows next.2))
    where
      each : (row : Row K V) → (mark ≤ row.tick → IsAbove cmp from row.key → cmp row.key k ≡ Less → ⊥) → (m : ℕ) → m ≤ row.tick → IsPairAbove cmp mark from m row.key → IsPairAbove cmp m (Some row.key) mark k → ⊥
      each row least m le (inl lt) (inl less) = omega arith
      each row least m le (inl lt) (inr b) = let e : m ≡ mark = b.0 in omega arith
      each row least m le (inr a) (inl less) = let e : mark ≡ m = a.0 in omega arith
      each row least m le (inr a) (inr b) = least (let e : mark ≡ m = a.0 in omega arith) a.1 b.1

  -- none there, and the first key at the next mark
  pub mark_next : (rows : List (Row K V)) (mark : ℕ) (from : Option K) (k : K) → IsNextKey cmp (keys_of (from_mark mark rows)) from None → IsNextKey cmp (keys_of (from_mark (mark + 1) rows)) None (Some k) → IsNextMark cmp rows mark from (Some (mark + 1, k))
  mark_next rows mark from k gone next = (row_from (mark + 1) k rows next.0, inl (omega arith), All-both (all_from (λ j. IsAbove cmp from j → ⊥) mark rows gone) (all_from (λ j. ⊤ → cmp j k ≡ Less → ⊥) (mark + 1) rows next.2))
    where
      All-both : All (λ row. mark ≤ row.tick → IsAbove cmp from row.key → ⊥) rows → All (λ row. mark + 1 ≤ row.tick → ⊤ → cmp row.key k ≡ Less → ⊥) rows → All (λ row. (m : ℕ) → m ≤ row.tick → IsPairAbove cmp mark from m row.key → IsPairAbove cmp m (Some row.key) (mark + 1) k → ⊥) rows
      All-both a b = λ i d lt. each (get_or rows i d) (a i d lt) (b i d lt)
        where
          each : (row : Row K V) → (mark ≤ row.tick → IsAbove cmp from row.key → ⊥) → (mark + 1 ≤ row.tick → ⊤ → cmp row.key k ≡ Less → ⊥) → (m : ℕ) → m ≤ row.tick → IsPairAbove cmp mark from m row.key → IsPairAbove cmp m (Some row.key) (mark + 1) k → ⊥
          each row none least m le (inl lt) (inl less) = omega arith
          each row none least m le (inl lt) (inr b) = let e : m ≡ mark + 1 = b.0 in least (omega arith) tt b.1
          each row none least m le (inr a) other = none (let e : mark ≡ m = a.0 in omega arith) a.1

  pub mark_none : (rows : List (Row K V)) (mark : ℕ) (from : Option K) → IsNextKey cmp (keys_of (from_mark mark rows)) from None → IsNextKey cmp (keys_of (from_mark (mark + 1) rows)) None None → IsNextMark cmp rows mark from None
  mark_none rows mark from gone none = λ i d lt. each (get_or rows i d) (all_from (λ j. IsAbove cmp from j → ⊥) mark rows gone i d lt) (all_from (λ j. ⊤ → ⊥) (mark + 1) rows none i d lt)
    where
      each : (row : Row K V) → (mark ≤ row.tick → IsAbove cmp from row.key → ⊥) → (mark + 1 ≤ row.tick → ⊤ → ⊥) → (m : ℕ) → m ≤ row.tick → IsPairAbove cmp mark from m row.key → ⊥
      each row here next m le (inl lt) = next (omega arith) tt
      each row here next m le (inr a) = here (let e : mark ≡ m = a.0 in omega arith) a.1
