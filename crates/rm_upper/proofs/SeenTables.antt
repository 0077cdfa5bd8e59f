-- A table of rows with each value seen otherwise.
use Rattle.std.proofs.Common.{◌≡◌, ℕ, ◌<◌, ◌≤◌, zero, suc, Bool, true, false, cond, List, [], ◌∷◌, map, length, Option, Some, None, All, Contains, refl, sym, ap, ◌∙◌, arith, inl, inr}
use Rattle.std.specs.List.{AllByRecursion}
use Rattle.std.specs.Option.{option_map}
use Rattle.std.specs.declared.cmp.Ordering.{Ordering}
use Rattle.std.proofs.lemmas.Bool.{cases_Bool}
use Rattle.std.proofs.lemmas.List.Elements.{All-from_recursion, recursion_from_All}
use Rattle.rm_evicting.specs.declared.Row.{Row}
use Rattle.rm_evicting.specs.Row.{credited}
use Rattle.rm_rows.specs.declared.touch.Touch.{Touch}
use Rattle.rm_rows.specs.declared.touch.Touch.TheVariants.{Held, Fresh}
use Rattle.rm_rows.specs.Table.{evicted, row_of, value_of, tick_of, keys_of, with_value, IsPairAbove, IsNextMark}
use Rattle.rm_upper.specs.Kept.{NetworkRow}
use Rattle.rm_upper.specs.Shown.{had_row, row_as, applications_of}
use Rattle.rm_upper.specs.Cells.{counted_by, network_in}
use Rattle.rm_upper.proofs.SeenLemmas.{at_first-through}
use Rattle.rm_rows.proofs.CreditLemmas.{credited-here}

module _ {K V W : Type 0} (f : V → W) where
  abbrev all : List (Row K V) → List (Row K W)
  all rows = map (row_as f) rows

  pub row-seen : (eq : K → K → Bool) (k : K) (rows : List (Row K V)) → row_of eq k (all rows) ≡ option_map (row_as f) (row_of eq k rows)
  row-seen eq k [] = refl
  row-seen eq k (row ∷ rows) = elim (cases_Bool (eq k row.key)) [
    | inl e ↦ rw e refl
    | inr e ↦ rw e (row-seen eq k rows)
  ]

  seen_of : (o : Option (Row K V)) (v : V) → option_map value_of o ≡ Some v → option_map value_of (option_map (row_as f) o) ≡ Some (f v)
  seen_of None v e = cc
  seen_of (Some row) v e = let same : row.value ≡ v = cc in ap (λ x. Some (f x)) same

  tick_as : (o : Option (Row K V)) → option_map tick_of (option_map (row_as f) o) ≡ option_map tick_of o
  tick_as None = refl
  tick_as (Some row) = refl

  none_of : (o : Option (Row K V)) → option_map value_of o ≡ None → option_map (row_as f) o ≡ None
  none_of None e = refl
  none_of (Some row) e = cc

  -- the value of a key's row, as it is seen
  pub value-seen : (eq : K → K → Bool) (k : K) (rows : List (Row K V)) (v : V) → option_map value_of (row_of eq k rows) ≡ Some v → option_map value_of (row_of eq k (all rows)) ≡ Some (f v)
  value-seen eq k rows v e = ap (option_map value_of) (row-seen eq k rows) ∙ seen_of (row_of eq k rows) v e

  -- and the tick of its last reference, which is the same
  pub tick-seen : (eq : K → K → Bool) (k : K) (rows : List (Row K V)) → option_map tick_of (row_of eq k (all rows)) ≡ option_map tick_of (row_of eq k rows)
  tick-seen eq k rows = ap (option_map tick_of) (row-seen eq k rows) ∙ tick_as (row_of eq k rows)

  -- where a key has no row it has none as it is seen
  pub absent-seen : (eq : K → K → Bool) (k : K) (rows : List (Row K V)) → row_of eq k rows ≡ None → row_of eq k (all rows) ≡ None
  absent-seen eq k rows e = row-seen eq k rows ∙ ap (option_map (row_as f)) e

  pub no_row-seen : (eq : K → K → Bool) (k : K) (rows : List (Row K V)) → option_map value_of (row_of eq k rows) ≡ None → row_of eq k (all rows) ≡ None
  no_row-seen eq k rows e = row-seen eq k rows ∙ none_of (row_of eq k rows) e

  pub keys-seen : (rows : List (Row K V)) → keys_of (all rows) ≡ keys_of rows
  keys-seen [] = refl
  keys-seen (row ∷ rows) = ap (λ l. row.key ∷ l) (keys-seen rows)

  module _ (P : Row K V → Type 0) (Q : Row K W → Type 0) where
    each-to : ((row : Row K V) → P row → Q (row_as f row)) → (rows : List (Row K V)) → AllByRecursion P rows → AllByRecursion Q (all rows)
    each-to h [] a = tt
    each-to h (row ∷ rows) a = (h row a.0, each-to h rows a.1)

    each-from : ((row : Row K V) → Q (row_as f row) → P row) → (rows : List (Row K V)) → AllByRecursion Q (all rows) → AllByRecursion P rows
    each-from h [] a = tt
    each-from h (row ∷ rows) a = (h row a.0, each-from h rows a.1)

    all-to : ((row : Row K V) → P row → Q (row_as f row)) → (rows : List (Row K V)) → All P rows → All Q (all rows)
    all-to h rows a = All-from_recursion Q (all rows) (each-to h rows (recursion_from_All P rows a))

    pub all-from : ((row : Row K V) → Q (row_as f row) → P row) → (rows : List (Row K V)) → All Q (all rows) → All P rows
    all-from h rows a = All-from_recursion P rows (each-from h rows (recursion_from_All Q (all rows) a))

  contains-seen : (row : Row K V) (rows : List (Row K V)) → Contains rows row → Contains (all rows) (row_as f row)
  contains-seen row [] c = absurd (omega (arith, c.1))
  contains-seen row (x ∷ rows) (zero, lt, at) = (0, omega arith, ap (row_as f) at)
  contains-seen row (x ∷ rows) (suc i, lt, at) = let more = contains-seen row rows (i, omega arith, at) in (suc more.0, (let below : more.0 < length (all rows) = more.1 in omega arith), more.2)

  -- the next mark is the same
  pub mark-seen : (cmp : K → K → Ordering) (rows : List (Row K V)) (mark : ℕ) (from : Option K) (res : Option (ℕ × K)) → IsNextMark cmp rows mark from res → IsNextMark cmp (all rows) mark from res
  mark-seen cmp rows mark from None next = all-to (λ row. (m : ℕ) → m ≤ row.tick → IsPairAbove cmp mark from m row.key → ⊥) (λ row. (m : ℕ) → m ≤ row.tick → IsPairAbove cmp mark from m row.key → ⊥) (λ row n. n) rows next
  mark-seen cmp rows mark from (Some p) next = (
    (row_as f next.0.0, contains-seen next.0.0 rows next.0.1, next.0.2, next.0.3),
    next.1,
    all-to (λ row. (m : ℕ) → m ≤ row.tick → IsPairAbove cmp mark from m row.key → IsPairAbove cmp m (Some row.key) p.0 p.1 → ⊥) (λ row. (m : ℕ) → m ≤ row.tick → IsPairAbove cmp mark from m row.key → IsPairAbove cmp m (Some row.key) p.0 p.1 → ⊥) (λ row n. n) rows next.2,
  )

  with_value-seen : (eq : K → K → Bool) (k : K) (v : V) (rows : List (Row K V)) → all (with_value eq k v rows) ≡ with_value eq k (f v) (all rows)
  with_value-seen eq k v rows = sym (at_first-through (row_as f) (λ row. eq k row.key) (λ row. eq k row.key) (λ row. record row { value = v }) (λ row. record row { value = f v }) (λ row. refl) (λ row. refl) rows)

  -- the value of a key's row with a gain, written back
  pub gained-seen : {C : Type 0} (eq : K → K → Bool) (add : W → C → W) (k : K) (v w : V) (c : C) (rows : List (Row K V)) → option_map value_of (row_of eq k rows) ≡ Some v → f w ≡ add (f v) c
      → all (with_value eq k w rows) ≡ credited eq add k c (all rows)
  gained-seen eq add k v w c rows is e = with_value-seen eq k w rows ∙ credited-here eq add k (f v) (f w) c (all rows) (value-seen eq k rows v is) e

module _ {K V : Type 0} where
  -- a row has the tick of its last reference
  pub no_row_by_tick : (o : Option (Row K V)) → option_map tick_of o ≡ None → o ≡ None
  no_row_by_tick None e = refl
  no_row_by_tick (Some row) e = cc

  -- the answer to a reference tells whether the key had a row
  answered : (h b : Bool) (r : Option (Row K V)) → had_row (cond h Held (cond b Fresh (evicted r))) ≡ h
  answered true b r = refl
  answered false true r = refl
  answered false false None = refl
  answered false false (Some row) = refl

  pub is_answer : (o : Touch K) (h b : Bool) (r : Option (Row K V)) → o ≡ cond h Held (cond b Fresh (evicted r)) → had_row o ≡ h
  is_answer o h b r e = ap had_row e ∙ answered h b r

module _ {K N A : Type 0} where
  -- what the row of a key shows
  pub network_of : (o : Option (Row K (NetworkRow N A))) (w : NetworkRow N A) (tick : ℕ) → option_map value_of o ≡ Some w → option_map tick_of o ≡ Some tick → network_in o ≡ counted_by tick w.created w.sums
  network_of None w tick e at = cc
  network_of (Some row) w tick e at =
      let same : row.value ≡ w = cc in
      let last : row.tick ≡ tick = cc in
      ap (λ (x : NetworkRow N A). counted_by row.tick x.created x.sums) same ∙ ap (λ n. counted_by n w.created w.sums) last

  -- and its application rows
  pub applications_there : (o : Option (Row K (NetworkRow N A))) (w : NetworkRow N A) → option_map value_of o ≡ Some w → option_map applications_of o ≡ Some w.applications
  applications_there None w e = cc
  applications_there (Some row) w e = let same : row.value ≡ w = cc in ap (λ (x : NetworkRow N A). Some x.applications) same
