-- As many application rows are counted as there are.
use Rattle.std.proofs.Common.{◌≡◌, ℕ, ◌<◌, ◌+◌, ◌-◌, zero, suc, Bool, false, List, [], ◌∷◌, take, length, slice_get, Option, Some, None, refl, ap, ◌∙◌, arith, subst}
use Rattle.std.specs.List.{AllByRecursion}
use Rattle.std.specs.Option.{option_map}
use Rattle.std.proofs.lemmas.List.Sums.{sum_by-cons}
use Rattle.rm_evicting.specs.Held.{IsExact, entry}
use Rattle.rm_evicting.specs.declared.Row.{Row}
use Rattle.rm_evicting.specs.Stands.{IsRow}
use Rattle.rm_evicting.proofs.Recency.{IsApart, back}
use Rattle.rm_evicting.proofs.RowLemmas.{row_keys, each-weaker, each_other, holds-keys, apart_by_entry}
use Rattle.rm_rows.specs.Table.{row_of, key_at, key_of}
use Rattle.rm_layers.specs.Event.{Event, on_since, span}
use Rattle.rm_layers.specs.Network.{application_rows, application_deletes}
use Rattle.rm_layers.specs.Applications.{Value, used}
use Rattle.rm_layers.specs.Upper.{IsValue, AreTuned, applications_held}
use Rattle.rm_layers.proofs.Cells.{applications_held-is}
use Rattle.rm_upper.specs.declared.slots.Slot.{Slot}
use Rattle.rm_upper.specs.Kept.{NetworkRow}
use Rattle.rm_upper.specs.Tally.{Tally}
use Rattle.rm_upper.specs.Shown.{shown_all, protocols, seen_value, seen_rows, row_as}
use Rattle.rm_upper.specs.Standing.{Layered, StandsFor}
use Rattle.rm_upper.specs.Count.{held_in, held_of, held_by_keys}

module _ {K N A : Type 0} (eq : K → K → Bool) (layered : Layered K N A) where
  counted : List (Row K (NetworkRow N A)) → ℕ
  counted rows = held_by_keys eq layered rows

  step : (i : ℕ) (rows : List (Row K (NetworkRow N A))) (k : K) → option_map key_of (slice_get rows i) ≡ Some k → held_by_keys eq layered (take (suc i) rows) ≡ held_by_keys eq layered (take i rows) + held_of eq layered k
  step i [] k e = cc
  step zero (row ∷ rows) k e = let same : row.key ≡ k = cc in sum_by-cons (λ x. held_of eq layered x.key) row [] ∙ ap (λ j. held_of eq layered j + 0) same ∙ (let a : held_of eq layered k + 0 ≡ 0 + held_of eq layered k = omega arith in a)
  step (suc i) (row ∷ rows) k e =
      let rest : held_by_keys eq layered (take (suc i) rows) ≡ held_by_keys eq layered (take i rows) + held_of eq layered k = step i rows k e in
      let a : held_by_keys eq layered (row ∷ take (suc i) rows) ≡ held_of eq layered row.key + held_by_keys eq layered (take (suc i) rows) = sum_by-cons (λ (x : Row K (NetworkRow N A)). held_of eq layered x.key) row (take (suc i) rows) in
      let b : held_by_keys eq layered (row ∷ take i rows) ≡ held_of eq layered row.key + held_by_keys eq layered (take i rows) = sum_by-cons (λ (x : Row K (NetworkRow N A)). held_of eq layered x.key) row (take i rows) in
      omega arith

  pub next_held : (i : ℕ) (rows : List (Row K (NetworkRow N A))) (k : K) → key_at (i + 1) rows ≡ Some k → held_by_keys eq layered (take (i + 1) rows) ≡ held_by_keys eq layered (take i rows) + held_of eq layered k
  next_held i rows k e = subst (λ m. key_at m rows ≡ Some k → held_by_keys eq layered (take m rows) ≡ held_by_keys eq layered (take i rows) + held_of eq layered k) (let one : suc i ≡ i + 1 = omega arith in one) (λ f. step i rows k f) e

  there : (i : ℕ) (rows : List (Row K (NetworkRow N A))) → i < length rows → option_map key_of (slice_get rows i) ≡ None → ⊥
  there i [] lt e = omega arith
  there zero (row ∷ rows) lt e = cc
  there (suc i) (row ∷ rows) lt e = there i rows (omega arith) e

  pub some_key : (i : ℕ) (rows : List (Row K (NetworkRow N A))) → i < length rows → key_at (i + 1) rows ≡ None → ⊥
  some_key i rows lt e = subst (λ m. key_at m rows ≡ None → ⊥) (let one : suc i ≡ i + 1 = omega arith in one) (λ f. there i rows lt f) e

module _ {K N A : Type 0} (tally : Tally N A) (eq : K → K → Bool) (exact : IsExact eq) where
  found_still : (x : Row K (NetworkRow N A)) (xs some : List (Row K (NetworkRow N A))) → AllByRecursion (λ row. eq x.key row.key ≡ false) some → AllByRecursion (λ row. row_of eq row.key xs ≡ Some row) some → AllByRecursion (λ row. row_of eq row.key (x ∷ xs) ≡ Some row) some
  found_still x xs [] o a = tt
  found_still x xs (row ∷ some) o a = (rw (back eq exact x.key row.key o.0) a.0, found_still x xs some o.1 a.1)

  firsts : (rows : List (Row K (NetworkRow N A))) → IsApart eq exact (row_keys rows) → AllByRecursion (λ row. row_of eq row.key rows ≡ Some row) rows
  firsts [] a = tt
  firsts (x ∷ xs) a = (rw (exact.itself x.key) refl, found_still x xs xs (each_other eq exact x.key xs (holds-keys eq exact x.key xs ∙ a.0)) (firsts xs a.1))

  by_rows : (layered : Layered K N A) (some : List (Row K (NetworkRow N A))) → AllByRecursion (λ row. row_of eq row.key layered.table.rows ≡ Some row) some → held_by_keys eq layered some ≡ applications_held (seen_rows layered.slots some)
  by_rows layered [] a = refl
  by_rows layered (row ∷ some) a =
      let here : held_of eq layered row.key ≡ used (shown_all layered.slots row.value.applications) = ap (held_in layered.slots) a.0 in
      let rest : held_by_keys eq layered some ≡ applications_held (seen_rows layered.slots some) = by_rows layered some a.1 in
      let left : held_by_keys eq layered (row ∷ some) ≡ held_of eq layered row.key + held_by_keys eq layered some = sum_by-cons (λ (x : Row K (NetworkRow N A)). held_of eq layered x.key) row some in
      let right : applications_held (seen_rows layered.slots (row ∷ some)) ≡ used (shown_all layered.slots row.value.applications) + applications_held (seen_rows layered.slots some) = sum_by-cons (λ (x : Row K (Value N A)). used x.value.applications) (row_as (seen_value layered.slots) row) (seen_rows layered.slots some) in
      omega arith

  keys_seen : (slots : List (Option Slot)) (rows : List (Row K (NetworkRow N A))) → row_keys (seen_rows slots rows) ≡ row_keys rows
  keys_seen slots [] = refl
  keys_seen slots (row ∷ rows) = ap (λ l. row.key ∷ l) (keys_seen slots rows)

  -- those that are gone are the ones entered less the ones that there are
  pub deletes-are : (layered : Layered K N A) (r : List (Event K N)) → AreTuned (protocols layered.slots) r → StandsFor tally eq r layered → layered.application_inserts - held_by_keys eq layered layered.table.rows ≡ application_deletes eq layered.table.capacity r
  deletes-are layered r tuned stands =
      let apart : IsApart eq exact (row_keys layered.table.rows) = subst (IsApart eq exact) (keys_seen layered.slots layered.table.rows) (apart_by_entry eq exact (λ h. entry eq layered.table.capacity h (span r)) (seen_rows layered.slots layered.table.rows) (each-weaker (IsRow eq (IsValue tally.blank tally.add tally.none tally.more (protocols layered.slots) (λ p. on_since p r)) layered.table.capacity (span r)) (λ row. row.entry ≡ entry eq layered.table.capacity row.key (span r)) (λ row is. is.entry) (seen_rows layered.slots layered.table.rows) stands.is.stands.each) stands.is.stands.order) in
      let many : held_by_keys eq layered layered.table.rows ≡ application_rows eq layered.table.capacity r = by_rows layered layered.table.rows (firsts layered.table.rows apart) ∙ applications_held-is eq exact tally.blank tally.add tally.none tally.more layered.table.capacity (protocols layered.slots) r tuned (seen_rows layered.slots layered.table.rows) stands.is.stands in
      rw (many, stands.is.application_inserts) refl
