-- How much storage is in use, and what a Set reserves by rows in the same states.
use Rattle.std.proofs.Common.{◌^◌, ◌≡◌, ℕ, ◌<◌, List, refl, sym, ap, subst, ◌∙◌, ◌&&◌, nat_eq}
use Rattle.std.specs.Prelude.{Option, IsTrue, Result, Ok, Err, IfErr}
use Rattle.rm_val.specs.Val.{Val}
use Rattle.rm_model.specs.ControlTable.{ControlTable, row_index}
use Rattle.rm_model.specs.ControlRows.{Beginning, set_ask, next_state, is_valid}
use Rattle.rm_model.specs.Counting.{Counting}
use Rattle.rm_model.specs.Journal.{Journal}
use Rattle.rm_model.specs.Judgement.{Bindings, count_below, name_at, place_of, rows_after}
use Rattle.rm_model.specs.Reserves.{makes_valid, activates_at, activates, count_valid, count_valid_after, Reserves}
use Rattle.rm_model.specs.declared.place.Place.{Place}
use Rattle.rm_model.specs.declared.place.Place.TheVariants.{Outside, Entry, Column, Cell}
use Rattle.rm_status.specs.declared.row.Row.{Row}
use Rattle.rm_group.specs.declared.denied.Denied.{Denied}
use Rattle.rm_status.specs.Rows.{rows_before}
use Rattle.rm_status.specs.RowsAfter.{AreRowsAfter}
use Rattle.rm_status.proofs.RowsBefore.{valid_before}
use Rattle.rm_pool.specs.declared.slot.Slot.{Slot}
use Rattle.rm_pool.specs.Pools.{in_use, IsOfValid}

-- as many parts are in use as rows are valid
pub used_is : {P C : Type 0} (t : ControlTable) (set_to : C → ℕ → Option Val) (pool : List (Slot P)) (rows : List (Row C)) → IsOfValid pool rows → in_use pool ≡ count_valid t (rows_before t set_to rows)
used_is t set_to pool rows of_valid = ap (λ p. count_below p (2 ^ 32)) (λ d row. of_valid row d) ∙ sym (valid_before t set_to rows)

-- what a Set makes valid depends on the states of the rows before it alone
module _ (t : ControlTable) (before others : Beginning) (bs : Bindings) (same : (row : ℕ) → before.state (row_index t row) ≡ others.state (row_index t row)) where
  made_alike : (row : ℕ) → makes_valid t before bs (row_index t row) ≡ makes_valid t others bs (row_index t row)
  made_alike row = rw (same row) refl

  place_alike : (p : Place) → activates_at t before bs p ≡ activates_at t others bs p
  place_alike Outside = refl
  place_alike Entry = refl
  place_alike (Column column) = refl
  place_alike (Cell column row) = ap (λ b. nat_eq column t.status && b) (made_alike row)

  activates_alike : (place : ℕ) → activates t before bs place ≡ activates t others bs place
  activates_alike place = place_alike (place_of t (name_at bs place))

  count_after_alike : count_valid_after t before bs ≡ count_valid_after t others bs
  count_after_alike = ap (λ p. count_below p (2 ^ 32)) (λ d row. ap (λ s. is_valid (next_state (set_ask t bs (row_index t row)) s)) (same row) d)

  reserves_alike : (index : ℕ) → Reserves t before bs index → Reserves t others bs index
  reserves_alike index is = record {
    place = is.place;
    within = is.within;
    numbered = is.numbered;
    activates_row = subst (λ b. IsTrue b) (activates_alike is.place) is.activates_row;
    several = subst (λ n. 1 < n) count_after_alike is.several;
  }

-- what holds of an error makes something else hold of it
of_error : {A B : Type 0} (P Q : B → Type 0) → ((e : B) → P e → Q e) → (r : Result A B) → IfErr r P → IfErr r Q
of_error P Q makes (Ok x) h = tt
of_error P Q makes (Err e) h = makes e h

-- what a Set reserves by the rows that are kept, it reserves by each journal after which they are the rows
pub denied_after : {A C : Type 0} (t : ControlTable) (first : Beginning) (set_to : C → ℕ → Option Val) (rows : List (Row C)) (bs : Bindings) (stands : Counting → Journal → Type 0)
    → ((settings : Counting) (journal : Journal) → stands settings journal → AreRowsAfter t first set_to rows journal)
    → (r : Result A Denied) → IfErr r (λ denied. Reserves t (rows_before t set_to rows) bs denied.index)
    → IfErr r (λ denied. (settings : Counting) (journal : Journal) → stands settings journal → Reserves t (rows_after t first journal) bs denied.index)
denied_after t first set_to rows bs stands are r is =
    of_error (λ (denied : Denied). Reserves t (rows_before t set_to rows) bs denied.index)
    (λ (denied : Denied). (settings : Counting) (journal : Journal) → stands settings journal → Reserves t (rows_after t first journal) bs denied.index)
    (λ denied is settings journal so. reserves_alike t (rows_before t set_to rows) (rows_after t first journal) bs (are settings journal so).alike.states denied.index is)
    r is
