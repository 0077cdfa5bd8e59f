-- What hostTopNControl shows, by what was set: TimeRemaining counts down.
use Rattle.std.proofs.Common.{◌≡◌, ℕ, List, Bool, true, false, cond, nat_eq, is_some, refl, sym, ap, ◌∙◌, subst, Option, Some, None, option_map}
use Rattle.std.specs.Prelude.{pos}
use Rattle.std.specs.Option.{option_and_then, option_map_or}
use Rattle.rm_val.specs.Val.{Val, int}
use Rattle.rm_model.specs.Names.{IsLeastAbove}
use Rattle.rm_model.specs.Cells.{Cells, IsNext, cells_of, cell_at, has_cell, instance_of}
use Rattle.rm_model.specs.declared.instance.Instance.{Instance}
use Rattle.rm_status.specs.declared.row.Row.{Row}
use Rattle.rm_status.specs.Indexes.{is_index_in}
use Rattle.rm_status.specs.Rows.{row_number}
use Rattle.rm_pool.specs.declared.slot.Slot.{Slot}
use Rattle.rm_topn.specs.declared.control_columns.ControlColumns.{ControlColumns}
use Rattle.rm_topn.specs.declared.course.Course.{Course}
use Rattle.rm_topn.specs.Columns.{control_columns}
use Rattle.rm_topn.specs.Control.{control_entry, top_control}
use Rattle.rm_topn.specs.Shown.{control_kept, counted, set_kept, time_shown}

module _ (rows : List (Row ControlColumns)) (courses : List (Slot Course)) (now : ℕ) where
  abbrev before : Cells
  before = cells_of (set_kept rows courses)

  abbrev after : Cells
  after = cells_of (control_kept rows courses now)

  pub counted_at : (name : List ℕ) → after name ≡ option_map (counted rows courses now name) (before name)
  counted_at name = go (instance_of control_entry control_columns name)
    where
      go : (o : Option Instance) → cell_at (control_kept rows courses now) o
          ≡ option_map (λ value. option_map_or (λ row. int (pos (time_shown rows courses row now))) (option_and_then (λ at. cond (nat_eq at.column 4) (Some (row_number at.index)) None) o) value) (cell_at (set_kept rows courses) o)
      go None = refl
      go (Some at) = by_tests (is_index_in top_control rows at.index) (nat_eq at.column 4)
        where
          time : Val
          time = int (pos (time_shown rows courses (row_number at.index) now))

          value : Val
          value = (set_kept rows courses).value at.column at.index

          by_tests : (there counts : Bool) → cond there (Some (cond counts time value)) None
              ≡ option_map (λ value. option_map_or (λ row. int (pos (time_shown rows courses row now))) (cond counts (Some (row_number at.index)) None) value) (cond there (Some value) None)
          by_tests true true = refl
          by_tests true false = refl
          by_tests false counts = refl

  -- the same names have a cell, so the next one is the next one
  some_mapped : (f : Val → Val) (o : Option Val) → is_some (option_map f o) ≡ is_some o
  some_mapped f None = refl
  some_mapped f (Some value) = refl

  same_names : (name : List ℕ) → has_cell before name ≡ has_cell after name
  same_names name = sym (ap is_some (counted_at name) ∙ some_mapped (counted rows courses now name) (before name))

  least_after : (asked : List ℕ) (found : Option (List ℕ)) → IsLeastAbove (has_cell before) asked found → IsLeastAbove (has_cell after) asked found
  least_after asked found least = subst (λ (has : List ℕ → Bool). IsLeastAbove has asked found) (λ d name. same_names name d) least

  pub next_counted : (asked found : List ℕ) (value : Option Val) → IsNext before asked value found → IsNext after asked (option_map (counted rows courses now found) value) found
  next_counted asked found None next = least_after asked None next
  next_counted asked found (Some value) next = (least_after asked (Some found) next.0, counted_at found ∙ ap (option_map (counted rows courses now found)) next.1)
