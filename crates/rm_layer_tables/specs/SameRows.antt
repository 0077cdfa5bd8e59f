-- What parts show of their rows is what the tables show after a journal.
use Rattle.std.proofs.Common.{◌≡◌, ℕ, ◌/◌, Bool, true, false, cond, nat_le, nat_lt, List, ◌∷◌, Option, Some, None, option_map, refl, sym, ap, ◌∙◌}
use Rattle.std.specs.Prelude.{option_and_then}
use Rattle.std.specs.Option.{option_map_or}
use Rattle.rm_val.specs.Val.{Val, null}
use Rattle.rm_model.specs.Cells.{cells_of}
use Rattle.rm_pool.specs.declared.slot.Slot.{Slot}
use Rattle.rm_pool.specs.Slots.{part_in}
use Rattle.rm_keyed.specs.PartRows.{cell_in, parts_table}
use Rattle.rm_keyed.proofs.PartCells.{same_table}
use Rattle.rm_upper.specs.declared.counts.Counted.{Counted}
use Rattle.rm_layer_tables.specs.Held.{MarkedRows, is_up, has_row}
use Rattle.rm_layer_tables.specs.Tables.{MarkedTable, row_value, is_index, value_at, marked_table}
use Rattle.rm_layer_tables.specs.Shown.{at_mark, row_shown}
use Rattle.rm_layer_tables.specs.Kept.{lasts_to, at_place, row_with, kept_value}

-- where there is nothing, nothing is shown at any moment
abbrev nothing : Option Val
nothing = None

never : (is_shown : Bool) → cond is_shown nothing nothing ≡ nothing
never true = refl
never false = refl

-- what stands at a mark shows a column, by what is kept of it
module _ {S K : Type 0} (shown : Counted S → (column : ℕ) → Val) (now mark column : ℕ) (value : K → Val) (key : K) where
  abbrev shown_if : (is_shown : Bool) → Option (Counted S) → Option Val
  shown_if is_shown o = cond is_shown (option_map value (cond (lasts_to mark o) (Some key) None)) None

  by_mark : (is_shown : Bool) → nat_lt 0 (now / 10) ≡ is_shown → (o : Option (Counted S)) → value key ≡ option_map_or (λ counted. shown counted column) o null
      → shown_if is_shown o ≡ at_mark shown now mark o column
  by_mark true e None is = refl
  by_mark false e None is = refl
  by_mark true e (Some counted) is = rw e (by_test (nat_le mark counted.tick))
    where
      by_test : (t : Bool) → option_map value (cond t (Some key) None) ≡ cond t (Some (shown counted column)) None
      by_test true = ap Some is
      by_test false = refl
  by_mark false e (Some counted) is = rw e refl

module _ {P X S G : Type 0} (place_of : List ℕ → Option (ℕ × X)) (counted : P → X → Option (Counted S)) (shown : Counted S → (column : ℕ) → Val)
    (table : MarkedTable G) (rows : (row : ℕ) → MarkedRows X G) (now : ℕ) where
  -- a part shows of each row what the table shows of it
  abbrev pub Shows : (row : ℕ) → P → Type 0
  Shows row part = (mark : ℕ) (x : X) (column : ℕ) → at_mark shown now mark (counted part x) column ≡ row_shown table (rows row) now mark x column

  -- a control row has no rows
  abbrev pub HasNone : (row : ℕ) → Type 0
  HasNone row = (x : X) → (rows row).is_there x ≡ false

  -- where there is a part it shows its rows, and where there is none there are none
  abbrev pub IsShown : (row : ℕ) → Option P → Type 0
  IsShown row None = HasNone row
  IsShown row (Some part) = Shows row part

  -- what the table shows at an index
  abbrev cell : (row : ℕ) → List ℕ → (column : ℕ) → Option Val
  cell row numbers column = cond (is_index table place_of rows now row numbers) (Some (value_at table place_of rows column (row ∷ numbers))) None

  -- it is what it shows of what the index names
  there : (row : ℕ) (numbers : List ℕ) (column : ℕ) → option_and_then (λ (place : ℕ × X). row_shown table (rows row) now place.0 place.1 column) (place_of numbers) ≡ cell row numbers column
  there row numbers column = by_place (place_of numbers)
    where
      by_place : (o : Option (ℕ × X))
          → option_and_then (λ (place : ℕ × X). row_shown table (rows row) now place.0 place.1 column) o
          ≡ cond (option_map_or (λ place. has_row (rows row) now place.0 place.1) o false) (Some (option_map_or (λ place. row_value table (rows row) place.1 column) o null)) None
      by_place None = refl
      by_place (Some place) = refl

  kept_shows : (row : ℕ) (part : P) → Shows row part → (column : ℕ) (o : Option (ℕ × X))
      → cond (is_up now) (option_map (λ x. kept_value place_of counted shown row part x column) (at_place place_of counted part o)) None
      ≡ option_and_then (λ (place : ℕ × X). row_shown table (rows row) now place.0 place.1 column) o
  kept_shows row part shows column None = never (is_up now)
  kept_shows row part shows column (Some place) =
      by_mark {K = X} shown now place.0 column (λ x. kept_value place_of counted shown row part x column) place.1 (is_up now) refl (counted part place.1) refl
      ∙ shows place.0 place.1 column

  none_shown : (row : ℕ) → HasNone row → (numbers : List ℕ) (column : ℕ) → cell row numbers column ≡ None
  none_shown row none numbers column = sym (there row numbers column) ∙ by_place (place_of numbers)
    where
      by_place : (o : Option (ℕ × X)) → option_and_then (λ (place : ℕ × X). row_shown table (rows row) now place.0 place.1 column) o ≡ None
      by_place None = refl
      by_place (Some place) = rw (none place.1) refl

  cell_is : (row : ℕ) (o : Option P) → IsShown row o → (numbers : List ℕ) (column : ℕ)
      → cell_in (row_with place_of counted) (kept_value place_of counted shown) (is_up now) row o numbers column ≡ cell row numbers column
  cell_is row None none numbers column = never (is_up now) ∙ sym (none_shown row none numbers column)
  cell_is row (Some part) shows numbers column = kept_shows row part shows column (place_of numbers) ∙ there row numbers column

  -- so do all parts together
  pub same_rows : (parts : List (Slot P)) → ((row : ℕ) → IsShown row (part_in parts row)) → (name : List ℕ)
      → cells_of (parts_table (row_with place_of counted) (kept_value place_of counted shown) (is_up now) table.entry table.columns parts) name ≡ cells_of (marked_table table place_of rows now) name
  same_rows parts are =
      same_table (row_with place_of counted) (kept_value place_of counted shown) (is_up now) parts (marked_table table place_of rows now) refl
      (λ row numbers column. cell_is row (part_in parts row) (are row) numbers column)
