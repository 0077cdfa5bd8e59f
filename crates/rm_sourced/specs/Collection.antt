-- What the valid rows of such a control table collect, which two tables show.
use Rattle.std.specs.Prelude.{◌≡◌, ℕ, ◌*◌, List, [], ◌∷◌, option_map}
use Rattle.std.specs.Option.{option_or}
use Rattle.rm_val.specs.Val.{Val}
use Rattle.rm_model.specs.Counting.{Counting}
use Rattle.rm_model.specs.Journal.{Journal}
use Rattle.rm_model.specs.Cells.{Cells, cells_of}
use Rattle.rm_group.specs.Listed.{ListedTable}
use Rattle.rm_status.specs.Rows.{row_number}
use Rattle.rm_pool.specs.declared.slot.Slot.{Slot}
use Rattle.rm_pool.specs.Slots.{part_in}
use Rattle.rm_keyed.specs.declared.source_columns.SourceColumns.{SourceColumns}
use Rattle.rm_keyed.specs.SourceControl.{TableEntry, source_columns, source_value}
use Rattle.rm_keyed.specs.TwoTables.{cells_of_two, alone_of_two}
use Rattle.rm_collect.specs.Collection.{Collection}
use Rattle.rm_collect.specs.declared.sampled_tables.SampledTables.TheVariants.{AllTables}
use Rattle.rm_sourced.specs.declared.sourced.Sourced.{Sourced}
use Rattle.rm_sourced.specs.Sourcing.{Sourcing, IsReady, Takes, IsSourced, control_table}
use Rattle.rm_sourced.specs.Shown.{ShownTable, kept_table, table_after}

-- what the columns of the control table show beside the index that can't be set, by the parts
abbrev pub kept_other : {K C R : Type 0} → Sourcing K C R → List (Slot (Sourced K R)) → (column : ℕ) → List ℕ → Val
kept_other sourcing parts column index = source_value (option_map (λ part. sourcing.entered part.rows) (part_in parts (row_number index))) column

module _ (entry : TableEntry) {K C R : Type 0} (sourcing : Sourcing K C R) (first second : ShownTable K R) where
  -- the tables
  abbrev pub source_tables : List ListedTable
  source_tables = record { entry = entry.numbers; columns = source_columns } ∷ first.listed ∷ second.listed ∷ []

  -- their cells after a journal
  abbrev pub source_cells : Counting → Journal → Cells
  source_cells settings journal name = option_or (cells_of (control_table entry sourcing settings journal) name) (cells_of_two (table_after first entry sourcing settings journal) (table_after second entry sourcing settings journal) name)

  -- Each row has rows of its own, with room for as many as all share. A frame has two stamps.
  unfoldable pub source_collection : {T S : Type 0} → (S → ℕ) → Collection (SourceColumns T) (Sourced K R) S (Unit {0})
  source_collection room_in = record {
    suits = λ shared settings journal. sourcing.room settings ≡ room_in shared;
    in_range = λ columns. Unit {0};
    in_range_prop = λ columns one other d. tt;
    fits = λ last frames part. IsReady sourcing (2 * frames) last part.rows;
    is_of = IsSourced entry sourcing;
    has_begun = λ settings act earlier. IsSourced entry sourcing settings (act ∷ earlier);
    judges = λ settings journal frame judged. Unit {0};
    within = λ seen. Unit {0};
    takes = λ judged seen before. Takes sourcing seen.facts (2 * before) seen.moment;
    others = λ rows parts. kept_other sourcing parts;
    inner = λ rows parts now. cells_of_two (kept_table first now parts) (kept_table second now parts);
    cells = λ settings journal now. source_cells settings journal;
    sampled_tables = AllTables;
    sampleable = λ settings journal now. source_cells settings journal;
    tables = source_tables;
    inner_alone = alone_of_two first.listed second.listed;
  }
