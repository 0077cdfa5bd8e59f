-- What holds of rows that frames of a data source enter, and of the tables that show them.
use Rattle.std.specs.Prelude.{◌≡◌, ℕ, ◌≤◌, List, length, true}
use Rattle.rm_model.specs.Counting.{Counting}
use Rattle.rm_model.specs.Journal.{Journal}
use Rattle.rm_model.specs.Names.{Below}
use Rattle.rm_acts.specs.Recurring.{ReadBefore}
use Rattle.rm_evicting.specs.Mention.{keys}
use Rattle.rm_evicting.specs.Held.{IsExact, held}
use Rattle.rm_pool.specs.declared.slot.Slot.{Slot}
use Rattle.rm_pool.specs.Slots.{part_in}
use Rattle.rm_keyed.specs.SourceControl.{TableEntry, source_control}
use Rattle.rm_collect.specs.Rows.{IsKept}
use Rattle.rm_sourced.specs.declared.sourced.Sourced.{Sourced}
use Rattle.rm_sourced.specs.Sourcing.{Sourcing, IsSourced, mentions_of}
use Rattle.rm_sourced.specs.Held.{held_with}
use Rattle.rm_sourced.specs.Shown.{ShownTable}
use Rattle.rm_sourced.specs.Collection.{source_cells}

module _ (entry : TableEntry) {K C R : Type 0} (sourcing : Sourcing K C R) where
  -- what is kept of each row is that after a journal
  abbrev pub AreSourced : Counting → Journal → List (Slot (Sourced K R)) → Type 0
  AreSourced settings journal parts = (row : ℕ) → IsKept (source_control entry) (IsSourced entry sourcing) settings journal row (part_in parts row)

  -- the table always has rows, and the rows of a control row after a journal have the keys that this holds by their indexes, and show what it shows of them
  pub record IsShown (table : ShownTable K R) : Type 0 where
    pub always : (now : ℕ) → table.is_open now ≡ true
    pub found : (settings : Counting) (journal : Journal) (row : ℕ) (part : Sourced K R) → IsSourced entry sourcing settings journal row part
        → (numbers : List ℕ) → table.key_at part.rows numbers ≡ held_with entry sourcing settings journal row (table.index settings journal row) numbers
    pub same : (settings : Counting) (journal : Journal) (row : ℕ) (part : Sourced K R) → IsSourced entry sourcing settings journal row part
        → (key : K) → held sourcing.eq (sourcing.room settings) key (keys (mentions_of entry sourcing settings journal row)) ≡ true
        → (column : ℕ) → table.value_of row part.rows key column ≡ table.value settings journal row key column

  pub record IsLawful (first second : ShownTable K R) : Type 0 where
    -- keys are told apart
    pub exact : IsExact sourcing.eq
    -- the tables stand in the order of their entries, and show the rows
    pub control_fits : length entry.numbers ≤ 128
    pub first_below : Below entry.numbers first.listed.entry
    pub second_below : Below first.listed.entry second.listed.entry
    pub is_first : IsShown first
    pub is_second : IsShown second
    -- what they show depends on no reading
    pub recurring : ReadBefore (λ settings journal now. source_cells entry sourcing first second settings journal)
