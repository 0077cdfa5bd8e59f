-- What frames of a data source enter for the rows of a control table, by keys of theirs.
use Rattle.std.specs.Prelude.{◌≡◌, ℕ, ◌+◌, ◌*◌, ◌/◌, List, [], ◌∷◌, ◌++◌, length, Bool, nat_eq, if◌then◌else◌}
use Rattle.rm_val.specs.Val.{Val, name}
use Rattle.rm_proto.specs.declared.known.Facts.{Facts}
use Rattle.rm_model.specs.Counting.{Counting}
use Rattle.rm_model.specs.Journal.{Journal, frames_in}
use Rattle.rm_model.specs.FrameFacts.{frame_facts}
use Rattle.rm_model.specs.Interfaces.{interface_name}
use Rattle.rm_model.specs.Cells.{Table}
use Rattle.rm_model.specs.ControlRows.{no_rows, value_of}
use Rattle.rm_model.specs.ControlCells.{control_cells}
use Rattle.rm_acts.specs.Seen.{Seen}
use Rattle.rm_status.specs.Rows.{row_number}
use Rattle.rm_status.specs.RowsShown.{with_index}
use Rattle.rm_evicting.specs.Mention.{Mention}
use Rattle.rm_keyed.specs.Entered.{Entered, IsOf}
use Rattle.rm_keyed.specs.Mentions.{mentions_since}
use Rattle.rm_sourced.specs.declared.sourced.Sourced.{Sourced}
use Rattle.rm_sourced.specs.Ready.{MayTake}
use Rattle.rm_keyed.specs.SourceControl.{TableEntry, source_columns, source_control, source_other}

-- What a frame that was seen mentions, by what a frame mentions with its stamp, its tick and its facts. It has two stamps for each frame
-- before it.
abbrev pub seen_mentions : {K C : Type 0} → ((stamp tick : ℕ) → Facts → List (Mention K C)) → Counting → Seen → List (Mention K C)
seen_mentions mentioned settings seen = mentioned (2 * length (frames_in seen.before)) (seen.frame.moment / 10) (frame_facts settings seen.frame)

-- The rows `R` that a valid row of a control table has, which frames of its data source entered by keys `K`. Each has
-- what the mentions of its key add, `C`.
pub record Sourcing (K C R : Type 0) : Type 1 where
  -- for how many rows there is room, by what the probe is set to
  pub room : Counting → ℕ
  -- whether two keys are one
  pub eq : K → K → Bool
  -- what a row has that has just entered, and what it has with a gain added
  pub blank : C
  pub plus : C → C → C
  -- what a frame mentions, the newest first, by the stamp of its first reference, its tick and its facts
  pub mentioned : (stamp tick : ℕ) → Facts → List (Mention K C)
  -- the rows by their keys
  pub entered : R → Entered K C

module _ {K C R : Type 0} (sourcing : Sourcing K C R) where
  -- these are the mentions so far, the newest first
  abbrev pub Means : List (Mention K C) → R → Type 0
  Means mentions rows = IsOf sourcing.eq sourcing.blank sourcing.plus mentions (sourcing.entered rows)

  -- a frame may be taken that passes at a moment, and whose first reference has that stamp
  abbrev pub IsReady : (stamp moment : ℕ) → R → Type 0
  IsReady stamp moment rows = MayTake stamp moment (sourcing.entered rows)

  -- what a frame mentions to the row whose data source is that interface
  abbrev pub taken_from : (source stamp tick : ℕ) → Facts → List (Mention K C)
  taken_from source stamp tick facts = if nat_eq source facts.interface then sourcing.mentioned stamp tick facts else []

  -- the rows of a data source took a frame
  pub record Takes (facts : Facts) (stamp moment : ℕ) (part new : Sourced K R) : Type 0 where
    pub means : (mentions : List (Mention K C)) → Means mentions part.rows → Means (taken_from part.source stamp (moment / 10) facts ++ mentions) new.rows
    pub source : new.source ≡ part.source
    pub capacity : (sourcing.entered new.rows).rows.capacity ≡ (sourcing.entered part.rows).rows.capacity
    pub ready : IsReady (stamp + 2) moment new.rows

-- for the control table with an entry
module _ (entry : TableEntry) {K C R : Type 0} (sourcing : Sourcing K C R) where
  -- the mentions of a control row, the newest first: those of the frames of its data source, since it became valid
  abbrev pub mentions_of : Counting → Journal → (row : ℕ) → List (Mention K C)
  mentions_of settings = mentions_since (source_control entry) (seen_mentions sourcing.mentioned settings)

  -- What is kept is that of a control row after a journal: of its mentions, with room for so many rows as the probe was set to.
  pub record IsSourced (settings : Counting) (journal : Journal) (row : ℕ) (part : Sourced K R) : Type 0 where
    pub source : name (interface_name part.source) ≡ value_of (source_control entry) no_rows journal (row ∷ []) 2
    pub capacity : (sourcing.entered part.rows).rows.capacity ≡ sourcing.room settings
    pub means : Means sourcing (mentions_of settings journal row) part.rows

  -- what the columns of the control table show beside the index that can't be set: how many rows are held, and when one last gave way to
  -- another; 0 in a row that isn't valid
  abbrev pub control_other : Counting → Journal → ℕ → List ℕ → Val
  control_other settings journal column index = source_other sourcing.eq (sourcing.room settings) (mentions_of settings journal (row_number index)) column

  -- the control table after a journal
  abbrev pub control_table : Counting → Journal → Table
  control_table settings journal = control_cells (source_control entry) no_rows source_columns (with_index (control_other settings journal)) journal
