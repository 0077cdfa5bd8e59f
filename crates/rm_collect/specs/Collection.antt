-- What the valid rows of a control table collect, and what their tables show.
use Rattle.std.specs.Prelude.{◌≡◌, ℕ, ℤ, ◌+◌, ◌≤◌, List, ◌∷◌, length, false, None, Option}
use Rattle.std.specs.Option.{option_or}
use Rattle.rm_val.specs.Val.{Val}
use Rattle.rm_val.specs.declared.error.ErrorStatus.{ErrorStatus}
use Rattle.rm_model.specs.Counting.{Counting}
use Rattle.rm_model.specs.Journal.{Act, Assignments, Frame, Journal, passes, assigns, samples, frames_in, last_moment}
use Rattle.rm_model.specs.Cells.{Cells, cells_of}
use Rattle.rm_model.specs.Indexing.{one_number}
use Rattle.rm_model.specs.Finite.{AreFinite}
use Rattle.rm_model.specs.ControlTable.{row_index}
use Rattle.rm_model.specs.ControlRows.{no_rows, state_of}
use Rattle.rm_model.specs.Judgement.{column_kind, value_fault, alone_fault, place_of}
use Rattle.rm_model.specs.declared.row.State.TheVariants.{Valid}
use Rattle.rm_acts.specs.Recurring.{ReadBefore}
use Rattle.rm_group.specs.Listed.{ListedTable, is_listed, is_settable, AreOfObjects, AreRefused}
use Rattle.rm_columns.specs.RowForm.{RowForm}
use Rattle.rm_status.specs.declared.row.Row.{Row}
use Rattle.rm_status.specs.Rows.{AreControlRows}
use Rattle.rm_status.specs.RowsShown.{rows_shown}
use Rattle.rm_status.specs.RowsAfter.{AreRowsAfter}
use Rattle.rm_pool.specs.declared.slot.Slot.{Slot}
use Rattle.rm_pool.specs.Slots.{part_in}
use Rattle.rm_collect.specs.Passed.{Passed, frame_passed}
use Rattle.rm_collect.specs.declared.sampled_tables.SampledTables.{SampledTables}
use Rattle.rm_collect.specs.declared.sampled_tables.SampledTables.TheVariants.{AllTables, ControlTable, NoTable}
use Rattle.rm_collect.specs.Rows.{GoesOn, IsKept}

-- What the valid rows of a control table with columns `C` collect, each in a part `P` of its own, beside what they share, `S`. A frame
-- is first judged to be some `J`, as a channel that accepts it, or none where its facts are all that counts.
pub record Collection (C P S J : Type 0) : Type 1 where
  -- what they share is what the probe was set to, and what another group makes of a journal
  pub suits : S → Counting → Journal → Type 0
  -- the columns of a row have values that they take
  pub in_range : C → Type 0
  pub in_range_prop : (columns : C) → IsProp (in_range columns)
  -- nothing in a part is later than a moment, or beyond so many frames
  pub fits : (last frames : ℕ) → P → Type 0
  -- a part is what a valid row has collected after a journal
  pub is_of : Counting → Journal → (row : ℕ) → P → Type 0
  -- It is what the row has once it has begun a Set, the act after a journal: what another group makes of the Set makes no difference yet.
  pub has_begun : Counting → Act → (earlier : Journal) → (row : ℕ) → P → Type 0
  -- what a frame is judged to be after a journal, and whether rows may take one that passes
  pub judges : Counting → Journal → Frame → List J → Type 0
  pub within : Passed → Type 0
  -- what becomes of a part by a frame that is judged to be these, and that passes after so many frames
  pub takes : List J → Passed → (before : ℕ) → P → P → Type 0
  -- what the columns of the control table show that can't be set, the index left out, and what the other tables show at a moment
  pub others : List (Row C) → List (Slot P) → (column : ℕ) → (index : List ℕ) → Val
  pub inner : List (Row C) → List (Slot P) → (now : ℕ) → Cells
  -- what all tables have after a journal
  pub cells : Counting → Journal → (now : ℕ) → Cells
  -- which of the tables alarms may sample, and what they may sample after a journal
  pub sampled_tables : SampledTables
  pub sampleable : Counting → Journal → (now : ℕ) → Cells
  -- the tables, and what is wrong with a binding alone that isn't of the control table
  pub tables : List ListedTable
  pub inner_alone : List ℕ → Val → Option ErrorStatus

-- what a row has once it has begun the Set that is an act after a journal, whatever comes of the Set
abbrev pub begun_by : {C P S J : Type 0} → Collection C P S J → Act → (earlier : Journal) → Counting → Journal → (row : ℕ) → P → Type 0
begun_by collection act earlier settings journal = collection.has_begun settings act earlier

module _ {C P S J : Type 0} (form : RowForm C) (collection : Collection C P S J) where
  -- what rows and parts show in the control table, in all tables at a moment, and in those that alarms may sample
  abbrev pub control_kept : List (Row C) → List (Slot P) → Cells
  control_kept rows parts = cells_of (rows_shown form (collection.others rows parts) rows)

  abbrev pub kept : List (Row C) → List (Slot P) → (now : ℕ) → Cells
  kept rows parts now name = option_or (control_kept rows parts name) (collection.inner rows parts now name)

  abbrev pub sampled_of : SampledTables → List (Row C) → List (Slot P) → (now : ℕ) → Cells
  sampled_of AllTables rows parts now name = kept rows parts now name
  sampled_of ControlTable rows parts now name = control_kept rows parts name
  sampled_of NoTable rows parts now name = None

  abbrev pub sampled : List (Row C) → List (Slot P) → (now : ℕ) → Cells
  sampled = sampled_of collection.sampled_tables

  -- what is wrong with a binding alone
  abbrev pub alone : List ℕ → Val → Option ErrorStatus
  alone name value = option_or (alone_fault form.table (place_of form.table name) value) (collection.inner_alone name value)

-- What holds of what the rows of a table in that form collect.
pub record IsLawful {C P S J : Type 0} (form : RowForm C) (collection : Collection C P S J) : Type 0 where
  -- the columns of a row stay in range
  pub blank_in_range : (index : ℕ) → collection.in_range (form.blank index)
  pub put_in_range : (columns : C) (column : ℕ) (value : Val) → value_fault (column_kind form.table column) value ≡ None → collection.in_range columns
      → collection.in_range (form.with_column columns column value)
  -- a part fits later too, and after a frame
  pub fits_later : (last now frames : ℕ) (part : P) → last ≤ now → collection.fits last frames part → collection.fits now frames part
  pub fits_taken : (judged : List J) (seen : Passed) (frames : ℕ) (part new : P) → collection.fits seen.moment frames part
      → collection.takes judged seen frames part new → collection.fits seen.moment (frames + 1) new
  -- what a row has collected follows a frame, and stays over a sample
  pub is_of_taken : (settings : Counting) (journal : Journal) (row : ℕ) (frame : Frame) (judged : List J) (part new : P)
      → state_of form.table no_rows journal (row_index form.table row) ≡ Valid → collection.judges settings journal frame judged
      → collection.fits frame.moment (length (frames_in journal)) part → collection.is_of settings journal row part
      → collection.takes judged (frame_passed settings frame) (length (frames_in journal)) part new
      → collection.is_of settings (passes frame ∷ journal) row new
  pub is_of_sampled : (settings : Counting) (journal : Journal) (moment alarm : ℕ) (reading : Option ℤ) (row : ℕ) (part : P)
      → state_of form.table no_rows journal (row_index form.table row) ≡ Valid → GoesOn form.table row journal (samples moment alarm reading ∷ journal)
      → collection.is_of settings journal row part → collection.is_of settings (samples moment alarm reading ∷ journal) row part
  -- it has begun a Set over which the row goes on
  pub begun_going : (settings : Counting) (moment : ℕ) (values : Assignments) (earlier : Journal) (row : ℕ) (part : P)
      → state_of form.table no_rows earlier (row_index form.table row) ≡ Valid
      → state_of form.table no_rows (assigns moment values ∷ earlier) (row_index form.table row) ≡ Valid
      → GoesOn form.table row earlier (assigns moment values ∷ earlier)
      → collection.is_of settings earlier row part → collection.has_begun settings (assigns moment values) earlier row part
  -- only a Set makes a difference to what rows share
  pub suits_taken : (settings : Counting) (journal : Journal) (frame : Frame) (shared : S) → collection.suits shared settings journal
      → collection.suits shared settings (passes frame ∷ journal)
  pub suits_sampled : (settings : Counting) (journal : Journal) (moment alarm : ℕ) (reading : Option ℤ) (shared : S)
      → collection.suits shared settings journal → collection.suits shared settings (samples moment alarm reading ∷ journal)
  -- rows and parts that are those after a journal show what the tables have
  pub same : (settings : Counting) (journal : Journal) (now : ℕ) (rows : List (Row C)) (parts : List (Slot P))
      → AreControlRows form.table rows → AreRowsAfter form.table no_rows form.set_to rows journal
      → ((row : ℕ) → IsKept form.table collection.is_of settings journal row (part_in parts row)) → last_moment journal ≤ now
      → (name : List ℕ) → kept form collection rows parts now name ≡ collection.cells settings journal now name
  pub same_sampled : (settings : Counting) (journal : Journal) (now : ℕ) (rows : List (Row C)) (parts : List (Slot P))
      → AreControlRows form.table rows → AreRowsAfter form.table no_rows form.set_to rows journal
      → ((row : ℕ) → IsKept form.table collection.is_of settings journal row (part_in parts row)) → last_moment journal ≤ now
      → (name : List ℕ) → sampled form collection rows parts now name ≡ collection.sampleable settings journal now name
  pub recurring : ReadBefore collection.sampleable
  pub finite : (settings : Counting) (journal : Journal) (now : ℕ) → AreFinite (collection.cells settings journal now)
  -- the index of a row is one number, and no sample takes a row of the control table away; the tables are those listed
  pub by_number : form.table.indexing ≡ one_number
  pub unsampled : form.table.is_sampled ≡ false
  pub shows_listed : (settings : Counting) (journal : Journal) (now : ℕ) → AreOfObjects (is_listed collection.tables) (collection.cells settings journal now)
  pub refuses_listed : AreRefused (is_listed collection.tables) (is_settable form.table) (alone form collection)
