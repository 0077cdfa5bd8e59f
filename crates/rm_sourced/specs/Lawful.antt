-- The laws of what the valid rows of such a control table collect.
use Rattle.std.proofs.Common.{◌≡◌, ℕ, ◌+◌, ◌*◌, List, [], ◌∷◌, cond, Option, Some, None, refl, nat_eq, option_map, arith}
use Rattle.std.specs.Prelude.{pos}
use Rattle.std.specs.Option.{option_or}
use Rattle.std.proofs.Math.Nat.{le_refl}
use Rattle.rm_val.specs.Val.{int}
use Rattle.rm_model.specs.Counting.{Counting}
use Rattle.rm_model.specs.Journal.{Frame, Journal, assigns, samples}
use Rattle.rm_model.specs.Cells.{cells_of}
use Rattle.rm_model.specs.Finite.{AreFinite}
use Rattle.rm_model.specs.ControlRows.{no_rows}
use Rattle.rm_model.proofs.Finite.{table_finite}
use Rattle.rm_nested.proofs.Finite.{rows_of, in_rows}
use Rattle.rm_group.specs.Listed.{AreOfObjects, is_listed}
use Rattle.rm_status.specs.declared.row.Row.{Row}
use Rattle.rm_status.specs.Rows.{row_in, AreControlRows}
use Rattle.rm_status.specs.RowsAfter.{AreRowsAfter}
use Rattle.rm_status.specs.RowsShown.{with_index, rows_shown}
use Rattle.rm_status.proofs.RowFacts.{row_there}
use Rattle.rm_status.proofs.KeptCellsLaws.{same_control_cells}
use Rattle.rm_pool.specs.declared.slot.Slot.{Slot}
use Rattle.rm_pool.specs.Slots.{part_in}
use Rattle.rm_collect.specs.Passed.{Passed}
use Rattle.rm_collect.specs.Rows.{IsKept}
use Rattle.rm_collect.specs.Collection.{IsLawful as IsCollectionLawful, kept}
use Rattle.rm_collect.specs.Turned.{IsByItself}
use Rattle.rm_keyed.specs.declared.source_columns.SourceColumns.{SourceColumns}
use Rattle.rm_keyed.specs.SourceControl.{TableEntry, set_to, source_columns, source_control, source_rows}
use Rattle.rm_keyed.proofs.MentionLaws.{mentions_idle}
use Rattle.rm_keyed.proofs.SourceLaws.{AreRowsOf, source_same}
use Rattle.rm_keyed.proofs.TwoLaws.{all_finite, all_listed, beside_two}
use Rattle.rm_sourced.specs.declared.sourced.Sourced.{Sourced}
use Rattle.rm_sourced.specs.Sourcing.{Sourcing, IsReady, IsSourced, control_other, control_table, mentions_of, seen_mentions}
use Rattle.rm_sourced.specs.Ready.{may_take_later}
use Rattle.rm_sourced.specs.Shown.{ShownTable, table_after}
use Rattle.rm_sourced.specs.Collection.{kept_other, source_tables, source_cells, source_collection}
use Rattle.rm_sourced.specs.Laws.{AreSourced, IsLawful}
use Rattle.rm_sourced.specs.Frames.{one_frame, goes_on}
use Rattle.rm_sourced.specs.HeldLaws.{held_finite, same_table_after}

module _ (entry : TableEntry) {K C R : Type 0} (sourcing : Sourcing K C R) where
  control_finite : (settings : Counting) (journal : Journal) → AreFinite (cells_of (control_table entry sourcing settings journal))
  control_finite settings journal = table_finite (control_table entry sourcing settings journal) (rows_of (source_control entry) journal) (in_rows (source_control entry) journal)

  ready_again : (moment frames : ℕ) (new : R) → IsReady sourcing (2 * frames + 2) moment new → IsReady sourcing (2 * (frames + 1)) moment new
  ready_again moment frames new = may_take_later (2 * frames + 2) (2 * (frames + 1)) moment moment (sourcing.entered new) (omega arith) (le_refl moment)

  module _ (settings : Counting) (journal : Journal) (parts : List (Slot (Sourced K R))) (are : AreSourced entry sourcing settings journal parts) where
    rows_are : (row : ℕ) (o : Option (Sourced K R)) → IsKept (source_control entry) (IsSourced entry sourcing) settings journal row o
        → AreRowsOf sourcing.eq sourcing.blank sourcing.plus (sourcing.room settings) (mentions_of entry sourcing settings journal row) (option_map (λ part. sourcing.entered part.rows) o)
    rows_are row None idle = mentions_idle (source_control entry) (seen_mentions sourcing.mentioned settings) journal row idle
    rows_are row (Some part) is = (is.1.means, is.1.capacity)

    module _ {T : Type 0} (rows : List (Row (SourceColumns T))) (held : AreControlRows (source_control entry) rows) (is : AreRowsAfter (source_control entry) no_rows set_to rows journal) where
      same_other : (column i : ℕ) (row : Row (SourceColumns T)) → row_in rows i ≡ Some row → with_index (kept_other sourcing parts) column (i ∷ []) ≡ with_index (control_other entry sourcing settings journal) column (i ∷ [])
      same_other column i row here = λ d.
          cond (nat_eq column 1) (int (pos i))
          (source_same sourcing.eq sourcing.blank sourcing.plus (sourcing.room settings) (mentions_of entry sourcing settings journal i) (option_map (λ part. sourcing.entered part.rows) (part_in parts i)) (rows_are i (part_in parts i) (are i)) column d)

      same_control : (name : List ℕ) → cells_of (rows_shown (source_rows entry) (kept_other sourcing parts) rows) name ≡ cells_of (control_table entry sourcing settings journal) name
      unfolding source_rows
      same_control =
          same_control_cells (source_control entry) no_rows set_to rows held journal is source_columns (with_index (kept_other sourcing parts)) (with_index (control_other entry sourcing settings journal))
          (λ i row here. row_there (source_control entry) rows i row held here) same_other

  module _ (first second : ShownTable K R) (laws : IsLawful entry sourcing first second) where
    -- what rows and parts show in all three tables is what these have after the journal
    module _ {T S : Type 0} (room_in : S → ℕ) (settings : Counting) (journal : Journal) (parts : List (Slot (Sourced K R))) (are : AreSourced entry sourcing settings journal parts)
        (now : ℕ) (rows : List (Row (SourceColumns T))) (held : AreControlRows (source_control entry) rows) (is : AreRowsAfter (source_control entry) no_rows set_to rows journal) where
      same_cells : (name : List ℕ) → kept (source_rows entry) (source_collection entry sourcing first second room_in) rows parts now name ≡ source_cells entry sourcing first second settings journal name
      unfolding source_rows source_collection
      same_cells name = λ d. option_or (same_control settings journal parts are rows held is name d) (option_or (same_table_after entry sourcing laws.exact first laws.is_first settings journal parts are now name d) (same_table_after entry sourcing laws.exact second laws.is_second settings journal parts are now name d))

    shows_listed : (settings : Counting) (journal : Journal) → AreOfObjects (is_listed (source_tables entry sourcing first second)) (source_cells entry sourcing first second settings journal)
    shows_listed settings journal = all_listed (table_after first entry sourcing settings journal) (table_after second entry sourcing settings journal) (control_table entry sourcing settings journal)

    pub source_lawful : {T S : Type 0} (room_in : S → ℕ) → IsCollectionLawful (source_rows {T = T} entry) (source_collection entry sourcing first second room_in)
    unfolding source_rows source_collection
    source_lawful room_in = record {
      blank_in_range = λ index. tt;
      put_in_range = λ columns column value takes in_range. tt;
      fits_later = λ last now frames part later. may_take_later (2 * frames) (2 * frames) last now (sourcing.entered part.rows) (le_refl (2 * frames)) later;
      fits_taken = λ judged seen frames part new ready takes. ready_again seen.moment frames new.rows takes.ready;
      is_of_taken = λ settings journal row frame judged part new valid judges ready. one_frame entry sourcing settings journal row frame part new valid;
      is_of_sampled = λ settings journal moment alarm reading row part valid. goes_on entry sourcing settings journal (samples moment alarm reading ∷ journal) row part;
      begun_going = λ settings moment values earlier row part before after. goes_on entry sourcing settings earlier (assigns moment values ∷ earlier) row part;
      suits_taken = λ settings journal frame shared suits. suits;
      suits_sampled = λ settings journal moment alarm reading shared suits. suits;
      same = λ settings journal now rows parts held is are later. same_cells room_in settings journal parts are now rows held is;
      same_sampled = λ settings journal now rows parts held is are later. same_cells room_in settings journal parts are now rows held is;
      recurring = laws.recurring;
      finite = λ settings journal now.
          all_finite (table_after first entry sourcing settings journal) (table_after second entry sourcing settings journal) (control_table entry sourcing settings journal)
          (control_finite settings journal) (held_finite entry sourcing first.index first.value first.listed settings journal) (held_finite entry sourcing second.index second.value second.listed settings journal);
      by_number = refl;
      unsampled = refl;
      shows_listed = λ settings journal now. shows_listed settings journal;
      refuses_listed = beside_two (source_control entry) source_columns first.listed second.listed;
    }

-- the facts of a frame are all that counts, and each frame may be taken
module _ (entry : TableEntry) {K C R : Type 0} (sourcing : Sourcing K C R) (first second : ShownTable K R) (T : Type 0) {S : Type 0} (room_in : S → ℕ) where
  pub unjudged : (settings : Counting) (journal : Journal) (frame : Frame) → (source_collection entry sourcing first second {T = T} room_in).judges settings journal frame []
  unfolding source_collection
  unjudged settings journal frame = tt

  pub all_within : (seen : Passed) → (source_collection entry sourcing first second {T = T} room_in).within seen
  unfolding source_collection
  all_within seen = tt

  -- no other group makes a difference to them
  pub by_itself : IsByItself (source_collection entry sourcing first second {T = T} room_in)
  unfolding source_collection
  by_itself = record {
    whole = λ settings moment values earlier row part begun. begun;
    lasting = λ settings moment values earlier shared suits. suits;
  }
