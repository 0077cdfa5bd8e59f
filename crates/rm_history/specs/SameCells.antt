-- That rows and histories show what the tables have after a journal.
use Rattle.std.proofs.Common.{◌≡◌, ℕ, ◌/◌, ◌%◌, ◌^◌, ◌≤◌, List, [], ◌∷◌, refl, sym, ◌∙◌, ap, subst, Bool, true, false, cond, ◌&&◌, Option, Some, None, nat_eq, arith}
use Rattle.std.specs.Prelude.{pos}
use Rattle.std.specs.Option.{option_or, option_and_then, option_map_or}
use Rattle.std.proofs.Math.Nat.{le_trans}
use Rattle.rm_val.specs.Val.{Val, int, counter, ticks}
use Rattle.rm_model.specs.Counting.{Counting}
use Rattle.rm_model.specs.Journal.{Journal, last_moment}
use Rattle.rm_model.specs.Alike.{HasSameColumns}
use Rattle.rm_model.specs.Cells.{cells_of}
use Rattle.rm_model.specs.ControlRows.{no_rows, is_absent, is_valid, set_value}
use Rattle.rm_status.specs.declared.row.Row.{Row}
use Rattle.rm_status.specs.Rows.{row_in, state_seen, columns_seen, AreControlRows}
use Rattle.rm_columns.specs.Values.{natural_in}
use Rattle.rm_status.specs.RowsShown.{with_index}
use Rattle.rm_status.specs.RowsAfter.{AreRowsAfter}
use Rattle.rm_status.proofs.KeptCellsLaws.{same_control_cells}
use Rattle.rm_ether.specs.declared.counter.Counter.{Counter}
use Rattle.rm_ether.specs.declared.counter.Counter.TheVariants.{Octets, Pkts}
use Rattle.rm_collect.specs.Rows.{IsKept}
use Rattle.rm_collect.specs.Collection.{kept}
use Rattle.rm_history.specs.declared.control_columns.ControlColumns.{ControlColumns}
use Rattle.rm_history.specs.declared.run.Run.{Run}
use Rattle.rm_history.specs.Columns.{control_columns, sample_columns, counter_in}
use Rattle.rm_history.specs.ControlColumns.{set_to, control_rows}
use Rattle.rm_history.specs.HistoryControl.{history_control, control_state, control_set, control_other, control_table, plan_of, counted_frames}
use Rattle.rm_history.specs.EtherHistory.{sample_entry, is_sample, sample_sum, sample_value, sample_table}
use Rattle.rm_history.specs.Buckets.{begin_of, complete_at, is_shown, utilization, bucket_sum}
use Rattle.rm_history.specs.BucketLaws.{closed_by, shown_tells}
use Rattle.rm_history.specs.Run.{kept_counter}
use Rattle.rm_pool.specs.declared.slot.Slot.{Slot}
use Rattle.rm_pool.specs.Slots.{part_in}
use Rattle.rm_nested.specs.NumberedRows.{shown_by, value_by, value_in}
use Rattle.rm_nested.proofs.NumberedTables.{same_numbered}
use Rattle.rm_history.specs.Shown.{granted_in, kept_other, rows_table, shows, bucket_value, runs_table}
use Rattle.rm_history.specs.Standing.{IsRun}
use Rattle.rm_history.specs.Collection.{history_cells, history_collection}
use Rattle.rm_status.proofs.RowFacts.{row_there}

-- historyControl
module _ (rows : List (Row ControlColumns)) (held : AreControlRows history_control rows) (journal : Journal) (is : AreRowsAfter history_control no_rows set_to rows journal) where
  module _ (i : ℕ) (row : Row ControlColumns) (here : row_in rows i ≡ Some row) where
    state_is : row.state ≡ control_state journal (i ∷ [])
    state_is = sym (ap state_seen here) ∙ is.alike.states i

    columns : HasSameColumns history_control (set_to row.columns) (set_value history_control no_rows journal (i ∷ []))
    columns =
        subst (λ (o : Option (Row ControlColumns)). HasSameColumns history_control (λ n. option_and_then (λ c. set_to c n) (columns_seen o)) (set_value history_control no_rows journal (i ∷ []))) here
        (is.alike.columns i (ap (λ o. is_absent (state_seen o)) here ∙ row_there history_control rows i row held here))

    requested_is : row.columns.requested ≡ natural_in (control_set journal (i ∷ []) 3)
    requested_is = ap natural_in columns.1.0.shown

  same_other : (column i : ℕ) (row : Row ControlColumns) → row_in rows i ≡ Some row → with_index (kept_other rows) column (i ∷ []) ≡ with_index (control_other journal) column (i ∷ [])
  same_other column i row here =
      ap (λ o. cond (nat_eq column 1) (int (pos i)) (int (pos (option_map_or (λ (r : Row ControlColumns). granted_in r.state r.columns.requested) o 0)))) here
      ∙ (λ d. cond (nat_eq column 1) (int (pos i)) (int (pos (granted_in (state_is i row here d) (requested_is i row here d)))))

  pub same_control : (name : List ℕ) → cells_of (rows_table rows) name ≡ cells_of (control_table journal) name
  same_control = same_control_cells history_control no_rows set_to rows held journal is control_columns (with_index (kept_other rows)) (with_index (control_other journal)) (λ i row here. row_there history_control rows i row held here) same_other

-- What a history shows, where it is that of a row after the journal.
module _ (settings : Counting) (journal : Journal) (now : ℕ) (later : last_moment journal ≤ now) (row : ℕ) (run : Run) (is : IsRun settings journal row run) where
  -- no bucket is closed that isn't complete
  closed_complete : run.closed ≤ complete_at run.plan now
  closed_complete = closed_by run.plan run.closed now run.some (le_trans is.reached later)

  module _ (bucket : ℕ) (shown : is_shown run.plan now bucket ≡ true) where
    -- a bucket that is shown isn't given up
    counts : (each : Counter) → kept_counter run bucket each ≡ sample_sum settings journal row bucket each
    counts each =
        let room = run.room in
        let fewer = run.fewer in
        let closed = closed_complete in
        let tells = shown_tells run.plan now bucket shown in
        is.keeps bucket each tells.0 (omega (arith, room, fewer, closed, tells.2))
        ∙ ap (λ plan. bucket_sum settings plan (counted_frames journal (row ∷ [])) bucket each) is.plan

    bucket_shows : (column : ℕ) → bucket_value row run bucket column ≡ sample_value settings journal row bucket column
    bucket_shows column = λ d.
        cond (nat_eq column 1) (int (pos row)) (cond (nat_eq column 2) (int (pos bucket)) (cond (nat_eq column 3) (ticks (begin_of (is.plan d) bucket / 10))
        (cond (nat_eq column 15) (int (pos (utilization (counts Pkts d) (counts Octets d) (is.plan d).seconds))) (counter (counts (counter_in column) d % 2 ^ 32)))))

-- etherHistory
module _ (runs : List (Slot Run)) (settings : Counting) (journal : Journal) (histories : (row : ℕ) → IsKept history_control IsRun settings journal row (part_in runs row)) (now : ℕ) (later : last_moment journal ≤ now) where
  abbrev shown_in : ℕ → ℕ → ℕ → Option Run → Option Val
  shown_in row bucket column o = cond (shown_by shows o now bucket) (Some (value_by bucket_value row o bucket column)) None

  abbrev shown_after : ℕ → ℕ → ℕ → Option Val
  shown_after row bucket column = cond (is_sample journal now row bucket) (Some (sample_value settings journal row bucket column)) None

  of_run : (row bucket : ℕ) (column : ℕ) (run : Run) → IsRun settings journal row run → (b : Bool) → is_shown run.plan now bucket ≡ b → cond b (Some (bucket_value row run bucket column)) None ≡ cond b (Some (sample_value settings journal row bucket column)) None
  of_run row bucket column run is true shown = ap Some (bucket_shows settings journal now later row run is bucket shown column)
  of_run row bucket column run is false shown = refl

  of_history : (row bucket : ℕ) (column : ℕ) (o : Option Run) → IsKept history_control IsRun settings journal row o → shown_in row bucket column o ≡ shown_after row bucket column
  of_history row bucket column None idle = sym (ap (λ b. cond (b && is_shown (plan_of journal (row ∷ [])) now bucket) (Some (sample_value settings journal row bucket column)) None) idle)
  of_history row bucket column (Some run) is =
      of_run row bucket column run is.1 (is_shown run.plan now bucket) refl
      ∙ sym (ap (λ b. cond b (Some (sample_value settings journal row bucket column)) None) is_there)
    where
      is_there : is_sample journal now row bucket ≡ is_shown run.plan now bucket
      is_there = ap (λ s. is_valid s && is_shown (plan_of journal (row ∷ [])) now bucket) is.0 ∙ ap (λ plan. is_shown plan now bucket) (sym is.1.plan)

  pub same_samples : (name : List ℕ) → cells_of (runs_table runs now) name ≡ cells_of (sample_table settings journal now) name
  same_samples =
      same_numbered sample_entry sample_columns (λ row bucket. shown_by shows (part_in runs row) now bucket) (value_in bucket_value runs) (is_sample journal now) (sample_value settings journal)
      (λ row bucket column. of_history row bucket column (part_in runs row) (histories row))

-- both
pub same_cells : (settings : Counting) (journal : Journal) (now : ℕ) (rows : List (Row ControlColumns)) (runs : List (Slot Run)) → AreControlRows history_control rows → AreRowsAfter history_control no_rows set_to rows journal
    → ((row : ℕ) → IsKept history_control IsRun settings journal row (part_in runs row)) → last_moment journal ≤ now → (name : List ℕ) → kept control_rows history_collection rows runs now name ≡ history_cells settings journal now name
unfolding history_collection
same_cells settings journal now rows runs held is histories later name = λ d. option_or (same_control rows held journal is name d) (same_samples runs settings journal histories now later name d)
