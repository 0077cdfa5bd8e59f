-- What the rows and the logs show is what the tables show after the journal.
use Rattle.std.proofs.Common.{◌≡◌, ℕ, zero, suc, ◌+◌, ◌-◌, ◌<◌, ◌≤◌, List, [], ◌∷◌, length, take, map, refl, sym, ◌∙◌, ap, subst, Bool, true, false, cond, ◌&&◌, Option, Some, None, nat_eq, arith}
use Rattle.std.specs.Prelude.{pos, slice_get, unwrap_or}
use Rattle.std.specs.Option.{option_or, option_map_or}
use Rattle.std.proofs.lemmas.Bool.Decides.{nat_tests}
use Rattle.rm_val.specs.Val.{Val, int, octets, ticks, null}
use Rattle.rm_model.specs.Counting.{Counting}
use Rattle.rm_model.specs.Journal.{Journal}
use Rattle.rm_model.specs.Cells.{cells_of, IsNext}
use Rattle.rm_model.specs.ControlRows.{no_rows, is_valid}
use Rattle.rm_status.specs.declared.row.Row.{Row}
use Rattle.rm_status.specs.Rows.{row_in, state_in, AreControlRows}
use Rattle.rm_status.specs.RowsShown.{with_index}
use Rattle.rm_status.specs.RowsAfter.{AreRowsAfter}
use Rattle.rm_status.proofs.KeptCellsLaws.{same_control_cells}
use Rattle.rm_event.specs.declared.log.Log.{Log}
use Rattle.rm_pool.specs.declared.slot.Slot.{Slot}
use Rattle.rm_event.specs.Columns.{event_columns, log_columns}
use Rattle.rm_event.specs.EventTable.{event_table, event_state, event_set, type_of}
use Rattle.rm_event.specs.declared.event_row.EventRow.{EventRow}
use Rattle.rm_event.specs.EventRows.{set_to}
use Rattle.rm_acts.specs.Fired.{firings}
use Rattle.rm_event.specs.Firings.{last_sent, tick_of, most_shown}
use Rattle.rm_event.specs.Tables.{event_other, events_table, log_entry, log_of, is_shown, time_at, is_entry, log_value, log_table}
use Rattle.rm_event.specs.Log.{IsLog, kept_time}
use Rattle.rm_pool.specs.Slots.{part_in}
use Rattle.rm_event.specs.Standing.{IsLogOf, AreLogs}
use Rattle.rm_nested.specs.NumberedRows.{shown_by, value_by, value_in}
use Rattle.rm_nested.proofs.NumberedTables.{same_numbered}
use Rattle.rm_event.specs.Shown.{sent_in, kept_other, rows_table, description_in, shows, entry_value, logs_table, cells_shown}
use Rattle.rm_status.proofs.Judged.{same_next}
use Rattle.rm_status.proofs.RowFacts.{row_there, valid_there, valid_columns}
use Rattle.rm_event.specs.Group.{event_cells}
use Rattle.rm_event.specs.Moments.{idle_firings}
use Rattle.rm_event.proofs.Fires.{description_is}

-- eventTable
module _ (rows : List (Row EventRow)) (held : AreControlRows event_table rows) (logs : List (Slot Log)) (settings : Counting) (journal : Journal)
    (is : AreRowsAfter event_table no_rows set_to rows journal) (are : AreLogs logs journal (firings settings journal)) where
  -- when an event fired last
  sent_is : (i : ℕ) → sent_in logs i ≡ last_sent (firings settings journal i)
  sent_is i = of_log (part_in logs i) (are i)
    where
      of_log : (o : Option Log) → IsLogOf (event_state journal (i ∷ [])) (type_of journal i) (firings settings journal i) o → option_map_or (λ log. log.sent) o 0 ≡ last_sent (firings settings journal i)
      of_log None idle = sym (ap last_sent (idle_firings settings journal i idle))
      of_log (Some log) it = it.1.sent

  same_other : (column i : ℕ) (row : Row EventRow) → row_in rows i ≡ Some row → with_index (kept_other logs) column (i ∷ []) ≡ with_index (event_other settings journal) column (i ∷ [])
  same_other column i row here = ap (λ s. cond (nat_eq column 1) (int (pos i)) (ticks s)) (sent_is i)

  same_events : (name : List ℕ) → cells_of (rows_table rows logs) name ≡ cells_of (events_table settings journal) name
  same_events = same_control_cells event_table no_rows set_to rows held journal is event_columns (with_index (kept_other logs)) (with_index (event_other settings journal)) (λ i row here. row_there event_table rows i row held here) same_other

  -- The entries of a log.

  times : (n k : ℕ) (moments : List ℕ) → k < n → unwrap_or (slice_get (map tick_of (take n moments)) k) 0 ≡ option_map_or tick_of (slice_get moments k) 0
  times zero k moments h = absurd (omega arith)
  times (suc n) k [] h = refl
  times (suc n) zero (moment ∷ moments) h = refl
  times (suc n) (suc k) (moment ∷ moments) h = times n k moments (omega arith)

  module _ (i : ℕ) (kept : Log) (valid : is_valid (event_state journal (i ∷ [])) ≡ true) (it : IsLog kept (type_of journal i) (firings settings journal i)) where
    description_there : description_in rows i ≡ event_set journal (i ∷ []) 2
    description_there =
        let right : is_valid (state_in rows i) ≡ true = ap is_valid (is.alike.states i) ∙ valid in
        let columns = valid_columns rows i right in
        ap (λ o. option_map_or (λ (c : EventRow). octets c.description.items) o null) columns.1
        ∙ description_is rows journal is i columns.0 columns.1 (valid_there (state_in rows i) right)

    time_is : (number : ℕ) → is_shown kept.added number ≡ true → kept_time kept number ≡ time_at (log_of settings journal i) number
    time_is number shown =
        ap (λ l. unwrap_or (slice_get l (kept.added - number)) 0) it.ring
        ∙ ap (λ n. unwrap_or (slice_get (map tick_of (take most_shown (log_of settings journal i))) (n - number)) 0) it.added
        ∙ times most_shown (length (log_of settings journal i) - number) (log_of settings journal i) (near (length (log_of settings journal i)) (subst (λ n. is_shown n number ≡ true) it.added shown))
      where
        near : (entries : ℕ) → is_shown entries number ≡ true → entries - number < 32
        near entries h = let low : entries < number + 32 = grind (arith, nat_tests) in let high : number ≤ entries = grind (arith, nat_tests) in omega (arith, low, high)

    entry_shows : (number : ℕ) → is_shown kept.added number ≡ true → (column : ℕ) → entry_value rows i kept number column ≡ log_value settings journal i number column
    entry_shows number shown column = λ d. cond (nat_eq column 1) (int (pos i)) (cond (nat_eq column 2) (int (pos number)) (cond (nat_eq column 3) (ticks (time_is number shown d)) (description_there d)))

  abbrev shown_after : ℕ → ℕ → ℕ → Option Val
  shown_after i number column = cond (is_entry settings journal i number) (Some (log_value settings journal i number column)) None

  of_shown : (i number : ℕ) (column : ℕ) (kept : Log) → is_valid (event_state journal (i ∷ [])) ≡ true → IsLog kept (type_of journal i) (firings settings journal i) → (b : Bool) → is_shown kept.added number ≡ b → cond b (Some (entry_value rows i kept number column)) None ≡ cond b (Some (log_value settings journal i number column)) None
  of_shown i number column kept valid it true shown = ap Some (entry_shows i kept valid it number shown column)
  of_shown i number column kept valid it false shown = refl

  of_log : (i number : ℕ) (column : ℕ) (o : Option Log) → IsLogOf (event_state journal (i ∷ [])) (type_of journal i) (firings settings journal i) o
      → cond (shown_by shows o 0 number) (Some (value_by (entry_value rows) i o number column)) None ≡ shown_after i number column
  of_log i number column None idle = sym (ap (λ b. cond (b && is_shown (length (log_of settings journal i)) number) (Some (log_value settings journal i number column)) None) idle)
  of_log i number column (Some kept) it =
      of_shown i number column kept it.0 it.1 (is_shown kept.added number) refl
      ∙ sym (ap (λ b. cond b (Some (log_value settings journal i number column)) None) entry_is)
    where
      entry_is : is_entry settings journal i number ≡ is_shown kept.added number
      entry_is = ap (λ b. b && is_shown (length (log_of settings journal i)) number) it.0 ∙ ap (λ n. is_shown n number) (sym it.1.added)

  same_entries : (name : List ℕ) → cells_of (logs_table rows logs) name ≡ cells_of (log_table settings journal) name
  same_entries =
      same_numbered log_entry log_columns (λ i number. shown_by shows (part_in logs i) 0 number) (value_in (entry_value rows) logs) (is_entry settings journal) (log_value settings journal)
      (λ i number column. of_log i number column (part_in logs i) (are i))

  pub same_cells : (name : List ℕ) → cells_shown rows logs name ≡ event_cells settings journal name
  same_cells name = λ d. option_or (same_events name d) (same_entries name d)

  -- what is next among the cells that are shown is next among those of the journal
  pub next_cell : (asked found : List ℕ) (value : Option Val) → IsNext (cells_shown rows logs) asked value found → IsNext (event_cells settings journal) asked value found
  next_cell = same_next (cells_shown rows logs) (event_cells settings journal) same_cells
