-- That rows and buffers show what bufferControlTable and captureBufferTable have after a journal.
use Rattle.std.proofs.Common.{◌≡◌, ℕ, zero, suc, ◌-◌, ◌/◌, List, [], ◌∷◌, map, filter, length, reverse, Bool, true, false, cond, ◌&&◌, nat_eq, nat_le, nat_lt, Option, Some, None, refl, sym, ap, ◌∙◌, subst, option_map}
use Rattle.std.specs.Prelude.{pos, is_some, slice_get}
use Rattle.std.specs.Option.{option_or, option_and_then, option_map_or}
use Rattle.std.proofs.lemmas.List.{length-map, length-reverse}
use Rattle.rm_val.specs.Val.{Val, int, octets, ticks, null}
use Rattle.rm_model.specs.Counting.{Counting}
use Rattle.rm_model.specs.Journal.{Journal}
use Rattle.rm_model.specs.Alike.{HasSameColumns}
use Rattle.rm_model.specs.FrameFacts.{frame_facts}
use Rattle.rm_model.specs.Cells.{Table, behind, cells_of, cell_at, instance_left, is_one_of}
use Rattle.rm_model.specs.ControlCells.{control_cells}
use Rattle.rm_model.specs.ControlRows.{no_rows, is_absent, is_valid, state_of, set_value, index_value, activated}
use Rattle.rm_model.specs.declared.row.State.TheVariants.{Absent, Valid}
use Rattle.rm_status.specs.declared.row.Row.{Row}
use Rattle.rm_status.specs.Rows.{row_in, state_seen, columns_seen, columns_in, AreControlRows}
use Rattle.rm_status.specs.RowsShown.{rows_shown, with_index}
use Rattle.rm_status.specs.RowsAfter.{AreRowsAfter}
use Rattle.rm_status.proofs.KeptCellsLaws.{same_control_cells}
use Rattle.rm_status.proofs.RowFacts.{row_there}
use Rattle.rm_pool.specs.declared.slot.Slot.{Slot}
use Rattle.rm_pool.specs.Slots.{part_in}
use Rattle.rm_nested.specs.NumberedRows.{shown_by, value_by, value_in}
use Rattle.rm_nested.proofs.NumberedTables.{same_numbered}
use Rattle.rm_acts.specs.Rows.{number_in}
use Rattle.rm_acts.specs.Seen.{Seen}
use Rattle.rm_acts.specs.Buffers.{Packet, buffer_entry, buffer_table, captures, does_wrap, slice_of, cost_of, granted_of, numbered, kept_of, kept_by, full_status}
use Rattle.rm_acts.specs.Shown.{natural, row_of, while_valid, buffer_shown, buffers_shown}
use Rattle.rm_ring.specs.Kept.{Stored}
use Rattle.rm_collect.specs.Rows.{IsKept}
use Rattle.rm_collect.specs.Sampled.{never_activated, never_seen}
use Rattle.rm_filter.proofs.OneOf.{each_of}
use Rattle.rm_capture.specs.declared.buffer.Buffer.{Buffer}
use Rattle.rm_capture.specs.declared.buffer_row.BufferRow.{BufferRow}
use Rattle.rm_capture.specs.declared.captured.PacketInfo.{PacketInfo}
use Rattle.rm_capture.specs.Captured.{stored_of}
use Rattle.rm_capture.specs.BufferRows.{set_to, buffer_columns, buffer_rows}
use Rattle.rm_capture.specs.BufferColumns.{size_is, offset_is}
use Rattle.rm_capture.specs.Downloads.{downloaded}
use Rattle.rm_capture.specs.Kept.{oldest, oldest_in, packet_with}
use Rattle.rm_capture.specs.Numbers.{Rise, numbered_long, kept_rise, found_is}
use Rattle.rm_capture.specs.Taking.{frames_accepted, IsBuffer}
use Rattle.rm_capture.specs.PacketTable.{packet_entry, packet_columns, integer, packets_kept, packet_of, is_packet, packet_shown, packet_at, packet_table, buffer_cells}
use Rattle.rm_capture.specs.BufferShown.{status_number, other_of, kept_other, shows, data_shown, stored_shown, packet_value, packets_shown}
use Rattle.rm_capture.specs.ShownLaws.{shown_is}

-- of no packets none is kept
none_kept : (is_wrap : Bool) (cost : Packet → ℕ) (most : ℕ) → kept_of is_wrap cost most [] ≡ []
none_kept true cost most = refl
none_kept false cost most = refl

module _ (settings : Counting) (journal : Journal) (row : ℕ) where
  abbrev cost : Packet → ℕ
  cost packet = cost_of (slice_of journal row) packet.frame

  abbrev kept_seen : List Seen → List Packet
  kept_seen seen = kept_of (does_wrap journal row) cost (granted_of journal row) (numbered (map (λ (s : Seen). s.frame) (filter (captures settings row) seen)))

  abbrev all_seen : List Seen → List Packet
  all_seen seen = numbered (map (λ (s : Seen). s.frame) (filter (captures settings row) seen))

  -- a row that isn't valid
  module _ (idle : is_valid (state_of buffer_table no_rows journal (row ∷ [])) ≡ false) where
    none : kept_by settings journal row ≡ []
    none = ap kept_seen (never_seen buffer_table (row ∷ []) journal idle) ∙ none_kept (does_wrap journal row) cost (granted_of journal row)

    not_full : full_status settings journal row ≡ 1
    not_full = λ d. cond (nat_lt (length (none d)) (length (all_seen (never_seen buffer_table (row ∷ []) journal idle d)))) 2 1

    not_granted : while_valid (is_valid (state_of buffer_table no_rows journal (row ∷ []))) (granted_of journal row) ≡ 0
    not_granted = ap (λ b. while_valid b (granted_of journal row)) idle

    not_started : activated buffer_table no_rows journal (row ∷ []) ≡ 0
    not_started = never_activated buffer_table (row ∷ []) journal idle

  -- the buffer of a row that is valid
  module _ (buffer : Buffer) (valid : state_of buffer_table no_rows journal (row ∷ []) ≡ Valid) (is : IsBuffer settings journal row buffer) where
    count_is : length buffer.captured.ring.packets ≡ length (kept_by settings journal row)
    count_is =
        ap length is.kept.packets ∙ length-map (reverse (kept_by settings journal row)) (stored_of settings (slice_of journal row)) ∙ length-reverse (kept_by settings journal row)

    full_is : status_number buffer.captured.lost ≡ full_status settings journal row
    full_is =
        ap status_number is.kept.some_lost
        ∙ ap (λ n. status_number (nat_lt (length (kept_by settings journal row)) n)) (sym (numbered_long (frames_accepted settings journal row)))

    granted_same : buffer.granted ≡ while_valid (is_valid (state_of buffer_table no_rows journal (row ∷ []))) (granted_of journal row)
    granted_same = is.granted ∙ sym (ap (λ s. while_valid (is_valid s) (granted_of journal row)) valid)

-- bufferControlTable
module _ (settings : Counting) (journal : Journal) where
  -- the columns beside the index that can't be set
  abbrev other_after : ℕ → List ℕ → Val
  other_after column index =
      cond (nat_eq column 3) (natural (full_status settings journal (row_of index)))
      (cond (nat_eq column 9) (natural (while_valid (is_valid (state_of buffer_table no_rows journal index)) (granted_of journal (row_of index))))
      (cond (nat_eq column 11) (ticks (activated buffer_table no_rows journal index / 10)) (natural (length (kept_by settings journal (row_of index))))))

  other_is : (column row : ℕ) (o : Option Buffer) → IsKept buffer_table IsBuffer settings journal row o → other_of column o ≡ other_after column (row ∷ [])
  other_is column row None idle = sym (λ d.
      cond (nat_eq column 3) (natural (not_full settings journal row idle d))
      (cond (nat_eq column 9) (natural (not_granted settings journal row idle d))
      (cond (nat_eq column 11) (ticks (not_started settings journal row idle d / 10)) (natural (length (none settings journal row idle d))))))
  other_is column row (Some buffer) kept = λ d.
      cond (nat_eq column 3) (natural (full_is settings journal row buffer kept.0 kept.1 d))
      (cond (nat_eq column 9) (natural (granted_same settings journal row buffer kept.0 kept.1 d))
      (cond (nat_eq column 11) (ticks (kept.1.started d / 10)) (natural (count_is settings journal row buffer kept.0 kept.1 d))))

  abbrev set_after : Table
  set_after = control_cells buffer_table no_rows buffer_columns (with_index other_after) journal

  value_is : (index : List ℕ) (column : ℕ) → is_one_of buffer_columns column ≡ true → set_after.value column index ≡ buffer_shown settings journal column index
  value_is index = each_of (λ column. set_after.value column index ≡ buffer_shown settings journal column index) buffer_columns
      (refl, (refl, (refl, (refl, (refl, (refl, (refl, (refl, (refl, (refl, (refl, (refl, (refl, tt)))))))))))))

  of_left : (left : Option (List ℕ)) → cell_at set_after (instance_left buffer_columns left) ≡ cell_at (buffers_shown settings journal) (instance_left buffer_columns left)
  of_left None = refl
  of_left (Some []) = refl
  of_left (Some (column ∷ index)) =
      elim (is_one_of buffer_columns column) as (λ t. is_one_of buffer_columns column ≡ t
      → cell_at set_after (cond t (Some (record { column = column; index = index })) None) ≡ cell_at (buffers_shown settings journal) (cond t (Some (record { column = column; index = index })) None)) [
        | true ↦ λ among. ap (λ v. cond (set_after.is_row index) (Some v) None) (value_is index column among)
        | false ↦ λ _. refl
      ] refl

  module _ (rows : List (Row BufferRow)) (buffers : List (Slot Buffer)) (held : AreControlRows buffer_table rows) (is : AreRowsAfter buffer_table no_rows set_to rows journal)
      (are : (row : ℕ) → IsKept buffer_table IsBuffer settings journal row (part_in buffers row)) where
    same_other : (column row : ℕ) (at : Row BufferRow) → row_in rows row ≡ Some at → with_index (kept_other buffers) column (row ∷ []) ≡ with_index other_after column (row ∷ [])
    same_other column row at here = ap (λ v. cond (nat_eq column 1) (index_value (row ∷ [])) v) (other_is column row (part_in buffers row) (are row))

    pub same_control : (name : List ℕ) → cells_of (rows_shown buffer_rows (kept_other buffers) rows) name ≡ cells_of (buffers_shown settings journal) name
    same_control name =
        same_control_cells buffer_table no_rows set_to rows held journal is buffer_columns (with_index (kept_other buffers)) (with_index other_after) (λ row at here. row_there buffer_table rows row at held here) same_other name
        ∙ of_left (behind buffer_entry name)

-- captureBufferTable

get_map : {A B : Type 0} (f : A → B) (xs : List A) (k : ℕ) → slice_get (map f xs) k ≡ option_map f (slice_get xs k)
get_map f [] k = refl
get_map f (x ∷ xs) zero = refl
get_map f (x ∷ xs) (suc k) = get_map f xs k

module _ (settings : Counting) (journal : Journal) (row : ℕ) (buffer : Buffer) (valid : state_of buffer_table no_rows journal (row ∷ []) ≡ Valid) (is : IsBuffer settings journal row buffer) where
  abbrev stored : Packet → Stored PacketInfo
  stored = stored_of settings (slice_of journal row)

  abbrev kept : List Packet
  kept = packets_kept settings journal row

  abbrev first : ℕ
  first = oldest buffer.captured.action (length (frames_accepted settings journal row)) (length (kept_by settings journal row))

  rises : Rise first kept
  rises =
      subst (λ w. Rise (oldest buffer.captured.action (length (frames_accepted settings journal row)) (length (kept_of w (cost settings journal row) (granted_of journal row) (numbered (frames_accepted settings journal row)))))
      (reverse (kept_of w (cost settings journal row) (granted_of journal row) (numbered (frames_accepted settings journal row))))) is.kept.action
      (kept_rise (cost settings journal row) buffer.captured.action (granted_of journal row) (frames_accepted settings journal row))

  first_is : oldest_in buffer.captured ≡ first
  first_is = λ d. oldest buffer.captured.action (is.kept.count d) (count_is settings journal row buffer valid is d)

  -- the packet with a number
  pub packet_is : (number : ℕ) → packet_with buffer.captured number ≡ option_map stored (packet_of settings journal row number)
  packet_is number =
      (λ d. cond (nat_le (first_is d) number) (slice_get (is.kept.packets d) (number - first_is d)) None)
      ∙ ap (λ o. cond (nat_le first number) o None) (get_map stored kept (number - first))
      ∙ inside (nat_le first number) (slice_get kept (number - first))
      ∙ ap (option_map stored) (sym (found_is first number kept rises))
    where
      inside : (t : Bool) (o : Option Packet) → cond t (option_map stored o) None ≡ option_map stored (cond t o None)
      inside true o = refl
      inside false o = refl

module _ (settings : Counting) (journal : Journal) (rows : List (Row BufferRow)) (is : AreRowsAfter buffer_table no_rows set_to rows journal) (held : AreControlRows buffer_table rows) where
  -- the columns of a valid row say which octets are shown
  data_of : (row : ℕ) → state_of buffer_table no_rows journal (row ∷ []) ≡ Valid → (o : Option (Row BufferRow)) → row_in rows row ≡ o → (octs : List ℕ)
      → data_shown (columns_seen o) octs ≡ octets (downloaded (number_in buffer_table journal row 7) (number_in buffer_table journal row 6) octs)
  data_of row valid None e octs =
      let absent : Absent ≡ Valid = sym (ap state_seen e) ∙ is.alike.states row ∙ valid in
      absurd (cc)
  data_of row valid (Some at) e octs =
      let columns : HasSameColumns buffer_table (set_to at.columns) (set_value buffer_table no_rows journal (row ∷ [])) = same at e in
      λ d. octets (downloaded (offset_is at.columns (set_value buffer_table no_rows journal (row ∷ [])) columns d) (size_is at.columns (set_value buffer_table no_rows journal (row ∷ [])) columns d) octs)
    where
      same : (at : Row BufferRow) → row_in rows row ≡ Some at → HasSameColumns buffer_table (set_to at.columns) (set_value buffer_table no_rows journal (row ∷ []))
      same at here =
          subst (λ (o : Option (Row BufferRow)). HasSameColumns buffer_table (λ n. option_and_then (λ c. set_to c n) (columns_seen o)) (set_value buffer_table no_rows journal (row ∷ []))) here
          (is.alike.columns row (ap (λ o. is_absent (state_seen o)) here ∙ row_there buffer_table rows row at held here))

  module _ (row : ℕ) (buffer : Buffer) (valid : state_of buffer_table no_rows journal (row ∷ []) ≡ Valid) (kept : IsBuffer settings journal row buffer) (column : ℕ) where
    stored_is : (packet : Packet) → stored_shown (columns_in rows row) row buffer.started column (stored_of settings (slice_of journal row) packet) ≡ packet_shown settings journal row column packet
    stored_is packet = λ d.
        cond (nat_eq column 1) (int (pos row))
        (cond (nat_eq column 2) (integer packet.number)
        (cond (nat_eq column 3) (integer packet.frame.number)
        (cond (nat_eq column 4) (data_of row valid (row_in rows row) refl (stored_of settings (slice_of journal row) packet).octets d)
        (cond (nat_eq column 5) (integer (frame_facts settings packet.frame).length)
        (cond (nat_eq column 6) (integer (packet.frame.moment - kept.started d)) (int (pos (frame_facts settings packet.frame).status)))))))

    abbrev if_stored : Option (Stored PacketInfo) → Option Val
    if_stored o = cond (is_some o) (Some (option_map_or (stored_shown (columns_in rows row) row buffer.started column) o null)) None

    if_kept : (o : Option Packet) → if_stored (option_map (stored_of settings (slice_of journal row)) o) ≡ cond (is_some o) (Some (option_map_or (packet_shown settings journal row column) o null)) None
    if_kept None = refl
    if_kept (Some packet) = ap Some (stored_is packet)

    -- the packet that there may be with a number
    packet_same : (number : ℕ) → cond (shows buffer 0 number) (Some (packet_value rows row buffer number column)) None
        ≡ cond (is_packet settings journal row number) (Some (packet_at settings journal row number column)) None
    packet_same number =
        ap (λ t. cond t (Some (packet_value rows row buffer number column)) None) (sym (shown_is buffer 0 number))
        ∙ ap if_stored (packet_is settings journal row buffer valid kept number)
        ∙ if_kept (packet_of settings journal row number)
        ∙ sym (ap (λ s. cond (is_valid s && is_some (packet_of settings journal row number)) (Some (packet_at settings journal row number column)) None) valid)

  module _ (buffers : List (Slot Buffer)) (are : (row : ℕ) → IsKept buffer_table IsBuffer settings journal row (part_in buffers row)) where
    of_buffer : (row number column : ℕ) (o : Option Buffer) → IsKept buffer_table IsBuffer settings journal row o
        → cond (shown_by shows o 0 number) (Some (value_by (packet_value rows) row o number column)) None
        ≡ cond (is_packet settings journal row number) (Some (packet_at settings journal row number column)) None
    of_buffer row number column None idle =
        sym (ap (λ b. cond (b && is_some (packet_of settings journal row number)) (Some (packet_at settings journal row number column)) None) idle)
    of_buffer row number column (Some buffer) kept = packet_same row buffer kept.0 kept.1 column number

    pub same_packets : (name : List ℕ) → cells_of (packets_shown rows buffers) name ≡ cells_of (packet_table settings journal) name
    same_packets =
        same_numbered packet_entry packet_columns (λ row number. shown_by shows (part_in buffers row) 0 number) (value_in (packet_value rows) buffers) (is_packet settings journal) (packet_at settings journal)
        (λ row number column. of_buffer row number column (part_in buffers row) (are row))

-- both
pub same_cells : (settings : Counting) (journal : Journal) (rows : List (Row BufferRow)) (buffers : List (Slot Buffer)) → AreControlRows buffer_table rows → AreRowsAfter buffer_table no_rows set_to rows journal
    → ((row : ℕ) → IsKept buffer_table IsBuffer settings journal row (part_in buffers row)) → (name : List ℕ)
    → option_or (cells_of (rows_shown buffer_rows (kept_other buffers) rows) name) (cells_of (packets_shown rows buffers) name) ≡ buffer_cells settings journal name
same_cells settings journal rows buffers held is are name =
    λ d. option_or (same_control settings journal rows buffers held is are name d) (same_packets settings journal rows is held buffers are name d)
