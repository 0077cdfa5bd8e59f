-- What the channels that are kept show is what channelTable shows after the journal.
use Rattle.std.proofs.Common.{◌≡◌, ℕ, ◌%◌, ◌^◌, List, [], ◌∷◌, true, false, cond, not, Option, Some, None, refl, sym, ap, ◌∙◌, nat_eq}
use Rattle.std.specs.Prelude.{pos, is_some}
use Rattle.std.specs.Option.{option_map_or}
use Rattle.std.proofs.lemmas.Option.{same_Some}
use Rattle.rm_val.specs.Val.{Val, int, counter}
use Rattle.rm_model.specs.Counting.{Counting}
use Rattle.rm_model.specs.Journal.{Journal}
use Rattle.rm_model.specs.Cells.{Table, behind, cells_of, cell_at, instance_left, is_one_of, IsNext}
use Rattle.rm_model.specs.ControlRows.{no_rows, is_absent, state_of}
use Rattle.rm_model.specs.ControlCells.{control_cells}
use Rattle.rm_status.specs.declared.row.Row.{Row}
use Rattle.rm_status.specs.Rows.{AreControlRows, columns_seen, row_in, row_number}
use Rattle.rm_status.specs.Indexes.{is_index_in}
use Rattle.rm_status.specs.RowsShown.{with_index}
use Rattle.rm_status.specs.RowsAfter.{AreRowsAfter}
use Rattle.rm_status.proofs.Judged.{same_next}
use Rattle.rm_status.proofs.KeptCellsLaws.{same_control_cells}
use Rattle.rm_status.proofs.RowFacts.{row_there}
use Rattle.rm_status.proofs.RowsAfterLemmas.{is_row_after}
use Rattle.rm_acts.specs.Channels.{channel_entry, channel_table, match_count}
use Rattle.rm_acts.specs.Fired.{fired, present, data_control, event_status}
use Rattle.rm_acts.specs.Shown.{natural, row_of, channel_shown, channels_shown}
use Rattle.rm_filter.specs.declared.channel.Channel.{Channel}
use Rattle.rm_filter.specs.ChannelForm.{set_to}
use Rattle.rm_filter.specs.ChannelRows.{channel_columns}
use Rattle.rm_filter.specs.DataControl.{control_number}
use Rattle.rm_filter.specs.EventStatus.{status_number}
use Rattle.rm_filter.specs.Shown.{kept_other, control_in, status_in, present_value, set_kept, channels_kept}
use Rattle.rm_filter.specs.Tables.{ArePresent}
use Rattle.rm_filter.proofs.OneOf.{each_of}

module _ (rows : List (Row Channel)) (held : AreControlRows channel_table rows) (settings : Counting) (journal : Journal)
    (is : AreRowsAfter channel_table no_rows set_to rows journal) (are : ArePresent rows settings journal (fired settings journal)) where
  -- the table by what was set
  abbrev other_after : ℕ → List ℕ → Val
  other_after column index = counter (match_count settings journal (row_of index) % 2 ^ 32)

  abbrev set_after : Table
  set_after = control_cells channel_table no_rows channel_columns (with_index other_after) journal

  same_other : (column i : ℕ) (row : Row Channel) → row_in rows i ≡ Some row → with_index (kept_other rows) column (i ∷ []) ≡ with_index other_after column (i ∷ [])
  same_other column i row here =
      ap (λ n. cond (nat_eq column 1) (int (pos i)) (counter n))
      (ap (λ o. option_map_or (λ (r : Row Channel). r.columns.matches) o 0) here ∙ (are i row here).matches)

  same_set : (name : List ℕ) → cells_of (set_kept rows) name ≡ cells_of set_after name
  same_set = same_control_cells channel_table no_rows set_to rows held journal is channel_columns (with_index (kept_other rows)) (with_index other_after) (λ i row here. row_there channel_table rows i row held here) same_other

  -- what a column shows by what was set, and with what is present in its place
  abbrev over : ℕ → ℕ → Val → Val
  over column i value =
      cond (nat_eq column 4) (natural (present data_control journal (fired settings journal) i))
      (cond (nat_eq column 8) (natural (present event_status journal (fired settings journal) i)) value)

  over_is : (i column : ℕ) → is_one_of channel_columns column ≡ true → over column i (set_after.value column (i ∷ [])) ≡ channel_shown settings journal column (i ∷ [])
  over_is i = each_of (λ column. over column i (set_after.value column (i ∷ [])) ≡ channel_shown settings journal column (i ∷ [])) channel_columns
      (refl, (refl, (refl, (refl, (refl, (refl, (refl, (refl, (refl, (refl, (refl, (refl, tt))))))))))))

  present_is : (column i : ℕ) (row : Row Channel) → row_in rows i ≡ Some row → (value : Val) → present_value rows column i value ≡ over column i value
  present_is column i row here value =
      let control : control_in rows i ≡ present data_control journal (fired settings journal) i = ap (λ o. option_map_or (λ (c : Channel). control_number c.control) (columns_seen o) 0) here ∙ (are i row here).control in
      let status : status_in rows i ≡ present event_status journal (fired settings journal) i = ap (λ o. option_map_or (λ (c : Channel). status_number c.status) (columns_seen o) 0) here ∙ (are i row here).status in
      λ d. cond (nat_eq column 4) (int (pos (control d))) (cond (nat_eq column 8) (int (pos (status d))) value)

  module _ (column : ℕ) (among : is_one_of channel_columns column ≡ true) where
    of_row : (i : ℕ) (o : Option (Row Channel)) → row_in rows i ≡ o
        → cond (is_some o) (Some ((set_kept rows).value column (i ∷ []))) None ≡ cond (is_some o) (Some (set_after.value column (i ∷ []))) None
        → cond (is_some o) (Some (present_value rows column i ((set_kept rows).value column (i ∷ [])))) None ≡ cond (is_some o) (Some (channel_shown settings journal column (i ∷ []))) None
    of_row i None here same = refl
    of_row i (Some row) here same =
        let value : (set_kept rows).value column (i ∷ []) ≡ set_after.value column (i ∷ []) = same_Some _ _ same in
        ap Some (present_is column i row here ((set_kept rows).value column (i ∷ [])) ∙ ap (over column i) value ∙ over_is i column among)

    of_index : (index : List ℕ)
        → cond (is_index_in channel_table rows index) (Some ((set_kept rows).value column index)) None ≡ cond (is_index_in channel_table rows index) (Some (set_after.value column index)) None
        → cond (is_index_in channel_table rows index) (Some (present_value rows column (row_number index) ((set_kept rows).value column index))) None
        ≡ cond (is_index_in channel_table rows index) (Some (channel_shown settings journal column index)) None
    of_index [] same = refl
    of_index (i ∷ []) same = of_row i (row_in rows i) refl same
    of_index (i ∷ next ∷ more) same = refl

    at_index : (index : List ℕ) → cell_at (set_kept rows) (Some (record { column = column; index = index })) ≡ cell_at set_after (Some (record { column = column; index = index }))
        → cell_at (channels_kept rows) (Some (record { column = column; index = index })) ≡ cell_at (channels_shown settings journal) (Some (record { column = column; index = index }))
    at_index index same =
        let row_is : not (is_absent (state_of channel_table no_rows journal index)) ≡ is_index_in channel_table rows index = is_row_after channel_table no_rows set_to rows journal held is index in
        of_index index (same ∙ ap (λ b. cond b (Some (set_after.value column index)) None) row_is)
        ∙ sym (ap (λ b. cond b (Some (channel_shown settings journal column index)) None) row_is)

  of_left : (left : Option (List ℕ)) → cell_at (set_kept rows) (instance_left channel_columns left) ≡ cell_at set_after (instance_left channel_columns left)
      → cell_at (channels_kept rows) (instance_left channel_columns left) ≡ cell_at (channels_shown settings journal) (instance_left channel_columns left)
  of_left None same = refl
  of_left (Some []) same = refl
  of_left (Some (column ∷ index)) same =
      elim (is_one_of channel_columns column) as (λ t. is_one_of channel_columns column ≡ t
      → cell_at (set_kept rows) (cond t (Some (record { column = column; index = index })) None) ≡ cell_at set_after (cond t (Some (record { column = column; index = index })) None)
      → cell_at (channels_kept rows) (cond t (Some (record { column = column; index = index })) None) ≡ cell_at (channels_shown settings journal) (cond t (Some (record { column = column; index = index })) None)) [
        | true ↦ λ among is_same. at_index column among index is_same
        | false ↦ λ _ _. refl
      ] refl same

  pub same_cells : (name : List ℕ) → cells_of (channels_kept rows) name ≡ cells_of (channels_shown settings journal) name
  same_cells name = of_left (behind channel_entry name) (same_set name)

  pub next_cell : (asked found : List ℕ) (value : Option Val) → IsNext (cells_of (channels_kept rows)) asked value found → IsNext (cells_of (channels_shown settings journal)) asked value found
  next_cell = same_next (cells_of (channels_kept rows)) (cells_of (channels_shown settings journal)) same_cells
