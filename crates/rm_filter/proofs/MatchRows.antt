-- The rows of channelTable by what they were set to.
use Rattle.std.proofs.Common.{◌≡◌, ℕ, List, Bool, true, cond, ◌&&◌, Some, None, map, option_map, refl, sym, ap, ◌∙◌}
use Rattle.rm_model.specs.Counting.{Counting}
use Rattle.rm_model.specs.Journal.{Frame, Journal}
use Rattle.rm_model.specs.ControlRows.{no_rows, is_valid}
use Rattle.rm_status.specs.declared.row.Row.{Row}
use Rattle.rm_status.specs.Rows.{row_in, state_in, columns_in, state_seen, columns_seen}
use Rattle.rm_status.specs.RowsAfter.{AreRowsAfter}
use Rattle.rm_status.proofs.RowEdits.{row_in-map}
use Rattle.rm_status.proofs.RowsBefore.{after_alike, changed_before}
use Rattle.rm_acts.specs.Channels.{channel_table, accepts}
use Rattle.rm_filter.specs.declared.channel.Channel.{Channel}
use Rattle.rm_filter.specs.declared.channel_row.ChannelRow.{ChannelRow}
use Rattle.rm_filter.specs.ChannelForm.{set_to}
use Rattle.rm_filter.specs.ChannelRows as row
use Rattle.rm_filter.specs.Judging.{accepted_by, judged}

abbrev pub set_row : Row Channel → Row ChannelRow
set_row row = record { index = row.index; state = row.state; columns = row.columns.set }

module _ (rows : List (Row Channel)) where
  set_in : (i : ℕ) → row_in (map set_row rows) i ≡ option_map set_row (row_in rows i)
  set_in = row_in-map set_row (λ r. refl) rows

  pub set_rows_after : (journal : Journal) → AreRowsAfter channel_table no_rows set_to rows journal → AreRowsAfter channel_table no_rows row.set_to (map set_row rows) journal
  set_rows_after journal is =
      after_alike channel_table no_rows set_to row.set_to rows (map set_row rows) journal
      (changed_before channel_table set_to row.set_to set_row (λ r. refl) (λ r n. refl) rows (map set_row rows) set_in) is

  -- a valid channel is judged by what it was set to
  pub judged_by_set : (settings : Counting) (journal : Journal) (frame : Frame) (channel : Row Channel) → row_in rows channel.index ≡ Some channel → is_valid channel.state ≡ true → (b : Bool)
      → (is_valid (state_in (map set_row rows) channel.index) ≡ true → columns_in (map set_row rows) channel.index ≡ Some channel.columns.set → b ≡ accepts settings journal channel.index frame)
      → cond b (Some (accepted_by channel)) None ≡ judged settings journal frame channel
  judged_by_set settings journal frame channel here valid b found =
      let same : row_in (map set_row rows) channel.index ≡ Some (set_row channel) = set_in channel.index ∙ ap (option_map set_row) here in
      ap (λ t. cond t (Some (accepted_by channel)) None) (found (ap (λ o. is_valid (state_seen o)) same ∙ valid) (ap columns_seen same))
      ∙ sym (ap (λ t. cond (t && accepts settings journal channel.index frame) (Some (accepted_by channel)) None) valid)
