-- What the rows show is what the tables show after the journal.
use Rattle.std.proofs.Common.{◌≡◌, ℕ, ◌/◌, List, [], ◌∷◌, Bool, true, false, cond, ◌&&◌, nat_eq, Option, Some, None, is_some, option_map, refl, sym, ap, ◌∙◌}
use Rattle.std.specs.Option.{option_and_then, option_map_or, option_or}
use Rattle.rm_val.specs.Val.{Val, counter, ticks}
use Rattle.rm_model.specs.Counting.{Counting}
use Rattle.rm_model.specs.Journal.{Journal, moment_of}
use Rattle.rm_model.specs.Cells.{cells_of, IsNext}
use Rattle.rm_model.specs.ControlRows.{no_rows, activated, is_valid}
use Rattle.rm_status.specs.declared.row.Row.{Row}
use Rattle.rm_status.specs.Rows.{row_in, columns_seen, state_seen, AreControlRows}
use Rattle.rm_status.specs.RowsAfter.{AreRowsAfter}
use Rattle.rm_status.specs.RowsShown.{with_index}
use Rattle.rm_status.proofs.Judged.{same_next}
use Rattle.rm_status.proofs.KeptCellsLaws.{same_control_cells}
use Rattle.rm_status.proofs.RowFacts.{row_there}
use Rattle.rm_nested.proofs.NumberedTables.{same_numbered}
use Rattle.rm_dist.specs.declared.count.Count.{Count}
use Rattle.rm_dist.specs.declared.row.DistributionRow.{DistributionRow}
use Rattle.rm_dist.specs.declared.row.Tally.{Tally}
use Rattle.rm_dist.specs.Columns.{control_columns, stats_columns}
use Rattle.rm_dist.specs.Control.{dist_control, control_state}
use Rattle.rm_dist.specs.ControlColumns.{set_to}
use Rattle.rm_dist.specs.Counts.{count_in}
use Rattle.rm_dist.specs.DistStats.{are_some, control_other, control_table, dist_cells, is_distributed, marks_value, octets_of, packets_of, stats_entry, stats_table, stats_value}
use Rattle.rm_dist.specs.Finite.{idle_marks}
use Rattle.rm_dist.specs.Group.{AreTallied}
use Rattle.rm_dist.specs.Marks.{Mark, marks, with_local}
use Rattle.rm_dist.specs.Shown.{cells_kept, control_kept, count_kept, count_value, has_count, kept_other, since_in, stats_kept, tally_in, value_kept}
use Rattle.rm_dist.specs.Standing.{count_by, count_of, IsTallied}

-- a row that isn't active became so at no moment
idle_since : (row : ℕ) (journal : Journal) → is_valid (control_state journal row) ≡ false → activated dist_control no_rows journal (row ∷ []) ≡ 0
idle_since row [] idle = refl
idle_since row (act ∷ earlier) idle = by_test (is_valid (control_state earlier row))
  where
    by_test : (t : Bool) → cond (t && is_valid (control_state (act ∷ earlier) row)) (activated dist_control no_rows earlier (row ∷ []))
        (cond (is_valid (control_state (act ∷ earlier) row)) (moment_of act) 0) ≡ 0
    by_test true = rw idle refl
    by_test false = rw idle refl

module _ (rows : List (Row DistributionRow)) (held : AreControlRows dist_control rows) (settings : Counting) (journal : Journal)
    (is : AreRowsAfter dist_control no_rows set_to rows journal) (tallies : AreTallied rows settings journal) where
  -- what is kept of a row, whether or not there is one
  tallied : (i : ℕ) → IsTallied settings journal i (tally_in rows i)
  tallied i = by_row (row_in rows i) refl
    where
      by_row : (o : Option (Row DistributionRow)) → row_in rows i ≡ o → IsTallied settings journal i (option_and_then (λ (c : DistributionRow). c.tally) (columns_seen o))
      by_row None e = ap is_valid (sym (ap state_seen (sym e) ∙ is.alike.states i))
      by_row (Some row) e = tallies i row e

  since_is : (i : ℕ) → since_in rows i ≡ activated dist_control no_rows journal (i ∷ [])
  since_is i = by_tally (tally_in rows i) (tallied i)
    where
      by_tally : (o : Option Tally) → IsTallied settings journal i o → option_map_or (λ tally. tally.since) o 0 ≡ activated dist_control no_rows journal (i ∷ [])
      by_tally None idle = sym (idle_since i journal idle)
      by_tally (Some tally) it = it.since

  same_other : (column i : ℕ) (row : Row DistributionRow) → row_in rows i ≡ Some row
      → with_index (kept_other rows) column (i ∷ []) ≡ with_index (control_other journal) column (i ∷ [])
  same_other column i row here = ap (λ s. with_index (λ column index. cond (nat_eq column 3) (counter 0) (ticks (s / 10))) column (i ∷ [])) (since_is i)

  same_control : (name : List ℕ) → cells_of (control_kept rows) name ≡ cells_of (control_table journal) name
  same_control =
      same_control_cells dist_control no_rows set_to rows held journal is control_columns (with_index (kept_other rows)) (with_index (control_other journal))
      (λ i row here. row_there dist_control rows i row held here) same_other

  -- what a row has counted of a protocol
  count_is : (i local : ℕ) → count_kept rows i local ≡ count_of (marks settings i journal) local
  count_is i local = by_tally (tally_in rows i) (tallied i)
    where
      by_tally : (o : Option Tally) → IsTallied settings journal i o → option_and_then (λ counts. count_in counts local) (option_map (λ (tally : Tally). tally.counts) o) ≡ count_of (marks settings i journal) local
      by_tally None idle = sym (ap (λ some. count_of some local) (idle_marks settings i journal idle))
      by_tally (Some tally) it = it.counts local

  count_shows : (local column : ℕ) (those : List Mark) → cond (is_some (count_by local those)) (Some (count_value (count_by local those) column)) None ≡ cond (are_some those) (Some (marks_value those column)) None
  count_shows local column those = by_test (are_some those)
    where
      counted : Bool → Option Count
      counted t = cond t (Some (record { local = local; packets = packets_of those; octets = octets_of those })) None

      by_test : (t : Bool) → cond (is_some (counted t)) (Some (count_value (counted t) column)) None ≡ cond t (Some (marks_value those column)) None
      by_test true = refl
      by_test false = refl

  same_stats : (name : List ℕ) → cells_of (stats_kept rows) name ≡ cells_of (stats_table settings journal) name
  same_stats =
      same_numbered stats_entry stats_columns (has_count rows) (value_kept rows) (is_distributed settings journal) (stats_value settings journal)
      (λ i local column. ap (λ o. cond (is_some o) (Some (count_value o column)) None) (count_is i local) ∙ count_shows local column (with_local local (marks settings i journal)))

  pub same_cells : (name : List ℕ) → cells_kept rows name ≡ dist_cells settings journal name
  same_cells name = λ d. option_or (same_control name d) (same_stats name d)

  -- what is next among the cells that are shown is next among those of the journal
  pub next_cell : (asked found : List ℕ) (value : Option Val) → IsNext (cells_kept rows) asked value found → IsNext (dist_cells settings journal) asked value found
  next_cell = same_next (cells_kept rows) (dist_cells settings journal) same_cells
