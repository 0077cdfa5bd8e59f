-- What a frame makes of what the rows have counted.
use Rattle.std.proofs.Common.{◌≡◌, ℕ, ◌<◌, ◌≤◌, List, [], ◌∷◌, ◌++◌, length, map, Bool, true, false, cond, ◌&&◌, nat_eq, Option, Some, None, option_map, refl, sym, ap, subst, ◌∙◌, arith}
use Rattle.std.specs.Prelude.{unwrap_or}
use Rattle.std.specs.Option.{option_and_then}
use Rattle.std.proofs.Math.Bool.{and-true}
use Rattle.rm_val.specs.Val.{name}
use Rattle.rm_proto.specs.declared.known.Facts.{Facts}
use Rattle.rm_model.specs.Counting.{Counting}
use Rattle.rm_model.specs.FrameFacts.{frame_facts}
use Rattle.rm_model.specs.Interfaces.{interface_name, is_interface}
use Rattle.rm_model.specs.Journal.{Frame, Journal, passes}
use Rattle.rm_model.specs.ControlTable.{default_of}
use Rattle.rm_model.specs.ControlRows.{no_rows, activated, is_absent, is_valid}
use Rattle.rm_status.specs.declared.row.Row.{Row}
use Rattle.rm_status.specs.Rows.{row_in, columns_seen, state_seen}
use Rattle.rm_status.specs.Change.{changed_row}
use Rattle.rm_status.specs.RowsAfter.{AreRowsAfter}
use Rattle.rm_status.proofs.RowFacts.{valid_there}
use Rattle.rm_status.proofs.RowsAfterLemmas.{rows_passes, rows_changed, was_there}
use Rattle.rm_path.specs.declared.protocol.Protocol.{Protocol}
use Rattle.rm_path.specs.declared.identifier.ProtocolIdentifier.{ProtocolIdentifier}
use Rattle.rm_dir.specs.DirectoryIndex.{index_with}
use Rattle.rm_dir.specs.LocalIndexes.{local_index}
use Rattle.rm_dir.specs.Paths.{AreActiveAfter, path_after}
use Rattle.rm_dist.specs.declared.row.DistributionRow.{DistributionRow}
use Rattle.rm_dist.specs.declared.row.Tally.{Tally}
use Rattle.rm_dist.specs.Control.{dist_control, control_state, source_of}
use Rattle.rm_dist.specs.ControlColumns.{set_to}
use Rattle.rm_dist.specs.Counting.{counting, tally_with}
use Rattle.rm_dist.specs.Counts.{with_marks}
use Rattle.rm_dist.specs.Group.{AreTallied}
use Rattle.rm_dist.specs.Marks.{is_counted, marks, marks_of, new_marks}
use Rattle.rm_dist.specs.Standing.{AreOfMarks, IsTally, IsTallied}
use Rattle.rm_dist.proofs.MarkFacts.{AreMarksOf, all_are, all_in, all_last, both_of, marks_are}
use Rattle.rm_dist.proofs.MarkLemmas.{AllIn, AreKept, all_marked, marks_with}

module _ (settings : Counting) (journal : Journal) (frame : Frame) (facts : Facts) (known : facts ≡ frame_facts settings frame)
    (slots : List (Option Protocol)) (are : AreActiveAfter journal slots) (locals : List ℕ)
    (on_path : locals ≡ map (λ protocol. local_index journal (index_with protocol)) (path_after journal facts)) (count : 0 < length locals → length slots ≡ 32)
    (rows new : List (Row DistributionRow)) (changed : (i : ℕ) → row_in new i ≡ option_map (changed_row (λ index state row. counting facts locals row)) (row_in rows i))
    (is : AreRowsAfter dist_control no_rows set_to rows journal) where
  abbrev longer : Journal
  longer = passes frame ∷ journal

  pub rows_with_frame : AreRowsAfter dist_control no_rows set_to new longer
  rows_with_frame =
      rows_passes dist_control no_rows set_to new journal frame
      (rows_changed dist_control no_rows set_to (λ index state row. counting facts locals row) (λ index state row n. refl) rows new changed journal is)

  abbrev local_of : ProtocolIdentifier → ℕ
  local_of protocol = local_index journal (index_with protocol)

  module _ (i : ℕ) (tally : Tally) (it : IsTally settings journal i tally) where
    -- the marks of the frame are before those that there were
    new_all : (t : Bool) → AreMarksOf journal (cond t (marks_of (frame_facts settings frame) journal) [] ++ marks settings i journal)
    new_all true = both_of journal (marks_of (frame_facts settings frame) journal) (marks settings i journal) (marks_are (frame_facts settings frame) journal) (all_are settings i journal)
    new_all false = all_are settings i journal

    marks_then : marks settings i longer ≡ cond (is_counted (source_of journal i) facts) (marks_of facts journal) [] ++ marks settings i journal
    marks_then =
        rw it.active (all_last (passes frame) journal (λ index. refl) (new_marks settings i (passes frame) journal ++ marks settings i journal) (new_all (is_counted (source_of journal i) (frame_facts settings frame))))
        ∙ ap (λ (one : Facts). cond (is_counted (source_of journal i) one) (marks_of one journal) [] ++ marks settings i journal) (sym known)

    since_then : activated dist_control no_rows longer (i ∷ []) ≡ activated dist_control no_rows journal (i ∷ [])
    since_then = rw it.active refl

    by_path : (path : List ProtocolIdentifier) → path_after journal facts ≡ path → AreKept (marks_with local_of facts.length path ++ marks settings i journal) (with_marks tally.counts (map local_of path) facts.length)
    by_path [] e = record { rise = it.rise; are = it.counts }
    by_path (protocol ∷ path) e =
        let long : 0 < length locals = subst (λ (l : List ℕ). 0 < length l) (sym (on_path ∙ ap (map local_of) e)) (omega arith) in
        let few : length slots ≤ 32 = let many = count long in omega (arith, many) in
        all_marked slots few local_of facts.length (protocol ∷ path) (marks settings i journal) tally.counts (record { rise = it.rise; are = it.counts })
        (all_in journal slots are (marks settings i journal) (all_are settings i journal))
        (subst (λ one. AllIn slots (marks_with local_of facts.length one)) e (all_in journal slots are (marks_of facts journal) (marks_are facts journal)))

    -- all of them are counted
    counted : AreKept (marks_of facts journal ++ marks settings i journal) (with_marks tally.counts locals facts.length)
    counted = subst (λ l. AreKept (marks_of facts journal ++ marks settings i journal) (with_marks tally.counts l facts.length)) (sym on_path) (by_path (path_after journal facts) refl)

    tally_counted : (b : Bool) → is_counted (source_of journal i) facts ≡ b → IsTallied settings longer i (tally_with b locals facts.length (Some tally))
    tally_counted true e = record {
      active = it.active;
      since = it.since ∙ sym since_then;
      rise = counted.rise;
      counts = subst (λ some. AreOfMarks some (with_marks tally.counts locals facts.length)) (sym (marks_then ∙ rw e refl)) counted.are;
    }
    tally_counted false e = record {
      active = it.active;
      since = it.since ∙ sym since_then;
      rise = it.rise;
      counts = subst (λ some. AreOfMarks some tally.counts) (sym (marks_then ∙ rw e refl)) it.counts;
    }

  module _ (i : ℕ) (row : Row DistributionRow) (here : row_in rows i ≡ Some row) where
    state_is : row.state ≡ control_state journal i
    state_is = ap state_seen (sym here) ∙ is.alike.states i

    -- what the row shows as its data source
    source_is : is_valid (control_state journal i) ≡ true → name (interface_name row.columns.source) ≡ source_of journal i
    source_is valid =
        let there : is_absent (state_seen (row_in rows i)) ≡ false = ap (λ o. is_absent (state_seen o)) here ∙ valid_there row.state (ap is_valid state_is ∙ valid) in
        ap (λ o. unwrap_or (option_and_then (λ c. set_to c 2) (columns_seen o)) (default_of dist_control 2)) (sym here) ∙ (is.alike.columns i there).0.shown

    counts_is : is_valid (control_state journal i) ≡ true → is_counted (source_of journal i) facts ≡ (facts.good && nat_eq row.columns.source facts.interface)
    counts_is valid = ap (λ source. facts.good && is_interface source facts.interface) (sym (source_is valid)) ∙ ap (λ b. facts.good && b) (and-true (nat_eq row.columns.source facts.interface))

    row_counted : (tally : Option Tally) → IsTallied settings journal i tally → IsTallied settings longer i (tally_with (facts.good && nat_eq row.columns.source facts.interface) locals facts.length tally)
    row_counted None it = it
    row_counted (Some tally) it = tally_counted i tally it (facts.good && nat_eq row.columns.source facts.interface) (counts_is it.active)

  pub tallies_with_frame : AreTallied rows settings journal → AreTallied new settings longer
  tallies_with_frame tallies i row here =
      let old = was_there (changed_row (λ index state row. counting facts locals row)) (row_in rows i) row (sym (changed i) ∙ here) in
      subst (λ (r : Row DistributionRow). IsTallied settings longer i r.columns.tally) old.2 (row_counted i old.0 old.1 old.0.columns.tally (tallies i old.0 old.1))
