-- What the rows and what they keep show is what the tables show after the journal.
use Rattle.std.proofs.Common.{◌≡◌, ℕ, ◌/◌, ◌≤◌, List, [], ◌∷◌, refl, sym, ◌∙◌, ap, subst, Bool, true, false, cond, ◌&&◌, Option, Some, None, nat_eq, nat_le, arith, min}
use Rattle.std.specs.Prelude.{pos, is_some}
use Rattle.std.specs.Option.{option_or, option_and_then, option_map_or}
use Rattle.std.proofs.Math.Nat.{min-eq_left}
use Rattle.rm_val.specs.Val.{Val, int, ticks, null}
use Rattle.rm_columns.specs.Values.{natural_in, natural_of}
use Rattle.rm_model.specs.Counting.{Counting}
use Rattle.rm_model.specs.Journal.{Journal, last_moment}
use Rattle.rm_model.specs.Alike.{HasSameColumns}
use Rattle.rm_model.specs.Cells.{cells_of, cell_at, instance_of, IsNext}
use Rattle.rm_model.specs.ControlRows.{no_rows, is_absent, is_valid, set_value}
use Rattle.rm_model.specs.declared.instance.Instance.{Instance}
use Rattle.rm_status.specs.declared.row.Row.{Row}
use Rattle.rm_status.specs.Indexes.{is_index_in}
use Rattle.rm_status.specs.Rows.{row_in, row_number, state_seen, columns_seen, AreControlRows}
use Rattle.rm_status.specs.RowsShown.{with_index}
use Rattle.rm_status.specs.RowsAfter.{AreRowsAfter}
use Rattle.rm_status.proofs.Judged.{same_next}
use Rattle.rm_status.proofs.KeptCellsLaws.{same_control_cells}
use Rattle.rm_status.proofs.RowFacts.{row_there}
use Rattle.rm_pool.specs.declared.slot.Slot.{Slot}
use Rattle.rm_pool.specs.Slots.{part_in}
use Rattle.rm_nested.specs.NumberedRows.{shown_by, value_by, value_in}
use Rattle.rm_nested.proofs.NumberedTables.{same_numbered}
use Rattle.rm_collect.specs.Rows.{IsKept}
use Rattle.rm_report.specs.declared.ranked.Ranked.{Ranked}
use Rattle.rm_report.specs.Ranking.{ranked_at}
use Rattle.rm_topn.specs.declared.control_columns.ControlColumns.{ControlColumns}
use Rattle.rm_topn.specs.declared.course.Course.{Course}
use Rattle.rm_topn.specs.Columns.{control_columns, report_columns}
use Rattle.rm_topn.specs.Control.{control_entry, control_state, seconds_set, size_granted, top_control}
use Rattle.rm_topn.specs.ControlColumns.{set_to}
use Rattle.rm_topn.specs.Courses.{has_ended, is_shown}
use Rattle.rm_topn.specs.Held.{AreAskable}
use Rattle.rm_topn.specs.HostTop.{control_other, control_table, host_value, is_place, report_entry, report_table, report_value, set_table, top_cells}
use Rattle.rm_topn.specs.Kept.{IsCourse}
use Rattle.rm_topn.specs.Reports.{duration, host_shown, ranked_in, start_time, time_remaining}
use Rattle.rm_topn.specs.Shown.{cells_kept, control_kept, duration_of, granted_of, other_shown, report_kept, seconds_in, set_kept, start_of, time_of, time_shown, value_shown}
use Rattle.rm_topn.specs.StartLaws.{idle_start}
use Rattle.rm_topn.specs.Starts.{before_moment, end_of, last_start}
use Rattle.rm_topn.proofs.Seconds.{same_seconds}
use Rattle.rm_topn.proofs.Times.{duration_is, host_is, left_of, start_is, time_is}

-- What a row shows of its report, by what is kept of it, if there is any: what was set is shown by the journal too.
module _ (settings : Counting) (journal : Journal) (row set : ℕ) (set_is : set ≡ seconds_set journal row) where
  -- a report runs for no more seconds than were set
  no_more : (o : Option Journal) → last_start row journal ≡ o → option_map_or (λ from. seconds_set from row) o 0 ≤ set
  no_more None start = omega arith
  no_more (Some from) start = let same = same_seconds row journal from start in omega (arith, same, set_is)

  no_more_left : (now : ℕ) (o : Option Journal) → last_start row journal ≡ o → left_of row now o ≤ set
  no_more_left now None start = omega arith
  no_more_left now (Some from) start = let same = same_seconds row journal from start in omega (arith, same, set_is)

  duration_shown : (o : Option Course) → IsKept top_control IsCourse settings journal row o → duration_of o set ≡ duration journal row
  duration_shown None idle = min-eq_left (omega arith) ∙ ap (λ o. option_map_or (λ from. seconds_set from row) o 0) (sym (idle_start row journal idle))
  duration_shown (Some course) is = ap (λ n. min n set) (duration_is settings journal row course is.1) ∙ min-eq_left (no_more (last_start row journal) refl)

  start_shown : (o : Option Course) → IsKept top_control IsCourse settings journal row o → start_of o ≡ start_time journal row
  start_shown None idle = ap (λ o. option_map_or (λ from. last_moment from / 10) o 0) (sym (idle_start row journal idle))
  start_shown (Some course) is = start_is settings journal row course is.1

  time_left : (now : ℕ) (o : Option Course) → IsKept top_control IsCourse settings journal row o → time_of o set now ≡ time_remaining journal row now
  time_left now None idle = set_is ∙ sym (ap (λ t. cond t (left_of row now (last_start row journal)) (seconds_set journal row)) idle)
  time_left now (Some course) is =
      ap (λ n. min n set) (time_is settings journal row course is.1 now)
      ∙ min-eq_left (no_more_left now (last_start row journal) refl)
      ∙ sym (ap (λ s. cond (is_valid s) (left_of row now (last_start row journal)) (seconds_set journal row)) is.0)

-- hostTopNControl
module _ (rows : List (Row ControlColumns)) (held : AreControlRows top_control rows) (courses : List (Slot Course)) (settings : Counting) (journal : Journal)
    (is : AreRowsAfter top_control no_rows set_to rows journal) (kept : (row : ℕ) → IsKept top_control IsCourse settings journal row (part_in courses row)) where
  -- a row that there is
  module _ (i : ℕ) (row : Row ControlColumns) (here : row_in rows i ≡ Some row) where
    state_is : row.state ≡ control_state journal i
    state_is = sym (ap state_seen here) ∙ is.alike.states i

    columns : HasSameColumns top_control (set_to row.columns) (set_value top_control no_rows journal (i ∷ []))
    columns =
        subst (λ (o : Option (Row ControlColumns)). HasSameColumns top_control (λ n. option_and_then (λ c. set_to c n) (columns_seen o)) (set_value top_control no_rows journal (i ∷ []))) here
        (is.alike.columns i (ap (λ o. is_absent (state_seen o)) here ∙ row_there top_control rows i row held here))

    seconds_is : seconds_in rows i ≡ seconds_set journal i
    seconds_is = ap (λ o. option_map_or (λ (c : ControlColumns). natural_of c.seconds) (columns_seen o) 0) here ∙ ap natural_in columns.1.1.0.shown

    granted_is : option_map_or granted_of (row_in rows i) 0 ≡ cond (is_valid (control_state journal i)) (size_granted journal i) 0
    granted_is =
        ap (λ o. option_map_or granted_of o 0) here
        ∙ (λ d. cond (is_valid (state_is d)) (min (natural_in (columns.1.1.1.0.shown d)) 100) 0)

  same_other : (column i : ℕ) (row : Row ControlColumns) → row_in rows i ≡ Some row → with_index (other_shown rows courses) column (i ∷ []) ≡ with_index (control_other journal) column (i ∷ [])
  same_other column i row here =
      let runs = duration_shown settings journal i (seconds_in rows i) (seconds_is i row here) (part_in courses i) (kept i) in
      let began = start_shown settings journal i (seconds_in rows i) (seconds_is i row here) (part_in courses i) (kept i) in
      λ d. cond (nat_eq column 1) (int (pos i)) (cond (nat_eq column 5) (int (pos (runs d))) (cond (nat_eq column 7) (int (pos (granted_is i row here d))) (ticks (began d))))

  same_set : (name : List ℕ) → cells_of (set_kept rows courses) name ≡ cells_of (set_table journal) name
  same_set = same_control_cells top_control no_rows set_to rows held journal is control_columns (with_index (other_shown rows courses)) (with_index (control_other journal)) (λ i row here. row_there top_control rows i row held here) same_other

  -- TimeRemaining
  module _ (now : ℕ) where
    time_is_shown : (i : ℕ) (o : Option (Row ControlColumns)) → row_in rows i ≡ o → is_some o ≡ true → time_shown rows courses i now ≡ time_remaining journal i now
    time_is_shown i None here none = absurd (cc)
    time_is_shown i (Some row) here some = time_left settings journal i (seconds_in rows i) (seconds_is i row here) now (part_in courses i) (kept i)

    by_index : (index : List ℕ) → is_index_in top_control rows index ≡ true → time_shown rows courses (row_number index) now ≡ time_remaining journal (row_number index) now
    by_index [] is = absurd (cc)
    by_index (i ∷ []) is = time_is_shown i (row_in rows i) refl is
    by_index (i ∷ next ∷ more) is = absurd (cc)

    -- two cells of which each is there where the other is, and has another value then
    in_place : (one other : Bool) (value shown x y : Val) → cond one (Some value) None ≡ cond other (Some shown) None → (one ≡ true → x ≡ y) → cond one (Some x) None ≡ cond other (Some y) None
    in_place true true value shown x y same is = ap Some (is refl)
    in_place true false value shown x y same is = absurd (cc)
    in_place false true value shown x y same is = absurd (cc)
    in_place false false value shown x y same is = refl

    same_counted : (o : Option Instance) → cell_at (set_kept rows courses) o ≡ cell_at (set_table journal) o → cell_at (control_kept rows courses now) o ≡ cell_at (control_table journal now) o
    same_counted None same = refl
    same_counted (Some at) same = by_column (nat_eq at.column 4)
      where
        one : Val
        one = (set_kept rows courses).value at.column at.index

        other : Val
        other = (set_table journal).value at.column at.index

        by_column : (t : Bool) → cond (is_index_in top_control rows at.index) (Some (cond t (int (pos (time_shown rows courses (row_number at.index) now))) one)) None
            ≡ cond ((set_table journal).is_row at.index) (Some (cond t (int (pos (time_remaining journal (row_number at.index) now))) other)) None
        by_column true =
            in_place (is_index_in top_control rows at.index) ((set_table journal).is_row at.index) one other (int (pos (time_shown rows courses (row_number at.index) now))) (int (pos (time_remaining journal (row_number at.index) now))) same
            (λ there. ap (λ n. int (pos n)) (by_index at.index there))
        by_column false = same

    same_control : (name : List ℕ) → cells_of (control_kept rows courses now) name ≡ cells_of (control_table journal now) name
    same_control name = same_counted (instance_of control_entry control_columns name) (same_set name)

-- hostTopN
module _ (courses : List (Slot Course)) (settings : Counting) (journal : Journal) (kept : (row : ℕ) → IsKept top_control IsCourse settings journal row (part_in courses row)) (now : ℕ) (askable : AreAskable courses now) where
  abbrev value_of : ℕ → Course → ℕ → ℕ → Val
  value_of row course place column = value_shown courses row place column

  module _ (row place column : ℕ) where
    abbrev cell_of : Option Ranked → Option Val
    cell_of host = cond (is_some host) (Some (option_map_or (λ ranked. host_value row place ranked column) host null)) None

    -- what is kept at a place is shown once the report has ended
    once_ended : (ended : Bool) (host : Option Ranked)
        → cond (is_some (cond ended host None)) (Some (option_map_or (λ ranked. host_value row place ranked column) host null)) None ≡ cell_of (cond ended host None)
    once_ended true host = refl
    once_ended false host = refl

    no_host : is_valid (control_state journal row) ≡ false → host_shown settings journal now row place ≡ None
    no_host idle =
        ap
        (option_and_then
        (λ from. cond (nat_le 1 (seconds_set from row) && nat_le (end_of row from) now)
        (ranked_in settings from (before_moment (end_of row from) journal) row place)
        None))
        (idle_start row journal idle)

    of_course : (o : Option Course) → part_in courses row ≡ o → IsKept top_control IsCourse settings journal row o
        → cond (shown_by is_shown o now place) (Some (value_by value_of row o place column)) None ≡ cell_of (host_shown settings journal now row place)
    of_course None here idle = ap cell_of (sym (no_host idle))
    of_course (Some course) here is =
        ap (λ (o : Option Course). cond (is_shown course now place) (Some (option_map_or (λ ranked. host_value row place ranked column) (option_and_then (λ course. ranked_at place course.report.rows) o) null)) None) here
        ∙ once_ended (has_ended course now) (ranked_at place course.report.rows)
        ∙ ap cell_of (host_is settings journal row course now place is.1 (λ run runs. askable row run (ap (option_and_then (λ (course : Course). course.run)) here ∙ runs)))

  same_hosts : (name : List ℕ) → cells_of (report_kept courses now) name ≡ cells_of (report_table settings journal now) name
  same_hosts =
      same_numbered report_entry report_columns (λ row place. shown_by is_shown (part_in courses row) now place) (value_in value_of courses) (is_place settings journal now) (report_value settings journal now)
      (λ row place column. of_course row place column (part_in courses row) refl (kept row))

-- both
pub same_cells : (rows : List (Row ControlColumns)) → AreControlRows top_control rows → (courses : List (Slot Course)) → (settings : Counting) (journal : Journal) → AreRowsAfter top_control no_rows set_to rows journal
    → ((row : ℕ) → IsKept top_control IsCourse settings journal row (part_in courses row)) → (now : ℕ) → AreAskable courses now → (name : List ℕ) → cells_kept rows courses now name ≡ top_cells settings journal now name
same_cells rows held courses settings journal is kept now askable name =
    λ d. option_or (same_control rows held courses settings journal is kept now name d) (same_hosts courses settings journal kept now askable name d)

-- what is next among the cells that are shown is next among those of the journal
pub next_cell : (rows : List (Row ControlColumns)) → AreControlRows top_control rows → (courses : List (Slot Course)) → (settings : Counting) (journal : Journal) → AreRowsAfter top_control no_rows set_to rows journal
    → ((row : ℕ) → IsKept top_control IsCourse settings journal row (part_in courses row)) → (now : ℕ) → AreAskable courses now
    → (asked found : List ℕ) (value : Option Val) → IsNext (cells_kept rows courses now) asked value found → IsNext (top_cells settings journal now) asked value found
next_cell rows held courses settings journal is kept now askable = same_next (cells_kept rows courses now) (top_cells settings journal now) (same_cells rows held courses settings journal is kept now askable)
