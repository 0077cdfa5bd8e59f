-- The rows and their counters after each act.
use Rattle.std.proofs.Common.{◌≡◌, ℕ, ◌+◌, ◌%◌, ◌^◌, List, [], ◌∷◌, refl, sym, ◌∙◌, ap, Bool, true, false, cond, ◌&&◌, Option, Some, None, nat_eq, option_map, arith}
use Rattle.std.specs.Prelude.{filter, unwrap_or}
use Rattle.std.specs.List.{sum_by}
use Rattle.std.specs.Option.{option_and_then}
use Rattle.std.proofs.lemmas.Bool.{and_parts}
use Rattle.std.proofs.Math.Nat.{mod-add-mod}
use Rattle.rm_val.specs.Val.{name}
use Rattle.rm_proto.specs.declared.known.Facts.{Facts}
use Rattle.rm_model.specs.Counting.{Counting}
use Rattle.rm_model.specs.Journal.{Frame, Assignments, Journal, passes, assigns, frames_in}
use Rattle.rm_model.specs.FrameFacts.{frame_facts}
use Rattle.rm_model.specs.Interfaces.{interface_name, is_interface, frames_of}
use Rattle.rm_model.specs.ControlTable.{default_of}
use Rattle.rm_model.specs.ControlRows.{set_ask, next_state, is_absent, is_valid, since, stays_valid}
use Rattle.rm_model.specs.Judgement.{Bindings}
use Rattle.rm_model.specs.declared.row.State.{State}
use Rattle.rm_model.specs.declared.row.State.TheVariants.{Absent, Valid}
use Rattle.rm_status.specs.declared.row.Row.{Row}
use Rattle.rm_status.specs.Rows.{row_in, state_seen, columns_seen}
use Rattle.rm_status.specs.Change.{changed_row}
use Rattle.rm_status.specs.RowsAfter.{AreRowsAfter}
use Rattle.rm_status.proofs.Committed.{IsCommitted, changed_committed, state_committed, row_committed, other_left}
use Rattle.rm_status.proofs.RowsAfterLemmas.{rows_passes, rows_changed, since_idle, since_starts, frames_kept, not_first, was_there}
use Rattle.rm_status.proofs.RowFacts.{valid_is, valid_there}
use Rattle.rm_status.proofs.RowsThen.{column_stays}
use Rattle.rm_ether.specs.declared.counter.Counter.{Counter}
use Rattle.rm_ether.specs.declared.counter.Counter.TheVariants.{DropEvents}
use Rattle.rm_ether.specs.declared.statistics.Statistics.{Statistics}
use Rattle.rm_ether.specs.declared.row.StatisticsRow.{StatisticsRow}
use Rattle.rm_ether.specs.Counted.{counted}
use Rattle.rm_ether.specs.EtherStats.{ether_stats, ether_beginning, ether_state, ether_column, counted_frames, counter_sum}
use Rattle.rm_ether.specs.Standing.{counter_of, no_sums, with_frame}
use Rattle.rm_ether.specs.StatisticsRows.{set_to, blank_row, statistics_rows, counting, resting}
use Rattle.rm_ether.specs.Group.{AreCounted}
use Rattle.rm_ether.proofs.Sources.{sum_more, is_source}

pub no_sum : (each : Counter) → counter_of no_sums each ≡ 0
no_sum DropEvents = refl
no_sum each = refl

pub one_more_sum : (facts : Facts) (statistics : Statistics) (each : Counter) → counter_of (with_frame facts statistics) each ≡ (counter_of statistics each + counted each facts) % 2 ^ 64
one_more_sum facts statistics DropEvents = refl
one_more_sum facts statistics each = refl

abbrev of_frames : Counting → Counter → List Frame → ℕ
of_frames settings each frames = sum_by (λ frame. counted each (frame_facts settings frame)) frames

-- nothing was counted by a row that isn't valid
idle_sum : (settings : Counting) (journal : Journal) (index : List ℕ) (each : Counter) → since ether_stats (ether_beginning settings) journal index ≡ [] → counter_sum settings journal index each ≡ 0
idle_sum settings journal index each none = ap (λ acts. of_frames settings each (frames_of (ether_column settings journal index 2) (frames_in acts))) none

module _ (settings : Counting) (rows : List (Row StatisticsRow)) (journal : Journal) (is : AreRowsAfter ether_stats (ether_beginning settings) set_to rows journal) (i : ℕ) (row : Row StatisticsRow) (here : row_in rows i ≡ Some row) where
  state_is : row.state ≡ ether_state settings journal (i ∷ [])
  state_is = ap state_seen (sym here) ∙ is.alike.states i

  module _ (there : is_absent row.state ≡ false) where
    shown_at : is_absent (state_seen (row_in rows i)) ≡ false
    shown_at = ap (λ o. is_absent (state_seen o)) here ∙ there

    -- what the row shows as its data source
    source_is : name (interface_name row.columns.source) ≡ ether_column settings journal (i ∷ []) 2
    source_is = ap (λ o. unwrap_or (option_and_then (λ c. set_to c 2) (columns_seen o)) (default_of ether_stats 2)) (sym here) ∙ (is.alike.columns i shown_at).0.shown

-- One more frame.
module _ (settings : Counting) (journal : Journal) (frame : Frame) (facts : Facts) (known : facts ≡ frame_facts settings frame) (rows new : List (Row StatisticsRow))
    (changed : (i : ℕ) → row_in new i ≡ option_map (changed_row (λ index state row. counting facts state row)) (row_in rows i))
    (is : AreRowsAfter ether_stats (ether_beginning settings) set_to rows journal) (sums : AreCounted rows settings journal) where
  abbrev longer : Journal
  longer = passes frame ∷ journal

  counting_keeps : (index : ℕ) (state : State) (row : StatisticsRow) (n : ℕ) → set_to (counting facts state row) n ≡ set_to row n
  counting_keeps index state row n =
      elim (is_valid state && nat_eq row.source facts.interface) as (λ b. set_to (cond b (record row { statistics = with_frame facts row.statistics }) row) n ≡ set_to row n) [ true ↦ refl | false ↦ refl ]

  pub rows_with_frame : AreRowsAfter ether_stats (ether_beginning settings) set_to new longer
  rows_with_frame =
      rows_passes ether_stats (ether_beginning settings) set_to new journal frame
      (rows_changed ether_stats (ether_beginning settings) set_to (λ index state row. counting facts state row) counting_keeps rows new changed journal is)

  module _ (i : ℕ) (row : Row StatisticsRow) (here : row_in rows i ≡ Some row) (each : Counter) where
    abbrev index : List ℕ
    index = i ∷ []

    state : row.state ≡ ether_state settings journal index
    state = state_is settings rows journal is i row here

    old_sum : counter_of row.columns.statistics each ≡ counter_sum settings journal index each % 2 ^ 64
    old_sum = sums i row here each

    idle : is_valid row.state ≡ false → counter_of row.columns.statistics each ≡ counter_sum settings longer index each % 2 ^ 64
    idle e =
        let not_valid : is_valid (ether_state settings journal index) ≡ false = ap is_valid (sym state) ∙ e in
        old_sum
        ∙ ap (λ n. n % 2 ^ 64) (idle_sum settings journal index each (since_idle ether_stats (ether_beginning settings) journal index not_valid)
        ∙ sym (idle_sum settings longer index each (since_idle ether_stats (ether_beginning settings) longer index not_valid)))

    of_source : Frame → Bool
    of_source other = is_interface (ether_column settings journal index 2) other.interface

    frames_before : List Frame
    frames_before = frames_in (since ether_stats (ether_beginning settings) journal index)

    longer_sum : is_valid row.state ≡ true → counter_sum settings longer index each ≡ counter_sum settings journal index each + cond (nat_eq row.columns.source facts.interface) (counted each facts) 0
    unfolding of_source frames_before
    longer_sum e =
        let valid : is_valid (ether_state settings journal index) ≡ true = ap is_valid (sym state) ∙ e in
        let f : Frame → ℕ = λ other. counted each (frame_facts settings other) in
        let more : counted_frames settings longer index ≡ filter of_source (frame ∷ frames_before) = rw valid refl in
        let source : of_source frame ≡ nat_eq row.columns.source frame.interface = ap (λ source. is_interface source frame.interface) (sym (source_is settings rows journal is i row here (valid_there row.state e))) ∙ is_source row.columns.source frame.interface in
        ap (sum_by f) more ∙ sum_more f of_source frame frames_before
        ∙ ap (λ counts. counter_sum settings journal index each + cond counts (f frame) 0) source
        ∙ ap (λ (facts : Facts). counter_sum settings journal index each + cond (nat_eq row.columns.source facts.interface) (counted each facts) 0) (sym known)

    valid_sum : is_valid row.state ≡ true → (b : Bool) → nat_eq row.columns.source facts.interface ≡ b → counter_of (cond b (record row.columns { statistics = with_frame facts row.columns.statistics }) row.columns).statistics each ≡ counter_sum settings longer index each % 2 ^ 64
    valid_sum e true same =
        one_more_sum facts row.columns.statistics each
        ∙ ap (λ n. (n + counted each facts) % 2 ^ 64) old_sum
        ∙ mod-add-mod (counter_sum settings journal index each) (2 ^ 64) (counted each facts)
        ∙ ap (λ n. n % 2 ^ 64) (sym (longer_sum e ∙ ap (λ b. counter_sum settings journal index each + cond b (counted each facts) 0) same))
    valid_sum e false other =
        old_sum ∙ ap (λ n. n % 2 ^ 64) (sym (longer_sum e ∙ ap (λ b. counter_sum settings journal index each + cond b (counted each facts) 0) other ∙ omega arith))

    counted_sum : (b : Bool) → is_valid row.state ≡ b → counter_of (cond (b && nat_eq row.columns.source facts.interface) (record row.columns { statistics = with_frame facts row.columns.statistics }) row.columns).statistics each ≡ counter_sum settings longer index each % 2 ^ 64
    counted_sum true e = valid_sum e (nat_eq row.columns.source facts.interface) refl
    counted_sum false e = idle e

  pub counters_with_frame : AreCounted new settings longer
  counters_with_frame i row here each =
      let old = was_there (changed_row (λ index state row. counting facts state row)) (row_in rows i) row (sym (changed i) ∙ here) in
      ap (λ (r : Row StatisticsRow). counter_of r.columns.statistics each) (sym old.2) ∙ counted_sum i old.0 old.1 each (is_valid old.0.state) refl

-- A Set with which nothing is wrong.

module _ (settings : Counting) (journal : Journal) (moment : ℕ) (bs : Bindings) (values : Assignments) (rows middle new : List (Row StatisticsRow))
    (set : IsCommitted statistics_rows (ether_beginning settings) journal values bs rows middle)
    (rested : (i : ℕ) → row_in new i ≡ option_map (changed_row (λ index state row. resting state row)) (row_in middle i)) (sums : AreCounted rows settings journal) where
  abbrev with_set : Journal
  with_set = assigns moment values ∷ journal

  resting_keeps : (number : ℕ) (state : State) (row : StatisticsRow) (n : ℕ) → set_to (resting state row) n ≡ set_to row n
  resting_keeps number state row n = elim (is_valid state) as (λ b. set_to (cond b row (record row { statistics = no_sums })) n ≡ set_to row n) [ true ↦ refl | false ↦ refl ]

  pub rows_with_set : AreRowsAfter ether_stats (ether_beginning settings) set_to new with_set
  rows_with_set = changed_committed statistics_rows set moment (λ index state row. resting state row) resting_keeps new rested

  module _ (i : ℕ) (mid : Row StatisticsRow) (here : row_in middle i ≡ Some mid) (each : Counter) where
    abbrev place : List ℕ
    place = i ∷ []

    abbrev was : Option (Row StatisticsRow)
    was = row_in rows i

    new_state : mid.state ≡ ether_state settings with_set place
    new_state = state_committed statistics_rows set moment i mid here

    sums_left : mid.columns.statistics ≡ (unwrap_or (columns_seen was) blank_row).statistics
    sums_left = other_left statistics_rows set i mid here (λ c. c.statistics) (λ c n v. refl)

    -- a row that wasn't valid had counted nothing
    none_before : (o : Option (Row StatisticsRow)) → was ≡ o → is_valid (ether_state settings journal place) ≡ false → counter_of (unwrap_or (columns_seen o) blank_row).statistics each ≡ 0
    none_before None e idle = no_sum each
    none_before (Some row) e idle = sums i row e each ∙ ap (λ n. n % 2 ^ 64) (idle_sum settings journal place each (since_idle ether_stats (ether_beginning settings) journal place idle))

    -- a row that was valid had counted what the journal gives
    sum_before : (o : Option (Row StatisticsRow)) → was ≡ o → is_valid (ether_state settings journal place) ≡ true → counter_of (unwrap_or (columns_seen o) blank_row).statistics each ≡ counter_sum settings journal place each % 2 ^ 64
    sum_before None e valid =
        let absent : Absent ≡ ether_state settings journal place = ap state_seen (sym e) ∙ set.stood.alike.states i in
        let no : is_valid Absent ≡ true = ap is_valid absent ∙ valid in
        absurd (cc)
    sum_before (Some row) e valid = sums i row e each

    -- the data source of a row that stays valid is as it was
    same_source : is_valid (ether_state settings journal place) ≡ true → is_valid mid.state ≡ true → ether_column settings with_set place 2 ≡ ether_column settings journal place 2
    same_source old valid =
        let was_valid : state_seen was ≡ Valid = set.stood.alike.states i ∙ valid_is (ether_state settings journal place) old in
        let next = row_committed statistics_rows set i mid here in
        let stays : is_valid (next_state (set_ask ether_stats bs place) Valid) ≡ true = ap (λ s. is_valid (next_state (set_ask ether_stats bs place) s)) (sym was_valid) ∙ sym (ap is_valid next.0) ∙ valid in
        column_stays ether_stats (ether_beginning settings) set_to journal moment bs values set.gives rows set.fine.together set.stood i 2 refl refl old stays

    valid_with_set : is_valid mid.state ≡ true → (b : Bool) → stays_valid ether_stats (ether_beginning settings) (assigns moment values) journal place ≡ b → counter_of mid.columns.statistics each ≡ counter_sum settings with_set place each % 2 ^ 64
    valid_with_set valid true stays =
        let old : is_valid (ether_state settings journal place) ≡ true = (and_parts (is_valid (ether_state settings journal place)) (is_valid (ether_state settings with_set place)) stays).0 in
        let frames : frames_in (since ether_stats (ether_beginning settings) with_set place) ≡ frames_in (since ether_stats (ether_beginning settings) journal place) = frames_kept ether_stats (ether_beginning settings) moment values journal place stays in
        ap (λ s. counter_of s each) sums_left ∙ sum_before was refl old
        ∙ ap (λ n. n % 2 ^ 64) (sym (
        ap (λ source. of_frames settings each (frames_of source (frames_in (since ether_stats (ether_beginning settings) with_set place)))) (same_source old valid)
        ∙ ap (λ frames. of_frames settings each (frames_of (ether_column settings journal place 2) frames)) frames))
    valid_with_set valid false starts =
        let idle : is_valid (ether_state settings journal place) ≡ false = not_first (is_valid (ether_state settings journal place)) (is_valid (ether_state settings with_set place)) (sym (ap is_valid new_state) ∙ valid) starts in
        ap (λ s. counter_of s each) sums_left ∙ none_before was refl idle
        ∙ sym (ap (λ n. n % 2 ^ 64) (idle_sum settings with_set place each (since_starts ether_stats (ether_beginning settings) (assigns moment values) journal place starts)))

    rested_sum : (b : Bool) → is_valid mid.state ≡ b → counter_of (cond b mid.columns (record mid.columns { statistics = no_sums })).statistics each ≡ counter_sum settings with_set place each % 2 ^ 64
    rested_sum true valid = valid_with_set valid (stays_valid ether_stats (ether_beginning settings) (assigns moment values) journal place) refl
    rested_sum false idle =
        let not_valid : is_valid (ether_state settings with_set place) ≡ false = ap is_valid (sym new_state) ∙ idle in
        no_sum each ∙ sym (ap (λ n. n % 2 ^ 64) (idle_sum settings with_set place each (since_idle ether_stats (ether_beginning settings) with_set place not_valid)))

  pub counters_with_set : AreCounted new settings with_set
  counters_with_set i row here each =
      let mid = was_there (changed_row (λ index state row. resting state row)) (row_in middle i) row (sym (rested i) ∙ here) in
      ap (λ (r : Row StatisticsRow). counter_of r.columns.statistics each) (sym mid.2) ∙ rested_sum i mid.0 mid.1 each (is_valid mid.0.state) refl
