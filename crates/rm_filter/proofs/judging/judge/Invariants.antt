use Rattle.std.proofs.Common.{◌≡◌, ◌≤◌, ◌-◌, ◌^◌, ℕ, length}
use Rattle.std.specs.Prelude.{filter_map}
use Rattle.rm_model.specs.Counting.{Counting}
use Rattle.rm_model.specs.Journal.{Frame, Journal}
use Rattle.rm_model.specs.ControlRows.{no_rows}
use Rattle.rm_status.specs.RowsAfter.{AreRowsAfter}
use Rattle.rm_group.specs.Passing.{IsOf}
use Rattle.rm_acts.specs.Filters.{filter_table}
use Rattle.rm_acts.specs.Channels.{channel_table}
use Rattle.rm_filter.specs.FilterRows as filter
use Rattle.rm_filter.specs.ChannelForm.{set_to}
use Rattle.rm_filter.specs.Judging.{judged}
use Rattle.rm_filter.proofs.JudgeLemmas.{up_to}
use Rattle.rm_filter.proofs.judging.judge.Given as goal

-- those of the rows so far, of which there are no more than rows
abbrev pub invariant-loop-index : goal.invariant-loop-index
invariant-loop-index l =
    (length l.accepting.items ≤ length (up_to l.last l.channels))
    × ((settings : Counting) (journal : Journal) (frame : Frame) (number moment : ℕ)
    → AreRowsAfter filter_table no_rows filter.set_to l.filters journal
    → AreRowsAfter channel_table no_rows set_to l.channels journal
    → IsOf settings frame l.facts l.octets number moment
    → l.accepting.items ≡ filter_map (judged settings journal frame) (up_to l.last l.channels))

abbrev pub decreases-loop-index : goal.decreases-loop-index
decreases-loop-index l = 2 ^ 32 - l.last
