use Rattle.std.proofs.Common.{Some, sym, ap, ◌∙◌}
use Rattle.std.specs.Option.{option_copied}
use Rattle.rm_capture.proofs.Showing.{shown_at}
use Rattle.rm_capture.proofs.packets.PacketsInnerCells.value.Goals as goal

pub returns-then-shows-clause-value : goal.returns-then-shows-clause-value
returns-then-shows-clause-value g c =
    ap Some c.show_packet.ensures.value
    ∙ shown_at (g.R.RowColumns.rows c.args.self.now.rows.now) c.args.self.now.buffers.now c.args.now c.args.at.now.column c.args.at.now.index c.in_ok-row.row c.in_ok-row.number c.in_ok-buffer.buffer.now
    (sym c.two_numbers.ensures ∙ c.in_ok-row.was) (sym c.get.ensures ∙ ap option_copied c.in_ok-buffer.was) (sym c.shows.ensures ∙ c.if-shows.true)
