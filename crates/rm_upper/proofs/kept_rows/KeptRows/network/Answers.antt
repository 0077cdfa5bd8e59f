use Rattle.std.proofs.Common.{sym, ap, ◌∙◌}
use Rattle.rm_rows.specs.Table.{Table, row_of}
use Rattle.rm_upper.specs.Kept.{NetworkRow}
use Rattle.rm_upper.specs.Cells.{network_in}
use Rattle.rm_upper.proofs.SeenTables.{value-seen, tick-seen, absent-seen, no_row-seen, no_row_by_tick, network_of}
use Rattle.rm_upper.proofs.kept_rows.KeptRows.network.Goals as goal

pub returns-in_err-row : goal.returns-in_err-row
returns-in_err-row g c =
    let none = no_row-seen g.N.LayerCounts.seen g.K.PartialEq.eq c.args.key.now c.self.inside.rows.rows (sym c.in_err-row.ensures) in
    c.from_residual.ensures ∙ sym (ap network_in none)
    ∙ ap (λ (x : Table g.row.K.Denot (NetworkRow g.row.N.Denot g.row.N-Application.Denot)). network_in (row_of g.K.PartialEq.eq c.args.key.now x.rows)) c.self.view_is

pub returns-in_err-tick : goal.returns-in_err-tick
returns-in_err-tick g c =
    let none = absent-seen g.N.LayerCounts.seen g.K.PartialEq.eq c.args.key.now c.self.inside.rows.rows (no_row_by_tick _ (sym c.in_err-tick.ensures)) in
    c.from_residual-in_err-tick.ensures ∙ sym (ap network_in none)
    ∙ ap (λ (x : Table g.row.K.Denot (NetworkRow g.row.N.Denot g.row.N-Application.Denot)). network_in (row_of g.K.PartialEq.eq c.args.key.now x.rows)) c.self.view_is

pub returns : goal.returns
returns g c =
    let there = value-seen g.N.LayerCounts.seen g.K.PartialEq.eq c.args.key.now c.self.inside.rows.rows c.in_ok-row.row.now (sym c.in_ok-row.ensures) in
    let last = tick-seen g.N.LayerCounts.seen g.K.PartialEq.eq c.args.key.now c.self.inside.rows.rows ∙ sym c.in_ok-tick.ensures in
    c.network.ensures ∙ sym (network_of _ (g.N.LayerCounts.seen c.in_ok-row.row.now) c.in_ok-tick.tick there last)
    ∙ ap (λ (x : Table g.row.K.Denot (NetworkRow g.row.N.Denot g.row.N-Application.Denot)). network_in (row_of g.K.PartialEq.eq c.args.key.now x.rows)) c.self.view_is
