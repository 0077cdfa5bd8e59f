use Rattle.std.proofs.Common.{sym, ap, ◌∙◌}
use Rattle.std.specs.Option.{option_map}
use Rattle.rm_rows.specs.Table.{Table, row_of, tick_of}
use Rattle.rm_upper.specs.Kept.{NetworkRow}
use Rattle.rm_upper.proofs.SeenTables.{tick-seen}
use Rattle.rm_upper.proofs.kept_rows.KeptRows.mark.Goals as goal

pub returns : goal.returns
returns g c =
    c.mark.ensures ∙ sym (tick-seen g.N.LayerCounts.seen g.K.PartialEq.eq c.args.key.now c.self.inside.rows.rows)
    ∙ ap (λ (x : Table g.row.K.Denot (NetworkRow g.row.N.Denot g.row.N-Application.Denot)). option_map tick_of (row_of g.K.PartialEq.eq c.args.key.now x.rows)) c.self.view_is
