use Rattle.std.proofs.Common.{Some, sym, ap, ◌∙◌}
use Rattle.std.specs.Option.{option_map}
use Rattle.rm_rows.specs.Table.{Table, row_of}
use Rattle.rm_upper.specs.Kept.{NetworkRow}
use Rattle.rm_upper.specs.Shown.{applications_of}
use Rattle.rm_upper.proofs.SeenTables.{value-seen, no_row-seen, applications_there}
use Rattle.rm_upper.proofs.kept_rows.KeptRows.applications.Goals as goal

pub returns-in-Some-clause-value : goal.returns-in-Some-clause-value
returns-in-Some-clause-value g c =
    let there = value-seen g.N.LayerCounts.seen g.K.PartialEq.eq c.args.key.now c.self.inside.rows.rows c.in-Some.row.now (sym c.in-Some.ensures) in
    ap (λ l. Some l) c.applications.ensures.value ∙ sym (applications_there _ (g.N.LayerCounts.seen c.in-Some.row.now) there)
    ∙ ap (λ (x : Table g.row.K.Denot (NetworkRow g.row.N.Denot g.row.N-Application.Denot)). option_map applications_of (row_of g.K.PartialEq.eq c.args.key.now x.rows)) c.self.view_is

pub returns-in-None-clause-value : goal.returns-in-None-clause-value
returns-in-None-clause-value g c =
    let none = no_row-seen g.N.LayerCounts.seen g.K.PartialEq.eq c.args.key.now c.self.inside.rows.rows (sym c.in-None.ensures) in
    sym (ap (option_map applications_of) none) ∙ ap (λ (x : Table g.row.K.Denot (NetworkRow g.row.N.Denot g.row.N-Application.Denot)). option_map applications_of (row_of g.K.PartialEq.eq c.args.key.now x.rows)) c.self.view_is
