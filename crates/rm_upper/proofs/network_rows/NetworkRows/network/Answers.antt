use Rattle.std.proofs.Common.{refl, ap, ◌∙◌}
use Rattle.rm_evicting.proofs.Keys.{exact_key}
use Rattle.rm_rows.specs.Table.{row_of}
use Rattle.rm_upper.specs.Standing.{Layered}
use Rattle.rm_upper.specs.Cells.{network_in}
use Rattle.rm_upper.proofs.CellLemmas.{network-is}
use Rattle.rm_upper.proofs.network_rows.NetworkRows.network.Goals as goal

pub returns-clause-kept : goal.returns-clause-kept
returns-clause-kept g c =
    c.network.ensures ∙ ap (λ (x : Layered g.row.K.Denot g.row.N.Denot g.row.N-Application.Denot). network_in (row_of g.K.PartialEq.eq c.args.key.now x.table.rows)) c.self.view_is

pub returns-clause-stands : goal.returns-clause-stands
returns-clause-stands g c = λ r tuned stands.
    let exact = exact_key g.K.PartialEq.eq g.K.Ord.cmp g.met.K.Eq.laws g.met.K.Ord.matches_eq g.met.K.Key.exact in
    c.network.ensures ∙ ap (λ (x : Layered g.row.K.Denot g.row.N.Denot g.row.N-Application.Denot). network_in (row_of g.K.PartialEq.eq c.args.key.now x.table.rows)) c.self.view_is ∙ network-is g.N.Counts.tally g.K.PartialEq.eq exact c.args.self.now r tuned stands c.args.key.now (row_of g.K.PartialEq.eq c.args.key.now c.args.self.now.table.rows) refl
