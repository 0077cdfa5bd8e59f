use Rattle.std.proofs.Common.{refl, ◌∙◌}
use Rattle.rm_evicting.proofs.Keys.{exact_key}
use Rattle.rm_rows.specs.Table.{row_of}
use Rattle.rm_upper.proofs.CellLemmas.{application-is}
use Rattle.rm_upper.proofs.network_rows.NetworkRows.application.Goals as goal

pub returns-clause-stands : goal.returns-clause-stands
returns-clause-stands g c = λ r tuned stands.
    let exact = exact_key g.K.PartialEq.eq g.K.Ord.cmp g.met.K.Eq.laws g.met.K.Ord.matches_eq g.met.K.Key.exact in
    c.find_application.ensures ∙ application-is g.N.Counts.tally g.K.PartialEq.eq exact c.args.self.now r tuned stands c.args.key.now c.args.protocol (row_of g.K.PartialEq.eq c.args.key.now c.args.self.now.table.rows) refl
