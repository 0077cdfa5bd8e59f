use Rattle.rm_evicting.proofs.Keys.{exact_key}
use Rattle.rm_layers.specs.Marks.{IsAboveApplication}
use Rattle.rm_upper.proofs.NetworkWalk.{application_instance}
use Rattle.rm_upper.proofs.network_rows.NetworkRows.application_after.Goals as goal

pub returns-clause-stands : goal.returns-clause-stands
returns-clause-stands g c = λ r tuned stands.
    application_instance g.N.Counts.tally g.K.PartialEq.eq (exact_key g.K.PartialEq.eq g.K.Ord.cmp g.met.K.Eq.laws g.met.K.Ord.matches_eq g.met.K.Key.exact) g.K.Ord.cmp c.args.self.now r tuned stands c.args.mark
    (IsAboveApplication g.K.Ord.cmp c.args.from) c.application_after.result c.application_after.ensures
