use Rattle.rm_evicting.proofs.Keys.{exact_key}
use Rattle.rm_layers.proofs.EventSteps.{is_of-named, is_of-unnamed, is_of-retuned}
use Rattle.rm_layers.proofs.TurningLemmas.{change-retunes}
use Rattle.rm_layers.proofs.each_event.Goals as goal

pub returns-clause-names : goal.returns-clause-names
returns-clause-names g c = λ blank add none more cap slots r k part u some on tuned rises is.
    is_of-named g.K.PartialEq.eq (exact_key g.K.PartialEq.eq g.K.Ord.cmp g.met.K.Eq.laws g.met.K.Ord.matches_eq g.met.K.Key.exact) blank add none more cap slots r k part u some on tuned rises.0 rises.1 is

pub returns-clause-unnamed : goal.returns-clause-unnamed
returns-clause-unnamed g c = λ blank add none more cap slots r k part u off is.
    is_of-unnamed g.K.PartialEq.eq (exact_key g.K.PartialEq.eq g.K.Ord.cmp g.met.K.Eq.laws g.met.K.Ord.matches_eq g.met.K.Key.exact) blank add none more 0 r cap slots k part u off is

pub returns-clause-turned : goal.returns-clause-turned
returns-clause-turned g c = λ blank add none more cap s ts r old slots u up before after change is.
    is_of-retuned g.K.PartialEq.eq (exact_key g.K.PartialEq.eq g.K.Ord.cmp g.met.K.Eq.laws g.met.K.Ord.matches_eq g.met.K.Key.exact) blank add none more cap s ts r old slots u change.alone up (change-retunes s r ts old slots before after change) is
