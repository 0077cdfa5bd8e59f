use Rattle.std.proofs.Common.{◌∙◌, sym, ap}
use Rattle.std.specs.Prelude.{filter}
use Rattle.rm_evicting.proofs.Keys.{exact_key}
use Rattle.rm_layers.specs.Network.{counts_for, contributions}
use Rattle.rm_layers.proofs.TurningLemmas.{contributions_by_place-are}
use Rattle.rm_layers.proofs.Ticks.{made_by_path, lasts-within}
use Rattle.rm_layers.proofs.events.Goals as goal

pub returns-clause-after : goal.returns-clause-after
returns-clause-after g c = λ cap h p s r rises on. contributions_by_place-are g.K.PartialEq.eq cap h p s r rises on ∙ ap (λ o. filter (counts_for p o) (contributions g.K.PartialEq.eq cap h r)) (sym on)

pub returns-clause-by_path : goal.returns-clause-by_path
returns-clause-by_path g c = λ cap k p part r off new. made_by_path g.K.PartialEq.eq (exact_key g.K.PartialEq.eq g.K.Ord.cmp g.met.K.Eq.laws g.met.K.Ord.matches_eq g.met.K.Key.exact) cap k p part r off new

pub returns-clause-lasts : goal.returns-clause-lasts
returns-clause-lasts g c = λ cap h p u v r timed application key. lasts-within g.K.PartialEq.eq cap h p u v r timed application key
