use Rattle.rm_layers.proofs.Deletes.{within-named, within-retuned}
use Rattle.rm_layers.proofs.within.Goals as goal

pub returns-clause-named : goal.returns-clause-named
returns-clause-named g c = λ blank add none more cap slots k part u is. within-named g.K.PartialEq.eq blank add none more cap slots k part u is

pub returns-clause-turned : goal.returns-clause-turned
returns-clause-turned g c = λ old slots u is. within-retuned old slots u is
