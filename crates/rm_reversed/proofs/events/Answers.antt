use Rattle.rm_reversed.proofs.SideLemmas.{is_side-of, events-of, by_references-of}
use Rattle.rm_reversed.proofs.events.Goals as goal

pub returns : goal.returns
returns g c = record {
  side = λ side is. is_side-of g.K.Reversible.reversing side is;
  events = λ side journal. events-of g.K.Reversible.reversing side journal;
  by_references = λ side references are journal. by_references-of g.K.Reversible.reversing side references are journal;
}
