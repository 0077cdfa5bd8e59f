use Rattle.rm_keyed.proofs.IndexLemmas.{over_rises, first_above, none_above}
use Rattle.rm_keyed.proofs.walk.key_above.Goals as goal

pub least-requires : goal.least-requires
least-requires g c = record { upward = over_rises g.K.Ord.cmp g.K.Indexed.index g.met.K.Indexed.rises c.args.numbers.now }

pub returns-in-Some-clause-least : goal.returns-in-Some-clause-least
returns-in-Some-clause-least g c =
    rw c.index_of.ensures.numbers
    (first_above g.K.Ord.cmp g.met.K.Ord.total g.met.K.Key.exact g.K.Indexed.index g.met.K.Indexed.rises (g.O.KeyOrder.keys c.args.keys.now) c.args.numbers.now c.in-Some.key.now c.in-Some.ensures)

pub returns-in-None-clause-least : goal.returns-in-None-clause-least
returns-in-None-clause-least g c =
    none_above g.K.Ord.cmp g.met.K.Ord.total g.met.K.Key.exact g.K.Indexed.index g.met.K.Indexed.rises (g.O.KeyOrder.keys c.args.keys.now) c.args.numbers.now c.in-None.ensures
