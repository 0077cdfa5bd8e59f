use Rattle.std.proofs.Common.{List, subst}
use Rattle.rm_order.specs.Order.{IsCut}
use Rattle.rm_order.proofs.EditLemmas.{from_key, rising_with, keys_with}
use Rattle.rm_order.proofs.edits.put.Goals as goal

pub returns-clause-rising : goal.returns-clause-rising
returns-clause-rising g c =
    let keys = c.args.keys.now.items in let place = c.first_place-place.result in
    let cut = subst (λ (l : List g.row.K.Denot). IsCut (from_key g.K.Ord.cmp c.args.key) l place) c.deref.ensures.value c.first_place-place.ensures in
    rw (c.insert.ensures.items, c.in-Ok.is) (rising_with g.K.Ord.cmp g.met.K.Ord.total g.met.K.Key.exact keys c.requires.rising c.args.key place cut c.requires.absent)

pub returns-clause-keys : goal.returns-clause-keys
returns-clause-keys g c =
    let keys = c.args.keys.now.items in let place = c.first_place-place.result in
    let cut = subst (λ (l : List g.row.K.Denot). IsCut (from_key g.K.Ord.cmp c.args.key) l place) c.deref.ensures.value c.first_place-place.ensures in
    rw (c.insert.ensures.items, c.in-Ok.is) (keys_with g.K.Ord.cmp g.met.K.Ord.total g.met.K.Key.exact keys c.requires.rising c.args.key place cut)
