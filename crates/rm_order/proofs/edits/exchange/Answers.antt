use Rattle.std.proofs.Common.{◌↔◌, ◌⊎◌, ◌≡◌, List, length, Contains, refl, ap, sym, subst, arith}
use Rattle.std.proofs.lemmas.List.Edits.{length-remove}
use Rattle.rm_order.specs.Order.{IsCut, AreRising}
use Rattle.rm_order.proofs.EditLemmas.{from_key, moved_set, gone_at, from_within, cut_left, rising_exchanged, keys_exchanged}
use Rattle.rm_order.proofs.edits.exchange.Goals as goal

pub move_item-requires-clause-from : goal.move_item-requires-clause-from
move_item-requires-clause-from g c =
    let order = g.met.K.Ord.total in let exact = g.met.K.Key.exact in let keys = c.args.keys.now.items in let from = c.first_place-from.result in let to = c.first_place-to.result in
    let out = subst (λ (l : List g.row.K.Denot). IsCut (from_key g.K.Ord.cmp c.args.gone) l from) c.deref.ensures.value c.first_place-from.ensures in
    let come = subst (λ (l : List g.row.K.Denot). IsCut (from_key g.K.Ord.cmp c.args.key) l to) c.deref-2.ensures.value c.first_place-to.ensures in
    let within = from_within g.K.Ord.cmp order exact keys c.requires.rising c.args.gone c.args.key from to out come c.requires.held c.requires.absent in let as_many = ap length c.deref_mut.ensures.value in
    omega (arith, within, as_many)

pub index_mut-requires : goal.index_mut-requires
index_mut-requires g c =
    let order = g.met.K.Ord.total in let exact = g.met.K.Key.exact in let keys = c.args.keys.now.items in let from = c.first_place-from.result in let to = c.first_place-to.result in
    let out = subst (λ (l : List g.row.K.Denot). IsCut (from_key g.K.Ord.cmp c.args.gone) l from) c.deref.ensures.value c.first_place-from.ensures in
    let come = subst (λ (l : List g.row.K.Denot). IsCut (from_key g.K.Ord.cmp c.args.key) l to) c.deref-2.ensures.value c.first_place-to.ensures in
    let within = from_within g.K.Ord.cmp order exact keys c.requires.rising c.args.gone c.args.key from to out come c.requires.held c.requires.absent in let fits = (cut_left g.K.Ord.cmp order exact keys c.requires.rising c.args.gone c.args.key from to out come c.requires.held c.requires.absent).within in let fewer = length-remove keys from within in let there = c.place_left.ensures in let count = c.args.keys.now.ok.0 in
    omega (arith, within, fits, fewer, there, count)

pub returns : goal.returns
returns g c =
    let order = g.met.K.Ord.total in let exact = g.met.K.Key.exact in let keys = c.args.keys.now.items in let from = c.first_place-from.result in let to = c.first_place-to.result in
    let out = subst (λ (l : List g.row.K.Denot). IsCut (from_key g.K.Ord.cmp c.args.gone) l from) c.deref.ensures.value c.first_place-from.ensures in
    let come = subst (λ (l : List g.row.K.Denot). IsCut (from_key g.K.Ord.cmp c.args.key) l to) c.deref-2.ensures.value c.first_place-to.ensures in
    let is = moved_set keys c.deref_mut.result.now c.move_item.new.items c.args.keys.now.len c.place_left.result from to c.args.gone c.args.key c.deref_mut.ensures.value c.args.keys.now.ok.0
    (gone_at g.K.Ord.cmp order exact keys c.requires.rising c.args.gone c.args.key from to out come c.requires.held c.requires.absent) (cut_left g.K.Ord.cmp order exact keys c.requires.rising c.args.gone c.args.key from to out come c.requires.held c.requires.absent).within c.place_left.ensures c.move_item.ensures.len c.move_item.ensures.moved in
    record {
      rising = subst (AreRising g.K.Ord.cmp) (sym is) (rising_exchanged g.K.Ord.cmp order exact keys c.requires.rising c.args.gone c.args.key from to out come c.requires.held c.requires.absent);
      keys = λ k. subst (λ (l : List g.row.K.Denot). Contains l k ↔ ((Contains keys k × (¬ (k ≡ c.args.gone))) ⊎ (k ≡ c.args.key))) (sym is) (keys_exchanged g.K.Ord.cmp order exact keys c.requires.rising c.args.gone c.args.key from to out come c.requires.held c.requires.absent k);
      capacity = refl;
    }
