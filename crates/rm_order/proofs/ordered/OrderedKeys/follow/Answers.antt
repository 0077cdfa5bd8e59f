use Rattle.std.proofs.Common.{◌≤◌, length, Contains, ap, sym, ◌∙◌, subst, arith}
use Rattle.std.proofs.lemmas.List.{length_push}
use Rattle.rm_evicting.proofs.Keys.{exact_key}
use Rattle.rm_rows.specs.declared.touch.Touch.{Touch}
use Rattle.rm_rows.specs.Table.{AreAfter}
use Rattle.rm_order.specs.Order.{Ordered, AreReversed}
use Rattle.rm_order.proofs.FollowLemmas.{absent, held, no_more, came, gave_way}
use Rattle.rm_order.proofs.ordered.OrderedKeys.follow.Goals as goal

pub put-requires-clause-absent : goal.put-requires-clause-absent
put-requires-clause-absent g c =
    let reversed = subst (λ (o : Ordered g.row.K.Denot). AreReversed g.K.Reversible.reversing o.keys c.requires.few.0) (sym c.self.view_is) c.requires.few.2 in
    let did = subst (λ (t : Touch g.row.K.Denot). AreAfter g.K.PartialEq.eq c.args.key.now t c.requires.few.0 c.requires.few.1) c.in-Fresh.is c.requires.few.3 in
    subst (λ (k : g.row.K.Denot). ¬ (Contains c.self.inside.keys.items k)) (sym c.reversed.ensures)
    (absent g.K.PartialEq.eq g.met.K.Eq.laws (exact_key g.K.PartialEq.eq g.K.Ord.cmp g.met.K.Eq.laws g.met.K.Ord.matches_eq g.met.K.Key.exact) g.K.Reversible.reversing g.met.K.Reversible.twice c.self.inside.keys.items c.requires.few.0 reversed c.args.key.now did.0)

pub put-requires-clause-room : goal.put-requires-clause-room
put-requires-clause-room g c =
    let reversed = subst (λ (o : Ordered g.row.K.Denot). AreReversed g.K.Reversible.reversing o.keys c.requires.few.0) (sym c.self.view_is) c.requires.few.2 in
    let did = subst (λ (t : Touch g.row.K.Denot). AreAfter g.K.PartialEq.eq c.args.key.now t c.requires.few.0 c.requires.few.1) c.in-Fresh.is c.requires.few.3 in
    let fewer = no_more g.K.PartialEq.eq g.met.K.Eq.laws (exact_key g.K.PartialEq.eq g.K.Ord.cmp g.met.K.Eq.laws g.met.K.Ord.matches_eq g.met.K.Key.exact) g.K.Reversible.reversing g.met.K.Reversible.twice c.self.inside.keys.items c.requires.few.0 reversed g.K.Ord.cmp g.met.K.Ord.total c.self.invariant in
    let more = ap length did.1 ∙ length_push c.requires.few.0 c.args.key.now in
    let room = subst (λ (o : Ordered g.row.K.Denot). length c.requires.few.1 ≤ o.room) (sym c.self.view_is) c.requires.few.4 in
    let count = c.self.inside.keys.ok.0 in
    omega (arith, fewer, more, room, count)

pub exchange-requires-clause-held : goal.exchange-requires-clause-held
exchange-requires-clause-held g c =
    let reversed = subst (λ (o : Ordered g.row.K.Denot). AreReversed g.K.Reversible.reversing o.keys c.requires.few.0) (sym c.self.view_is) c.requires.few.2 in
    let did = subst (λ (t : Touch g.row.K.Denot). AreAfter g.K.PartialEq.eq c.args.key.now t c.requires.few.0 c.requires.few.1) c.in-Evicted.is c.requires.few.3 in
    subst (Contains c.self.inside.keys.items) (sym c.reversed-in-Evicted.ensures)
    (held g.K.PartialEq.eq g.met.K.Eq.laws (exact_key g.K.PartialEq.eq g.K.Ord.cmp g.met.K.Eq.laws g.met.K.Ord.matches_eq g.met.K.Key.exact) g.K.Reversible.reversing g.met.K.Reversible.twice c.self.inside.keys.items c.requires.few.0 reversed c.in-Evicted.gone did.1)

pub exchange-requires-clause-absent : goal.exchange-requires-clause-absent
exchange-requires-clause-absent g c =
    let reversed = subst (λ (o : Ordered g.row.K.Denot). AreReversed g.K.Reversible.reversing o.keys c.requires.few.0) (sym c.self.view_is) c.requires.few.2 in
    let did = subst (λ (t : Touch g.row.K.Denot). AreAfter g.K.PartialEq.eq c.args.key.now t c.requires.few.0 c.requires.few.1) c.in-Evicted.is c.requires.few.3 in
    subst (λ (k : g.row.K.Denot). ¬ (Contains c.self.inside.keys.items k)) (sym c.reversed-in-Evicted-2.ensures)
    (absent g.K.PartialEq.eq g.met.K.Eq.laws (exact_key g.K.PartialEq.eq g.K.Ord.cmp g.met.K.Eq.laws g.met.K.Ord.matches_eq g.met.K.Key.exact) g.K.Reversible.reversing g.met.K.Reversible.twice c.self.inside.keys.items c.requires.few.0 reversed c.args.key.now did.0)

pub returns-in-Held-clause-keys : goal.returns-in-Held-clause-keys
returns-in-Held-clause-keys g c =
    λ keys after reversed did.
    let still = subst (λ (t : Touch g.row.K.Denot). AreAfter g.K.PartialEq.eq c.args.key.now t keys after) c.in-Held.is did in
    subst (AreReversed g.K.Reversible.reversing c.args.self.now.keys) (sym still) reversed

pub returns-in-Fresh-clause-keys : goal.returns-in-Fresh-clause-keys
returns-in-Fresh-clause-keys g c =
    λ keys after reversed touched.
    let stood = subst (λ (o : Ordered g.row.K.Denot). AreReversed g.K.Reversible.reversing o.keys keys) (sym c.self.view_is) reversed in
    let did = subst (λ (t : Touch g.row.K.Denot). AreAfter g.K.PartialEq.eq c.args.key.now t keys after) c.in-Fresh.is touched in
    came g.K.PartialEq.eq g.met.K.Eq.laws (exact_key g.K.PartialEq.eq g.K.Ord.cmp g.met.K.Eq.laws g.met.K.Ord.matches_eq g.met.K.Key.exact) g.K.Reversible.reversing g.met.K.Reversible.twice c.self.inside.keys.items keys stood c.args.key.now c.put.new.keys.items after (rw (← c.reversed.ensures) c.put.ensures.keys) did.1

pub returns-in-Evicted-clause-keys : goal.returns-in-Evicted-clause-keys
returns-in-Evicted-clause-keys g c =
    λ keys after reversed touched.
    let stood = subst (λ (o : Ordered g.row.K.Denot). AreReversed g.K.Reversible.reversing o.keys keys) (sym c.self.view_is) reversed in
    let did = subst (λ (t : Touch g.row.K.Denot). AreAfter g.K.PartialEq.eq c.args.key.now t keys after) c.in-Evicted.is touched in
    gave_way g.K.PartialEq.eq g.met.K.Eq.laws (exact_key g.K.PartialEq.eq g.K.Ord.cmp g.met.K.Eq.laws g.met.K.Ord.matches_eq g.met.K.Key.exact) g.K.Reversible.reversing g.met.K.Reversible.twice c.self.inside.keys.items keys stood c.in-Evicted.gone c.args.key.now c.exchange.new.keys.items after
    (rw (← c.reversed-in-Evicted.ensures, ← c.reversed-in-Evicted-2.ensures) c.exchange.ensures.keys) did.2
