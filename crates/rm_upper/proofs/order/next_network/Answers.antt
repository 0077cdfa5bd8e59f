use Rattle.std.proofs.Common.{Some, None}
use Rattle.std.proofs.lemmas.Bool.{both_ways}
use Rattle.rm_evicting.proofs.Keys.{exact_key}
use Rattle.rm_rows.specs.Table.{keys_of, IsNextKey}
use Rattle.rm_layers.specs.Marks.{StandsAt}
use Rattle.rm_upper.specs.Walk.{ShowsNetwork}
use Rattle.rm_upper.proofs.RowWalk.{name_here, name_ends, name_next, fewer_above, network_held}
use Rattle.rm_upper.proofs.order.next_network.Goals as goal

pub returns-then-stands_at-clause-least : goal.returns-then-stands_at-clause-least
returns-then-stands_at-clause-least g c =
    let layered = g.O.RowOrder.seen c.args.order.now in
    let exact = exact_key g.O.Key.PartialEq.eq g.O.Key.Ord.cmp g.met.O.Key.Eq.laws g.met.O.Key.Ord.matches_eq g.met.O.Key.Key.exact in
    let next : IsNextKey g.O.Key.Ord.cmp (keys_of layered.table.rows) c.loop-key.above (Some c.in-Some.key) = rw (c.as_ref.ensures.value, c.in-Some.is) at c.after.ensures in
    c.loop-key.invariant (Some c.in-Some.key)
    (name_here g.O.Key.Ord.cmp g.met.O.Key.Ord.total g.met.O.Key.Key.exact (StandsAt (ShowsNetwork g.O.Key.PartialEq.eq layered) c.args.mark) (keys_of layered.table.rows)
    (λ k s. network_held g.O.Key.PartialEq.eq layered c.args.mark exact k s) c.loop-key.above c.in-Some.key next (c.stands_at.ensures.stands.0 c.if-stands_at.true))

pub loop-key-smaller : goal.loop-key-smaller
loop-key-smaller g c =
    let layered = g.O.RowOrder.seen c.args.order.now in
    let next : IsNextKey g.O.Key.Ord.cmp (keys_of layered.table.rows) c.loop-key.above (Some c.in-Some.key) = rw (c.as_ref.ensures.value, c.in-Some.is) at c.after.ensures in
    fewer_above g.O.Key.Ord.cmp g.met.O.Key.Ord.total c.loop-key.above c.in-Some.key (keys_of layered.table.rows) next

pub loop-key-preserved : goal.loop-key-preserved
loop-key-preserved g c =
    let layered = g.O.RowOrder.seen c.args.order.now in
    let exact = exact_key g.O.Key.PartialEq.eq g.O.Key.Ord.cmp g.met.O.Key.Eq.laws g.met.O.Key.Ord.matches_eq g.met.O.Key.Key.exact in
    let next : IsNextKey g.O.Key.Ord.cmp (keys_of layered.table.rows) c.loop-key.above (Some c.in-Some.key) = rw (c.as_ref.ensures.value, c.in-Some.is) at c.after.ensures in
    λ res l. c.loop-key.invariant res
    (name_next g.O.Key.Ord.cmp g.met.O.Key.Ord.total g.met.O.Key.Key.exact (StandsAt (ShowsNetwork g.O.Key.PartialEq.eq layered) c.args.mark) (keys_of layered.table.rows)
    (λ k s. network_held g.O.Key.PartialEq.eq layered c.args.mark exact k s) c.loop-key.above c.in-Some.key next (λ s. both_ways c.stands_at.result c.if-stands_at.false (c.stands_at.ensures.stands.1 s)) res l)

pub returns-in_default-clause-least : goal.returns-in_default-clause-least
returns-in_default-clause-least g c =
    let layered = g.O.RowOrder.seen c.args.order.now in
    let exact = exact_key g.O.Key.PartialEq.eq g.O.Key.Ord.cmp g.met.O.Key.Eq.laws g.met.O.Key.Ord.matches_eq g.met.O.Key.Key.exact in
    let next : IsNextKey g.O.Key.Ord.cmp (keys_of layered.table.rows) c.loop-key.above None = rw (c.as_ref.ensures.value, c.in_default.is) at c.after.ensures in
    c.loop-key.invariant None
    (name_ends g.O.Key.Ord.cmp g.met.O.Key.Ord.total g.met.O.Key.Key.exact (StandsAt (ShowsNetwork g.O.Key.PartialEq.eq layered) c.args.mark) (keys_of layered.table.rows)
    (λ k s. network_held g.O.Key.PartialEq.eq layered c.args.mark exact k s) c.loop-key.above next)
