use Rattle.std.proofs.Common.{Some, None}
use Rattle.rm_evicting.proofs.Keys.{exact_key}
use Rattle.rm_rows.specs.Table.{keys_of, IsNextKey}
use Rattle.rm_upper.proofs.RowWalk.{found_here, goes_on, ends, starts, fewer_left}
use Rattle.rm_upper.proofs.order.next_application.Goals as goal
use Rattle.rm_upper.proofs.order.next_application.Goals.{in-Some, in-None+in-Some-after}

pub loop-found-init : goal.loop-found-init
loop-found-init g c =
    elim c.match-from.branch [
      | in-Some w ↦ rw (w.key-is, w.in-Some.is) (λ res l. l)
      | in-None+in-Some-after w ↦
          let next : IsNextKey g.O.Key.Ord.cmp (keys_of (g.O.RowOrder.seen c.args.order.now).table.rows) None (Some w.in-Some-after.first) = rw (w.as_ref.ensures.value, w.in-Some-after.is) at w.after.ensures in
          rw (w.key-is, w.in-None.is) (λ res l. starts g.O.Key.PartialEq.eq (exact_key g.O.Key.PartialEq.eq g.O.Key.Ord.cmp g.met.O.Key.Eq.laws g.met.O.Key.Ord.matches_eq g.met.O.Key.Key.exact) g.O.Key.Ord.cmp g.met.O.Key.Ord.total g.met.O.Key.Key.exact
          (g.O.RowOrder.seen c.args.order.now) c.args.mark w.in-Some-after.first res next l)
    ]

pub returns-in-Some-next_in-clause-least : goal.returns-in-Some-next_in-clause-least
returns-in-Some-next_in-clause-least g c =
    c.loop-found.invariant (Some (c.loop-found.key, c.in-Some-next_in.found))
    (found_here g.O.Key.PartialEq.eq (exact_key g.O.Key.PartialEq.eq g.O.Key.Ord.cmp g.met.O.Key.Eq.laws g.met.O.Key.Ord.matches_eq g.met.O.Key.Key.exact) g.O.Key.Ord.cmp g.met.O.Key.Ord.total g.met.O.Key.Key.exact
    (g.O.RowOrder.seen c.args.order.now) c.args.mark c.loop-found.key c.loop-found.protocol c.in-Some-next_in.found c.in-Some-next_in.ensures.least)

pub loop-found-smaller : goal.loop-found-smaller
loop-found-smaller g c =
    let next : IsNextKey g.O.Key.Ord.cmp (keys_of (g.O.RowOrder.seen c.args.order.now).table.rows) (Some c.loop-found.key) (Some c.in-Some-after-2.next) = rw c.in-Some-after-2.is at c.after-in-loop-found.ensures in
    fewer_left g.O.Key.Ord.cmp g.met.O.Key.Ord.total c.loop-found.key c.in-Some-after-2.next next.1 (keys_of (g.O.RowOrder.seen c.args.order.now).table.rows) next.0

pub loop-found-preserved : goal.loop-found-preserved
loop-found-preserved g c =
    let next : IsNextKey g.O.Key.Ord.cmp (keys_of (g.O.RowOrder.seen c.args.order.now).table.rows) (Some c.loop-found.key) (Some c.in-Some-after-2.next) = rw c.in-Some-after-2.is at c.after-in-loop-found.ensures in
    λ res l. c.loop-found.invariant res
    (goes_on g.O.Key.PartialEq.eq (exact_key g.O.Key.PartialEq.eq g.O.Key.Ord.cmp g.met.O.Key.Eq.laws g.met.O.Key.Ord.matches_eq g.met.O.Key.Key.exact) g.O.Key.Ord.cmp g.met.O.Key.Ord.total g.met.O.Key.Key.exact
    (g.O.RowOrder.seen c.args.order.now) c.args.mark c.loop-found.key c.in-Some-after-2.next c.loop-found.protocol res c.in_default.ensures.least next l)

pub returns-in-None-after-2-clause-least : goal.returns-in-None-after-2-clause-least
returns-in-None-after-2-clause-least g c =
    let end : IsNextKey g.O.Key.Ord.cmp (keys_of (g.O.RowOrder.seen c.args.order.now).table.rows) (Some c.loop-found.key) None = rw c.in-None-after-2.is at c.after-in-loop-found.ensures in
    c.loop-found.invariant None
    (ends g.O.Key.PartialEq.eq (exact_key g.O.Key.PartialEq.eq g.O.Key.Ord.cmp g.met.O.Key.Eq.laws g.met.O.Key.Ord.matches_eq g.met.O.Key.Key.exact) g.O.Key.Ord.cmp g.met.O.Key.Ord.total g.met.O.Key.Key.exact
    (g.O.RowOrder.seen c.args.order.now) c.args.mark c.loop-found.key c.loop-found.protocol c.in_default.ensures.least end)
