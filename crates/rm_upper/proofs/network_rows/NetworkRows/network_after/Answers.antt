use Rattle.std.proofs.Common.{◌≡◌, Some, None, subst}
use Rattle.rm_evicting.proofs.Keys.{exact_key}
use Rattle.rm_rows.specs.Table.{IsNextMark}
use Rattle.rm_upper.specs.Sound.{AreSound}
use Rattle.rm_upper.specs.Standing.{Layered}
use Rattle.rm_upper.proofs.NetworkWalk.{network_instance, network_shown}
use Rattle.rm_upper.proofs.network_rows.NetworkRows.network_after.Goals as goal

pub returns-in-Some : goal.returns-in-Some
returns-in-Some g c =
    let exact = exact_key g.K.PartialEq.eq g.K.Ord.cmp g.met.K.Eq.laws g.met.K.Ord.matches_eq g.met.K.Key.exact in
    let layered : Layered g.row.K.Denot g.row.N.Denot g.row.N-Application.Denot = record { table = c.self.inside.rows; slots = c.self.inside.slots; network_inserts = c.self.inside.network_inserts; application_inserts = c.self.inside.application_inserts } in
    let seen : layered ≡ c.args.self.now = c.self.view_is in
    let inside : IsNextMark g.K.Ord.cmp c.self.inside.rows.rows c.args.mark c.args.from (Some (c.in-Some.mark, c.in-Some.key.now)) = rw (c.as_ref.ensures.value, c.in-Some.is) at c.mark_after.ensures in
    let next : IsNextMark g.K.Ord.cmp c.args.self.now.table.rows c.args.mark c.args.from (Some (c.in-Some.mark, c.in-Some.key.now)) = subst (λ (x : Layered g.row.K.Denot g.row.N.Denot g.row.N-Application.Denot). IsNextMark g.K.Ord.cmp x.table.rows c.args.mark c.args.from (Some (c.in-Some.mark, c.in-Some.key.now))) seen inside in
    let sound : AreSound g.K.PartialEq.eq c.args.self.now.table.rows = subst (λ (x : Layered g.row.K.Denot g.row.N.Denot g.row.N-Application.Denot). AreSound g.K.PartialEq.eq x.table.rows) seen c.self.invariant.1 in
    record {
      kept = network_shown g.K.PartialEq.eq exact c.args.self.now sound g.K.Ord.cmp c.args.mark c.args.from (Some (c.in-Some.mark, c.in-Some.key.now)) next;
      stands = λ r tuned stands. network_instance g.K.PartialEq.eq exact g.N.Counts.tally c.args.self.now r tuned stands g.K.Ord.cmp c.args.mark c.args.from (Some (c.in-Some.mark, c.in-Some.key.now)) next;
    }

pub returns-in-None : goal.returns-in-None
returns-in-None g c =
    let exact = exact_key g.K.PartialEq.eq g.K.Ord.cmp g.met.K.Eq.laws g.met.K.Ord.matches_eq g.met.K.Key.exact in
    let layered : Layered g.row.K.Denot g.row.N.Denot g.row.N-Application.Denot = record { table = c.self.inside.rows; slots = c.self.inside.slots; network_inserts = c.self.inside.network_inserts; application_inserts = c.self.inside.application_inserts } in
    let seen : layered ≡ c.args.self.now = c.self.view_is in
    let inside : IsNextMark g.K.Ord.cmp c.self.inside.rows.rows c.args.mark c.args.from None = rw (c.as_ref.ensures.value, c.in-None.is) at c.mark_after.ensures in
    let next : IsNextMark g.K.Ord.cmp c.args.self.now.table.rows c.args.mark c.args.from None = subst (λ (x : Layered g.row.K.Denot g.row.N.Denot g.row.N-Application.Denot). IsNextMark g.K.Ord.cmp x.table.rows c.args.mark c.args.from None) seen inside in
    let sound : AreSound g.K.PartialEq.eq c.args.self.now.table.rows = subst (λ (x : Layered g.row.K.Denot g.row.N.Denot g.row.N-Application.Denot). AreSound g.K.PartialEq.eq x.table.rows) seen c.self.invariant.1 in
    record {
      kept = network_shown g.K.PartialEq.eq exact c.args.self.now sound g.K.Ord.cmp c.args.mark c.args.from None next;
      stands = λ r tuned stands. network_instance g.K.PartialEq.eq exact g.N.Counts.tally c.args.self.now r tuned stands g.K.Ord.cmp c.args.mark c.args.from None next;
    }
