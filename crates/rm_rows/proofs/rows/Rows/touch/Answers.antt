use Rattle.std.proofs.Common.{◌<◌, ◌≤◌, All, sym, subst, arith}
use Rattle.rm_evicting.specs.declared.Row.{Row}
use Rattle.rm_evicting.proofs.Keys.{exact_key}
use Rattle.rm_rows.specs.Table.{Table}
use Rattle.rm_rows.proofs.TouchLemmas.{rows_count}
use Rattle.rm_rows.proofs.rows.Rows.touch.Goals as goal

pub refer-requires-clause-stamp : goal.refer-requires-clause-stamp
refer-requires-clause-stamp g c =
    subst (λ (t : Table g.row.K.Denot g.row.V.Denot). All (λ (row : Row g.row.K.Denot g.row.V.Denot). row.last < c.args.stamp) t.rows) (sym c.self.view_is) c.requires.stamp

pub refer-requires-clause-tick : goal.refer-requires-clause-tick
refer-requires-clause-tick g c =
    subst (λ (t : Table g.row.K.Denot g.row.V.Denot). All (λ (row : Row g.row.K.Denot g.row.V.Denot). row.tick ≤ c.args.tick) t.rows) (sym c.self.view_is) c.requires.tick

pub returns-clause-few : goal.returns-clause-few
returns-clause-few g c =
    let exact = exact_key g.K.PartialEq.eq g.K.Ord.cmp g.met.K.Eq.laws g.met.K.Ord.matches_eq g.met.K.Key.exact in
    let h = c.refer.ensures.kept in let few = h.few in let within = c.self.invariant.within in
    let count = rows_count g.K.Ord.cmp g.met.K.Ord.total g.K.PartialEq.eq exact c.refer.new.list c.refer.new.entered.items c.refer.new.index.items h.kept in
    omega (arith, count)
