use Rattle.std.proofs.Common.{◌≡◌, ap, subst, List, Some, None}
use Rattle.rm_evicting.specs.declared.Row.{Row}
use Rattle.rm_rows.specs.Table.{Table, IsFirstPassing, keys_of}
use Rattle.rm_rows.specs.Index.{rows_in}
use Rattle.rm_rows.proofs.rows.Rows.first.Goals as goal

pub returns-in-Some : goal.returns-in-Some
returns-in-Some g c =
    let here : rows_in c.self.inside.list c.self.inside.entered.items ≡ c.args.self.now.rows = ap (λ (t : Table g.row.K.Denot g.row.V.Denot). t.rows) c.self.view_is in
    subst (λ (rows : List (Row g.row.K.Denot g.row.V.Denot)). IsFirstPassing g.K.Ord.cmp (g.A.Above.is_above c.args.point.now) (keys_of rows) (Some c.in-Some.row.now.key)) here
    (c.in-Some.ensures c.self.inside.entered.items c.self.invariant.holds.kept)

pub returns-in-None : goal.returns-in-None
returns-in-None g c =
    let here : rows_in c.self.inside.list c.self.inside.entered.items ≡ c.args.self.now.rows = ap (λ (t : Table g.row.K.Denot g.row.V.Denot). t.rows) c.self.view_is in
    subst (λ (rows : List (Row g.row.K.Denot g.row.V.Denot)). IsFirstPassing g.K.Ord.cmp (g.A.Above.is_above c.args.point.now) (keys_of rows) None) here
    (c.in-None.ensures c.self.inside.entered.items c.self.invariant.holds.kept)
