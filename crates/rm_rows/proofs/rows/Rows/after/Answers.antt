use Rattle.std.proofs.Common.{◌≡◌, ap, ◌∙◌, subst, List, Some, None}
use Rattle.std.specs.Prelude.{option_copied}
use Rattle.rm_evicting.specs.declared.Row.{Row}
use Rattle.rm_rows.specs.Table.{Table, IsNextKey, keys_of, from_mark}
use Rattle.rm_rows.specs.Index.{rows_in}
use Rattle.rm_rows.proofs.WalkLemmas.{from_mark-zero}
use Rattle.rm_rows.proofs.rows.Rows.after.Goals as goal

pub returns-in-Some : goal.returns-in-Some
returns-in-Some g c =
    let rows = rows_in c.self.inside.list c.self.inside.entered.items in
    let here : from_mark 0 rows ≡ c.args.self.now.rows = from_mark-zero rows ∙ ap (λ (t : Table g.row.K.Denot g.row.V.Denot). t.rows) c.self.view_is in
    subst (λ (rows : List (Row g.row.K.Denot g.row.V.Denot)). IsNextKey g.K.Ord.cmp (keys_of rows) (option_copied c.args.key) (Some c.in-Some.row.now.key)) here (rw c.copied.ensures at (c.in-Some.ensures.next c.self.inside.entered.items c.self.invariant.holds.kept))

pub returns-in-None : goal.returns-in-None
returns-in-None g c =
    let rows = rows_in c.self.inside.list c.self.inside.entered.items in
    let here : from_mark 0 rows ≡ c.args.self.now.rows = from_mark-zero rows ∙ ap (λ (t : Table g.row.K.Denot g.row.V.Denot). t.rows) c.self.view_is in
    subst (λ (rows : List (Row g.row.K.Denot g.row.V.Denot)). IsNextKey g.K.Ord.cmp (keys_of rows) (option_copied c.args.key) None) here (rw c.copied.ensures at (c.in-None.ensures.next c.self.inside.entered.items c.self.invariant.holds.kept))
