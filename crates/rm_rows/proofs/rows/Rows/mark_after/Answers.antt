use Rattle.std.proofs.Common.{◌≡◌, ◌+◌, ap, Some, None}
use Rattle.std.specs.Prelude.{option_copied}
use Rattle.rm_rows.specs.Table.{Table, IsNextKey, keys_of, from_mark}
use Rattle.rm_rows.specs.Index.{rows_in}
use Rattle.rm_rows.proofs.WalkLemmas.{mark_here, mark_next, mark_none}
use Rattle.rm_rows.proofs.rows.Rows.mark_after.Goals as goal

pub returns-in-Some : goal.returns-in-Some
returns-in-Some g c =
    let here : rows_in c.self.inside.list c.self.inside.entered.items ≡ c.args.self.now.rows = ap (λ (t : Table g.row.K.Denot g.row.V.Denot). t.rows) c.self.view_is in
    let next : IsNextKey g.K.Ord.cmp (keys_of (from_mark c.args.mark c.args.self.now.rows)) (option_copied c.args.key) (Some c.in-Some.row.now.key) = rw (here, c.copied.ensures) at (c.in-Some.ensures.next c.self.inside.entered.items c.self.invariant.holds.kept) in
    mark_here g.K.Ord.cmp c.args.self.now.rows c.args.mark (option_copied c.args.key) c.in-Some.row.now.key next

pub returns-in-Some-next_row : goal.returns-in-Some-next_row
returns-in-Some-next_row g c =
    let here : rows_in c.self.inside.list c.self.inside.entered.items ≡ c.args.self.now.rows = ap (λ (t : Table g.row.K.Denot g.row.V.Denot). t.rows) c.self.view_is in
    let gone : IsNextKey g.K.Ord.cmp (keys_of (from_mark c.args.mark c.args.self.now.rows)) (option_copied c.args.key) None = rw (here, c.copied.ensures) at (c.in_default.ensures.next c.self.inside.entered.items c.self.invariant.holds.kept) in
    let next : IsNextKey g.K.Ord.cmp (keys_of (from_mark (c.args.mark + 1) c.args.self.now.rows)) None (Some c.in-Some-next_row.row.now.key) = rw here at (c.in-Some-next_row.ensures.next c.self.inside.entered.items c.self.invariant.holds.kept) in
    mark_next g.K.Ord.cmp c.args.self.now.rows c.args.mark (option_copied c.args.key) c.in-Some-next_row.row.now.key gone next

pub returns-in-None : goal.returns-in-None
returns-in-None g c =
    let here : rows_in c.self.inside.list c.self.inside.entered.items ≡ c.args.self.now.rows = ap (λ (t : Table g.row.K.Denot g.row.V.Denot). t.rows) c.self.view_is in
    let gone : IsNextKey g.K.Ord.cmp (keys_of (from_mark c.args.mark c.args.self.now.rows)) (option_copied c.args.key) None = rw (here, c.copied.ensures) at (c.in_default.ensures.next c.self.inside.entered.items c.self.invariant.holds.kept) in
    let none : IsNextKey g.K.Ord.cmp (keys_of (from_mark (c.args.mark + 1) c.args.self.now.rows)) None None = rw here at (c.in-None.ensures.next c.self.inside.entered.items c.self.invariant.holds.kept) in
    mark_none g.K.Ord.cmp c.args.self.now.rows c.args.mark (option_copied c.args.key) gone none
