use Rattle.std.proofs.Common.{refl, ◌≡◌, ◌<◌, length, get_or}
use Rattle.rm_status.proofs.RowLemmas.{set-columns, columns_at}
use Rattle.rm_status.proofs.controls.columns_at.Goals as goal

pub returns-in-Some : goal.returns-in-Some
returns-in-Some g c =
    let lt : c.args.place < length c.args.rows.now.items = c.in-Some.ensures.variant.0 refl in
    let is : c.in-Some.row.now ≡ get_or c.args.rows.now.items c.args.place c.in-Some.row.now = c.in-Some.ensures.value in
    let same = λ (z : g.row.C.Denot). set-columns c.args.rows.now.items c.args.place c.in-Some.row.now z lt is in (
      simp same,
      record { writes_back = tt; value = columns_at c.args.rows.now.items c.args.place c.in-Some.row.now lt is; none = tt },
    )
