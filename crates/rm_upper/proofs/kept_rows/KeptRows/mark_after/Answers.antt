use Rattle.std.proofs.Common.{subst}
use Rattle.std.specs.Option.{option_copied}
use Rattle.rm_rows.specs.Table.{Table, IsNextMark, pair_copied}
use Rattle.rm_upper.specs.Kept.{NetworkRow}
use Rattle.rm_upper.proofs.SeenTables.{mark-seen}
use Rattle.rm_upper.proofs.kept_rows.KeptRows.mark_after.Goals as goal

pub returns : goal.returns
returns g c =
    subst (λ (x : Table g.row.K.Denot (NetworkRow g.row.N.Denot g.row.N-Application.Denot)). IsNextMark g.K.Ord.cmp x.rows c.args.mark (option_copied c.args.key) (pair_copied c.mark_after.result)) c.self.view_is
    (mark-seen g.N.LayerCounts.seen g.K.Ord.cmp c.self.inside.rows.rows c.args.mark (option_copied c.args.key) (pair_copied c.mark_after.result) c.mark_after.ensures)
