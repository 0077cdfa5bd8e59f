use Rattle.std.proofs.Common.{sym, subst}
use Rattle.std.specs.Option.{option_copied}
use Rattle.rm_rows.specs.Table.{Table, IsNextKey, keys_of}
use Rattle.rm_upper.specs.Kept.{NetworkRow}
use Rattle.rm_upper.proofs.SeenTables.{keys-seen}
use Rattle.rm_upper.proofs.kept_rows.KeptRows.after.Goals as goal

pub returns : goal.returns
returns g c =
    subst (λ (x : Table g.row.K.Denot (NetworkRow g.row.N.Denot g.row.N-Application.Denot)). IsNextKey g.K.Ord.cmp (keys_of x.rows) (option_copied c.args.key) (option_copied c.after.result)) c.self.view_is
    (subst (λ ks. IsNextKey g.K.Ord.cmp ks (option_copied c.args.key) (option_copied c.after.result)) (sym (keys-seen g.N.LayerCounts.seen c.self.inside.rows.rows)) c.after.ensures)
