use Rattle.std.specs.Option.{option_copied}
use Rattle.rm_reversed.proofs.RowLemmas.{next-of}
use Rattle.rm_layer_tables.proofs.two_orders.TwoOrdersRowOrder.after.Goals as goal

pub returns : goal.returns
returns g c =
    rw (c.copied.ensures, ← c.self.view_is)
    (next-of g.K.Reversible.reversing g.met.K.Reversible.twice g.K.Ord.cmp c.self.inside.reverse.keys c.self.inside.first.table.layered.table.rows c.self.invariant.0 (option_copied c.args.key) (option_copied c.after.result) c.after.ensures)
