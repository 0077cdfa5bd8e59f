use Rattle.std.proofs.Common.{sym, ◌∙◌}
use Rattle.rm_rows.proofs.FindLemmas.{more, less, hit}
use Rattle.rm_rows.proofs.index.find.Goals as goal

pub loop-low-preserved-in-Less : goal.loop-low-preserved-in-Less
loop-low-preserved-in-Less g c =
    more g.K.Ord.cmp g.met.K.Ord.total c.args.list.now c.args.index.now c.args.key.now c.loop-low.low c.loop-low.high c.requires c.loop-low.invariant c.loop-low-test.true
    c.index-index-middle.result c.row.result.now c.index-index-middle.is c.row.ensures (sym c.compare.ensures ∙ c.in-Less.is)

pub returns-in-Equal-clause-found : goal.returns-in-Equal-clause-found
returns-in-Equal-clause-found g c =
    hit g.K.Ord.cmp g.met.K.Ord.total c.args.list.now c.args.index.now c.args.key.now c.loop-low.low c.loop-low.high c.requires c.loop-low.invariant c.loop-low-test.true
    c.index-index-middle.result c.row.result.now c.index-index-middle.is c.row.ensures g.met.K.Key.exact (sym c.compare.ensures ∙ c.in-Equal.is)

pub loop-low-preserved : goal.loop-low-preserved
loop-low-preserved g c =
    less g.K.Ord.cmp g.met.K.Ord.total c.args.list.now c.args.index.now c.args.key.now c.loop-low.low c.loop-low.high c.requires c.loop-low.invariant c.loop-low-test.true
    c.index-index-middle.result c.row.result.now c.index-index-middle.is c.row.ensures (sym c.compare.ensures ∙ c.in-Greater.is)
