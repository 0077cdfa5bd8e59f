use Rattle.std.proofs.Common.{length}
use Rattle.rm_model.specs.Cells.{is_of_column}
use Rattle.rm_group.specs.Alone.{alone_at, read_only}
use Rattle.rm_keyed.proofs.two_tables.judge_two.Goals as goal

pub returns : goal.returns
returns g c =
    let bs = g.A.Assigns.bindings c.args.set.now in
    let I = g.I.InnerTable in
    let J = g.J.InnerTable in
    let first = rw (c.entry.ensures, c.columns.ensures) at c.judge_read_only-first.ensures in
    let second = rw (c.entry-2.ensures, c.columns-2.ensures) at c.judge_read_only-second.ensures in
    c.lower_verdict.ensures.lowest (length bs) (alone_at (read_only (is_of_column I.entry I.columns)) bs) (alone_at (read_only (is_of_column J.entry J.columns)) bs) first second
