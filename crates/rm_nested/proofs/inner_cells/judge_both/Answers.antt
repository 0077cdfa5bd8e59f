use Rattle.std.proofs.Common.{length}
use Rattle.rm_model.specs.Cells.{is_of_column}
use Rattle.rm_model.specs.Judgement.{first_pass}
use Rattle.rm_group.specs.Alone.{alone_at, read_only}
use Rattle.rm_nested.proofs.inner_cells.judge_both.Goals as goal

pub returns : goal.returns
returns g c =
    let bs = g.A.Assigns.bindings c.args.set.now in
    let inner = rw (c.entry.ensures, c.columns.ensures) at c.judge_read_only-inner.ensures in
    c.lower_verdict.ensures.lowest (length bs) (first_pass g.R.ControlRow.form.table bs) (alone_at (read_only (is_of_column g.I.InnerTable.entry g.I.InnerTable.columns)) bs) c.judge_alone-control.ensures inner
