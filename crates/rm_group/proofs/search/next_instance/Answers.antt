use Rattle.std.proofs.Common.{sym}
use Rattle.rm_group.proofs.SearchLemmas.{next_no_column, next_below}
use Rattle.rm_group.proofs.search.next_instance.Goals as goal

pub returns-in_err-column-clause-next : goal.returns-in_err-column-clause-next
returns-in_err-column-clause-next g c =
    rw c.from_residual.ensures (next_no_column c.args.columns.now (g.R.RowIndexes.is_row c.args.rows.now c.args.now) c.args.start.now c.in_default.ensures.least (sym c.in_err-column.ensures))

pub returns-clause-next : goal.returns-clause-next
returns-clause-next g c =
    next_below c.args.columns.now (g.R.RowIndexes.is_row c.args.rows.now c.args.now) c.args.start.now c.in_default.ensures.least (g.R.RowIndexes.not_empty c.args.rows.now c.args.now) c.in_ok-column.column (sym c.in_ok-column.ensures) c.in_ok-index.index c.requires (rw c.new.ensures at c.in_ok-index.ensures.least)
