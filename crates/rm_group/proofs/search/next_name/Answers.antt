use Rattle.std.proofs.Common.{sym}
use Rattle.rm_group.proofs.StartLemmas.{none_from_nothing, none_from_start, least_from_start}
use Rattle.rm_group.proofs.search.next_name.Goals as goal

pub returns-in_err-start-clause-least : goal.returns-in_err-start-clause-least
returns-in_err-start-clause-least g c =
    rw c.from_residual.ensures (none_from_nothing c.args.entry.now c.args.columns.now (g.R.RowIndexes.is_row c.args.rows.now c.args.now) (g.R.RowIndexes.not_empty c.args.rows.now c.args.now) c.args.name.now (sym c.in_err-start.ensures))

pub returns-in_err-next-clause-least : goal.returns-in_err-next-clause-least
returns-in_err-next-clause-least g c =
    rw c.from_residual-in_err-next.ensures (none_from_start c.args.entry.now c.args.columns.now (g.R.RowIndexes.is_row c.args.rows.now c.args.now) (g.R.RowIndexes.not_empty c.args.rows.now c.args.now) c.args.name.now c.in_ok-start.start (sym c.in_ok-start.ensures) c.in_err-next.ensures.next)

pub returns-clause-least : goal.returns-clause-least
returns-clause-least g c =
    rw c.name_of.ensures (least_from_start c.args.entry.now c.args.columns.now (g.R.RowIndexes.is_row c.args.rows.now c.args.now) (g.R.RowIndexes.not_empty c.args.rows.now c.args.now) c.args.name.now c.in_ok-start.start (sym c.in_ok-start.ensures) c.in_ok-next.next c.in_ok-next.ensures.next)
