use Rattle.std.proofs.Common.{sym, ap, ◌∙◌, map, true, false, Some}
use Rattle.rm_model.specs.ControlRows.{is_valid}
use Rattle.rm_filter.proofs.MatchRows.{set_row, set_rows_after, judged_by_set}
use Rattle.rm_filter.proofs.judging.judge_row.Goals as goal

pub returns-then-accepts : goal.returns-then-accepts
returns-then-accepts c settings journal frame number moment channels filters after here of =
    ap Some c.of.ensures
    ∙ judged_by_set channels settings journal frame c.args.row.now here (ap is_valid c.in-Valid.is) true
    (λ valid set. sym c.if-accepts.true ∙ c.accepts.ensures settings journal frame number moment (map set_row channels) filters (set_rows_after channels journal after) valid set of)

pub returns-else-accepts : goal.returns-else-accepts
returns-else-accepts c settings journal frame number moment channels filters after here of =
    judged_by_set channels settings journal frame c.args.row.now here (ap is_valid c.in-Valid.is) false
    (λ valid set. sym c.if-accepts.false ∙ c.accepts.ensures settings journal frame number moment (map set_row channels) filters (set_rows_after channels journal after) valid set of)
