use Rattle.std.proofs.Common.{sym, ap, ◌∙◌, ◌≡◌, Some}
use Rattle.rm_status.specs.Rows.{row_in}
use Rattle.rm_filter.specs.Judging.{judged}
use Rattle.rm_filter.proofs.JudgeLemmas.{index_is}
use Rattle.rm_filter.proofs.judging.judge_at.Goals as goal

pub returns : goal.returns
returns c settings journal frame number moment row filters channels here of =
    let found = c.in_ok-row.row.now in
    let same : Some found ≡ Some row = c.in_ok-row.ensures.value ∙ here in
    let is : found ≡ row = cc in
    let index : found.index ≡ c.args.index = ap (λ r. r.index) is ∙ index_is c.args.channels.now c.args.index row here in
    c.judge_row.ensures settings journal frame number moment c.args.channels.now filters channels (ap (row_in c.args.channels.now) index ∙ here ∙ ap Some (sym is)) of
    ∙ ap (judged settings journal frame) is
