use Rattle.std.proofs.Common.{sym, ap, ◌∙◌, length, arith}
use Rattle.std.specs.Prelude.{filter_map}
use Rattle.rm_filter.specs.Judging.{judged, with_one}
use Rattle.rm_filter.proofs.JudgeLemmas.{up_to, none_to_0, few_to, one_more, all_to, mapped_more, length_with, length_more}
use Rattle.rm_filter.proofs.judging.judge.Goals as goal

pub loop-index-init : goal.loop-index-init
loop-index-init c =
    let none = none_to_0 c.args.channels.now c.len.ensures.rows.1 in
    let begun = c.clear.ensures in
    let few = ap length begun in
    (omega (arith, few), λ settings journal frame number moment filters channels of. begun ∙ sym (ap (filter_map (judged settings journal frame)) none))

pub add-requires : goal.add-requires
add-requires c =
    let rows = c.args.channels.now in
    let least = c.in-Some.ensures.least in
    let more = one_more rows c.loop-index.last c.in-Some.index least.1.0 c.len.ensures.rows.0 least.0 least.1.1 least.2 in
    let longer = ap length more ∙ length_more (up_to c.loop-index.last rows) least.1.0 in
    let few = few_to c.in-Some.index rows in
    let so_far = c.loop-index.invariant.0 in
    let most = c.len.ensures.most in
    let all = c.len.ensures.value in
    omega (arith, longer, few, so_far, most, all)

pub loop-index-preserved : goal.loop-index-preserved
loop-index-preserved c =
    let rows = c.args.channels.now in
    let last = c.loop-index.last in
    let least = c.in-Some.ensures.least in
    let row = least.1.0 in
    let more = one_more rows last c.in-Some.index row c.len.ensures.rows.0 least.0 least.1.1 least.2 in
    let longer = ap length more ∙ length_more (up_to last rows) row in
    let so_far = c.loop-index.invariant.0 in
    let one = c.judge_at.result in
    let added = ap length c.add.ensures in
    let with = length_with c.loop-index.accepting.items one in (
      omega (arith, longer, so_far, added, with),
      λ settings journal frame number moment filters channels of.
          c.add.ensures
          ∙ ap (λ l. with_one l one) (c.loop-index.invariant.1 settings journal frame number moment filters channels of)
          ∙ ap (with_one (filter_map (judged settings journal frame) (up_to last rows))) (c.judge_at.ensures settings journal frame number moment row filters channels least.1.1 of)
          ∙ sym (mapped_more (judged settings journal frame) (up_to last rows) row)
          ∙ ap (filter_map (judged settings journal frame)) (sym more),
    )

pub returns : goal.returns
returns c settings journal frame number moment filters channels of =
    c.loop-index.invariant.1 settings journal frame number moment filters channels of
    ∙ ap (filter_map (judged settings journal frame)) (all_to c.args.channels.now c.loop-index.last c.in_default.ensures.least)
