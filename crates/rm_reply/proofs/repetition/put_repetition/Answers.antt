use Rattle.std.proofs.Common.{◌++◌, ◌&&◌, ◌∙◌, refl, ap, length, arith}
use Rattle.std.proofs.lemmas.List.{length-set}
use Rattle.std.proofs.lemmas.List.Elements.{All-set, All-same}
use Rattle.rm_val.specs.Spellable.{IsSpellable}
use Rattle.rm_reply.specs.Answered.{IsNextBinding}
use Rattle.rm_reply.specs.Drafting.{binding_found}
use Rattle.rm_reply.specs.Replies.{carrying}
use Rattle.rm_reply.proofs.NameLemmas.{at_all}
use Rattle.rm_reply.proofs.AnswersLemmas.{none_yet, answers_more, answers_stop, asked_still, replaced_more, replaced_all, too_long, of_error}
use Rattle.rm_reply.proofs.repetition.put_repetition.Goals as goal

pub returns-in_err-add-clause-put : goal.returns-in_err-add-clause-put
returns-in_err-add-clause-put g c settings journal stands later askable m list drafted_so =
    let IsOne = IsNextBinding (g.G.Group.cells settings journal c.args.now) in
    let (so_far, replaced) = c.loop-place.invariant.0 settings journal stands later askable m list drafted_so in
    let at = asked_still c.args.names.now c.loop-place.place so_far.answers c.loop-place.names c.loop-place.is_end c.at.result.now replaced so_far.count c.at.ensures in
    of_error _ _ c.from_residual.result c.from_residual.ensures.0
    (answers_stop IsOne c.args.names.now m list c.loop-place.place c.loop-place.draft c.add.new.self c.at.result.now (binding_found c.answer-found.result) so_far
    at (c.answer-found.ensures.answer settings journal stands later askable) c.in_err-add.ensures.err
    (too_long _ _ (λ came. absurd cc) (c.in_err-add.ensures.room (carrying m (list ++ so_far.answers)) so_far.is_drafted.is).1))

pub loop-place-init : goal.loop-place-init
loop-place-init g c = (
  λ settings journal stands later askable m list drafted_so. (
    none_yet (IsNextBinding (g.G.Group.cells settings journal c.args.now)) c.args.names.now m list c.args.draft.now drafted_so,
    record { names_now = refl; ended_is = refl },
  ),
  c.requires,
  refl,
)

pub answer-found-requires : goal.answer-found-requires
answer-found-requires g c = at_all IsSpellable c.loop-place.names c.loop-place.place c.at.result.now c.loop-place.invariant.1 c.at.ensures

pub loop-place-preserved : goal.loop-place-preserved
loop-place-preserved g c =
    let (before, spelled, count) = c.loop-place.invariant in (
      λ settings journal stands later askable m list drafted_so.
          let IsOne = IsNextBinding (g.G.Group.cells settings journal c.args.now) in
          let (so_far, replaced) = before settings journal stands later askable m list drafted_so in
          let part = carrying m (list ++ so_far.answers) in
          let at = asked_still c.args.names.now c.loop-place.place so_far.answers c.loop-place.names c.loop-place.is_end c.at.result.now replaced so_far.count c.at.ensures in (
            answers_more IsOne c.args.names.now m list c.loop-place.place c.loop-place.draft c.add.new.self c.at.result.now (binding_found c.answer-found.result) so_far
                at (c.answer-found.ensures.answer settings journal stands later askable) (c.in_ok-add.ensures.ok part so_far.is_drafted.is) ((c.in_ok-add.ensures.room part so_far.is_drafted.is).0 refl),
            replaced_more c.args.names.now c.loop-place.place so_far.answers c.loop-place.names c.set.new.self c.loop-place.is_end _ c.at.result.now (binding_found c.answer-found.result) replaced so_far.count
                at c.set.ensures (ap (λ t. c.loop-place.is_end && t) c.is_end-is_end.ensures),
          ),
      All-same IsSpellable _ _ c.set.ensures (All-set IsSpellable c.loop-place.names c.loop-place.place c.answer-found.result.name c.answer-found.ensures.name_spelling spelled),
      ap length c.set.ensures ∙ length-set c.loop-place.names c.loop-place.place c.answer-found.result.name ∙ count,
    )

pub returns-clause-put : goal.returns-clause-put
returns-clause-put g c settings journal stands later askable m list drafted_so =
    let (so_far, replaced) = c.loop-place.invariant.0 settings journal stands later askable m list drafted_so in
    replaced_all (IsNextBinding (g.G.Group.cells settings journal c.args.now)) c.args.names.now m list c.loop-place.place c.loop-place.draft c.loop-place.names c.loop-place.is_end so_far replaced
    (omega (arith, c.loop-place-test.false, c.loop-place.auto.place-end, c.len-place-end.ensures))
