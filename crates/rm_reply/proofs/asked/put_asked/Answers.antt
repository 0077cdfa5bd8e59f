use Rattle.std.proofs.Common.{◌++◌, refl, take, arith}
use Rattle.rm_reply.specs.Drafting.{IsFound, binding_found}
use Rattle.rm_reply.specs.Replies.{names_of, carrying}
use Rattle.rm_reply.proofs.NameLemmas.{name_among, length_among}
use Rattle.rm_reply.proofs.AnswersLemmas.{answers_more, answers_stop, answers_all, too_long, of_error}
use Rattle.rm_reply.proofs.asked.put_asked.Goals as goal

pub returns-in_err-add : goal.returns-in_err-add
returns-in_err-add g c settings journal stands later askable m list asked drafted_so =
    let IsOne = IsFound (g.G.Group.cells settings journal c.args.now) g.G.Objects.objects c.args.lookup in
    let so_far = c.loop-place.invariant settings journal stands later askable m list asked drafted_so in
    let (whole, is_asked, within) = c.requires.asked in
    let at = name_among m.bindings c.args.to c.loop-place.place c.name-name.result c.loop-place-test.true
    (omega (arith, c.loop-place-test.true, within, asked.told.count, is_asked.told.count)) (c.name-name.ensures.name m.bindings asked.told.kept.1) in
    of_error _ _ c.from_residual.result c.from_residual.ensures.0
    (answers_stop IsOne (take c.args.to (names_of m.bindings)) m list c.loop-place.place c.loop-place.draft c.add.new.self c.name-name.result (binding_found c.answer-found.result) so_far
    at (c.answer-found.ensures.answer settings journal stands later askable) c.in_err-add.ensures.err
    (too_long _ _ (λ came. absurd cc) (c.in_err-add.ensures.room (carrying m (list ++ so_far.answers)) so_far.is_drafted.is).1))

pub loop-place-preserved : goal.loop-place-preserved
loop-place-preserved g c settings journal stands later askable m list asked drafted_so =
    let IsOne = IsFound (g.G.Group.cells settings journal c.args.now) g.G.Objects.objects c.args.lookup in
    let so_far = c.loop-place.invariant settings journal stands later askable m list asked drafted_so in
    let (whole, is_asked, within) = c.requires.asked in
    let at = name_among m.bindings c.args.to c.loop-place.place c.name-name.result c.loop-place-test.true
    (omega (arith, c.loop-place-test.true, within, asked.told.count, is_asked.told.count)) (c.name-name.ensures.name m.bindings asked.told.kept.1) in
    let part = carrying m (list ++ so_far.answers) in
    answers_more IsOne (take c.args.to (names_of m.bindings)) m list c.loop-place.place c.loop-place.draft c.add.new.self c.name-name.result (binding_found c.answer-found.result) so_far
    at (c.answer-found.ensures.answer settings journal stands later askable) (c.in_ok-add.ensures.ok part so_far.is_drafted.is) ((c.in_ok-add.ensures.room part so_far.is_drafted.is).0 refl)

pub returns : goal.returns
returns g c settings journal stands later askable m list asked drafted_so =
    let IsOne = IsFound (g.G.Group.cells settings journal c.args.now) g.G.Objects.objects c.args.lookup in
    let so_far = c.loop-place.invariant settings journal stands later askable m list asked drafted_so in
    let (whole, is_asked, within) = c.requires.asked in
    let many = length_among m.bindings c.args.to (omega (arith, within, asked.told.count, is_asked.told.count)) in
    answers_all IsOne (take c.args.to (names_of m.bindings)) m list c.loop-place.place c.loop-place.draft so_far (omega (arith, c.loop-place-test.false, c.loop-place.auto.place-end, many))
