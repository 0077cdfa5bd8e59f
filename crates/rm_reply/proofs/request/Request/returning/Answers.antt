use Rattle.std.proofs.Common.{◌+◌, ◌∙◌, refl, ap, length, take, arith}
use Rattle.rm_pdu.specs.Message.{message_octets}
use Rattle.rm_pdu.specs.Draft.{drafted}
use Rattle.rm_val.specs.Val.{val_of}
use Rattle.rm_reply.specs.Replies.{response_to}
use Rattle.rm_reply.proofs.AnswersLemmas.{of_error, too_long}
use Rattle.rm_reply.proofs.SetLemmas.{is_at, and_next, all_too_much, all_returned}
use Rattle.rm_reply.proofs.request.Request.returning.Goals as goal

pub returns-in_err-add : goal.returns-in_err-add
returns-in_err-add c m asked =
    let (is, fits) = c.loop-place.invariant m asked in
    let at = is_at m.bindings c.loop-place.place c.name-name.result (val_of c.value-value.result) (omega (arith, c.loop-place-test.true, asked.told.count)) (c.name-name.ensures.name m.bindings asked.told.kept.1) (c.value-value.ensures.value m.bindings asked.told.kept.1) in
    let part = response_to m c.args.status c.args.index (take c.loop-place.place m.bindings) in
    let long = too_long _ _ (λ came. absurd cc) (c.in_err-add.ensures.room part is).1 in
    let next = ap (λ w. length (message_octets w)) (and_next m c.args.status c.args.index c.loop-place.place c.name-name.result (val_of c.value-value.result) at) in
    of_error _ _ c.from_residual.result c.from_residual.ensures.0
    (all_too_much c.bindings_lengthen.ensures m c.args.status c.args.index (c.loop-place.place + 1) (omega (arith, long, next)))

pub loop-place-preserved : goal.loop-place-preserved
loop-place-preserved c m asked =
    let (is, fits) = c.loop-place.invariant m asked in
    let at = is_at m.bindings c.loop-place.place c.name-name.result (val_of c.value-value.result) (omega (arith, c.loop-place-test.true, asked.told.count)) (c.name-name.ensures.name m.bindings asked.told.kept.1) (c.value-value.ensures.value m.bindings asked.told.kept.1) in
    let part = response_to m c.args.status c.args.index (take c.loop-place.place m.bindings) in
    let next = and_next m c.args.status c.args.index c.loop-place.place c.name-name.result (val_of c.value-value.result) at in
    let room = (c.in_ok-add.ensures.room part is).0 refl in
    (c.in_ok-add.ensures.ok part is ∙ ap drafted next, omega (arith, room, ap (λ w. length (message_octets w)) next))

pub returns : goal.returns
returns c m asked =
    let (is, fits) = c.loop-place.invariant m asked in
    let all = all_returned m c.args.status c.args.index c.loop-place.place (omega (arith, c.loop-place-test.false, asked.told.count)) in
    (is ∙ ap drafted all, omega (arith, fits, ap (λ w. length (message_octets w)) all))
