use Rattle.std.proofs.Common.{◌≡◌, true, false, sym, ◌∙◌, arith, below_more}
use Rattle.rm_model.specs.Judgement.{name_at, place_of}
use Rattle.rm_status.specs.Commit.{is_cell}
use Rattle.rm_dir.specs.ProtocolDir.{protocol_dir}
use Rattle.rm_dir.proofs.Asked.{asked_here, none_asked}
use Rattle.rm_dir.proofs.locals.set_ask.Goals as goal

pub returns-then-is_status : goal.returns-then-is_status
returns-then-is_status g c =
    let bs = g.A.Assigns.bindings c.args.set.now in
    let k = c.loop-place.place in
    let here : is_cell 10 c.args.row (place_of protocol_dir (name_at bs k)) ≡ true = rw (← c.name.ensures.value) (sym c.is_status.ensures ∙ c.if-is_status.true) in
    c.value_ask.ensures ∙ asked_here bs c.args.row k _ (omega (arith, c.count-place-end.ensures.value)) c.loop-place.invariant here c.value.ensures.value

pub loop-place-preserved : goal.loop-place-preserved
loop-place-preserved g c =
    let bs = g.A.Assigns.bindings c.args.set.now in
    let other : is_cell 10 c.args.row (place_of protocol_dir (name_at bs c.loop-place.place)) ≡ false = rw (← c.name.ensures.value) (sym c.is_status.ensures ∙ c.if-is_status.false) in
    below_more _ _ c.loop-place.invariant other

pub returns : goal.returns
returns g c =
    let bs = g.A.Assigns.bindings c.args.set.now in
    none_asked bs c.args.row (λ j under. c.loop-place.invariant j (omega (arith, c.count-place-end.ensures.value)))
