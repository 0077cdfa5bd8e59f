use Rattle.std.proofs.Common.{◌≡◌, None, sym, below_more}
use Rattle.rm_model.specs.Judgement.{first_pass}
use Rattle.rm_status.proofs.given.judge_alone.Goals as goal

pub loop-place-preserved : goal.loop-place-preserved
loop-place-preserved g c =
    let bs = g.A.Assigns.bindings c.args.set.now in
    let k = c.loop-place.place in
    let here : first_pass g.C.ControlRow.form.table bs k ≡ None =
    rw (← c.name-name.ensures.value, ← c.value-value.ensures.value, ← c.requires, ← c.place_under-at.ensures) (sym c.in-None.ensures) in
    below_more _ _ c.loop-place.invariant here
