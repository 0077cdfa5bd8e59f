use Rattle.std.proofs.Common.{◌≡◌, sym, ◌∙◌, arith, below_more, bytes_eq}
use Rattle.rm_model.specs.Judgement.{nothing_bound, name_at}
use Rattle.rm_group.proofs.Finds.{any_here, any_never}
use Rattle.rm_dir.proofs.locals.is_again.Goals as goal

pub returns-then-is_same : goal.returns-then-is_same
returns-then-is_same g c =
    let bs = g.A.Assigns.bindings c.args.set.now in
    let k = c.loop-earlier.earlier in
    let e : c.is_same.result ≡ bytes_eq (name_at bs k) (name_at bs c.args.place) = rw (← c.name.ensures.value, ← c.name-name.ensures.value) c.is_same.ensures in
    sym (any_here (λ b. bytes_eq b.name (name_at bs c.args.place)) nothing_bound bs k c.args.place (omega arith) (omega (arith, c.requires)) (sym e ∙ c.if-is_same.true))

pub loop-earlier-preserved : goal.loop-earlier-preserved
loop-earlier-preserved g c =
    let bs = g.A.Assigns.bindings c.args.set.now in
    let k = c.loop-earlier.earlier in
    let e : c.is_same.result ≡ bytes_eq (name_at bs k) (name_at bs c.args.place) = rw (← c.name.ensures.value, ← c.name-name.ensures.value) c.is_same.ensures in
    below_more _ _ c.loop-earlier.invariant (sym e ∙ c.if-is_same.false)

pub returns : goal.returns
returns g c =
    let bs = g.A.Assigns.bindings c.args.set.now in
    sym (any_never (λ b. bytes_eq b.name (name_at bs c.args.place)) nothing_bound bs c.args.place (omega (arith, c.requires)) (λ j h. c.loop-earlier.invariant j (omega arith)))
