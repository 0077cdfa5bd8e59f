use Rattle.std.proofs.Common.{◌≡◌, true, false, sym, ap, ◌∙◌, arith, below_more, option_map}
use Rattle.std.specs.Prelude.{is_some}
use Rattle.std.specs.Str.{bytes_eq}
use Rattle.rm_model.specs.Judgement.{nothing_bound, name_at}
use Rattle.rm_group.proofs.Finds.{find_here, find_never}
use Rattle.rm_topn.proofs.asking.is_given.Goals as goal

pub returns-then-is_same : goal.returns-then-is_same
returns-then-is_same g c =
    let bs = g.A.Assigns.bindings c.args.set.now in
    let name = c.args.name.now in
    let here : bytes_eq (name_at bs c.loop-place.place) name ≡ true = rw (← c.name.ensures.value) (sym c.is_same.ensures ∙ c.if-is_same.true) in
    sym (ap (λ o. is_some (option_map (λ a. a.value) o)) (find_here (λ a. bytes_eq a.name name) nothing_bound bs c.loop-place.place (omega (arith, c.count-place-end.ensures.value)) c.loop-place.invariant here))

pub loop-place-preserved : goal.loop-place-preserved
loop-place-preserved g c =
    let bs = g.A.Assigns.bindings c.args.set.now in
    let here : bytes_eq (name_at bs c.loop-place.place) c.args.name.now ≡ false = rw (← c.name.ensures.value) (sym c.is_same.ensures ∙ c.if-is_same.false) in
    below_more _ _ c.loop-place.invariant here

pub returns : goal.returns
returns g c =
    let bs = g.A.Assigns.bindings c.args.set.now in
    sym (ap (λ o. is_some (option_map (λ a. a.value) o)) (find_never (λ a. bytes_eq a.name c.args.name.now) nothing_bound bs (λ j h. c.loop-place.invariant j (omega (arith, h, c.count-place-end.ensures.value)))))
