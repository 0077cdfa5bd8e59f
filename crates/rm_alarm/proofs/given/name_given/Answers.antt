use Rattle.std.proofs.Common.{◌≡◌, Some, sym, ap, ◌∙◌, arith, below_more}
use Rattle.std.specs.Ordering.{is_eq}
use Rattle.std.specs.Option.{option_map}
use Rattle.std.specs.Str.{bytes_eq}
use Rattle.std.proofs.lemmas.Map.Text.{is_eq-slice_cmp}
use Rattle.rm_model.specs.Judgement.{nothing_bound, name_at}
use Rattle.rm_val.specs.Contents.{name_of}
use Rattle.rm_group.proofs.Finds.{find_here, find_never}
use Rattle.rm_alarm.proofs.given.name_given.Goals as goal

pub returns-then-is_eq : goal.returns-then-is_eq
returns-then-is_eq g c =
    let bs = g.A.Assigns.bindings c.args.set.now in
    let k = c.loop-place.place in
    let e : is_eq c.compare.result ≡ bytes_eq (name_at bs k) c.args.variable.now = rw (c.compare.ensures.value, c.name-name.ensures.value) (is_eq-slice_cmp (name_at bs k) c.args.variable.now) in
    let found = find_here (λ a. bytes_eq a.name c.args.variable.now) nothing_bound bs k (omega (arith, c.count-place-end.ensures.value)) c.loop-place.invariant (sym e ∙ sym c.if-is_eq.ensures) in
    ap Some (c.name_in.ensures ∙ ap name_of c.value.ensures.value) ∙ sym (ap (λ o. option_map name_of (option_map (λ a. a.value) o)) found)

pub loop-place-preserved : goal.loop-place-preserved
loop-place-preserved g c =
    let bs = g.A.Assigns.bindings c.args.set.now in
    let k = c.loop-place.place in
    let e : is_eq c.compare.result ≡ bytes_eq (name_at bs k) c.args.variable.now = rw (c.compare.ensures.value, c.name-name.ensures.value) (is_eq-slice_cmp (name_at bs k) c.args.variable.now) in
    below_more _ _ c.loop-place.invariant (sym e ∙ sym c.if-is_eq.ensures)

pub returns : goal.returns
returns g c =
    let bs = g.A.Assigns.bindings c.args.set.now in
    sym (ap (λ o. option_map name_of (option_map (λ a. a.value) o)) (find_never (λ a. bytes_eq a.name c.args.variable.now) nothing_bound bs (λ j h. c.loop-place.invariant j (omega (arith, c.count-place-end.ensures.value)))))
