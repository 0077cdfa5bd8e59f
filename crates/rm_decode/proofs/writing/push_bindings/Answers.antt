use Rattle.std.proofs.Common.{◌≡◌, ◌++◌, ◌+◌, ℕ, suc, List, take, drop, flat_map, sym, ap, ◌∙◌, arith, append_assoc}
use Rattle.std.proofs.lemmas.List.{append-nil, drop_all, length-take}
use Rattle.rm_val.specs.Val.{val_of}
use Rattle.rm_decode.specs.Text.{binding_line}
use Rattle.rm_decode.proofs.LineLemmas.{lines_from}
use Rattle.rm_decode.proofs.writing.push_bindings.Goals as goal

pub loop-place-preserved : goal.loop-place-preserved
loop-place-preserved c = λ all kept.
    let line = binding_line (record { name = c.name-name.result; value = val_of c.value-value.result }) in
    let behind = flat_map binding_line (drop (c.loop-place.place + 1) (take 128 all)) in
    let one : suc c.loop-place.place ≡ c.loop-place.place + 1 = omega arith in
    let next = lines_from 128 c.loop-place.place all c.name-name.result (val_of c.value-value.result)
    (omega (arith, kept.0, c.len-place-end.ensures, c.loop-place-test.true)) (omega (arith, kept.0, c.len-place-end.ensures, c.loop-place-test.true))
    (c.name-name.ensures.name all kept.1) (c.value-value.ensures.value all kept.1) in
    ap (λ (t : List ℕ). t ++ behind) c.in_ok-push_binding.ensures ∙ append_assoc c.loop-place.text.items line behind
    ∙ ap (λ (t : List ℕ). c.loop-place.text.items ++ t) (sym (next ∙ ap (λ (k : ℕ). line ++ flat_map binding_line (drop k (take 128 all))) one)) ∙ c.loop-place.invariant all kept

pub returns : goal.returns
returns c = λ all kept.
    let none = drop_all c.loop-place.place (take 128 all) (omega (arith, length-take 128 all, kept.0, c.len-place-end.ensures, c.loop-place-test.false)) in
    sym (append-nil c.loop-place.text.items) ∙ ap (λ (t : List ℕ). c.loop-place.text.items ++ t) (sym (ap (flat_map binding_line) none)) ∙ c.loop-place.invariant all kept
