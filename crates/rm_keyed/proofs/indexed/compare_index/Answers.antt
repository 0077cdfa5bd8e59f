use Rattle.std.proofs.Common.{◌≡◌, ◌<◌, ◌≤◌, length, drop, sym, ◌∙◌, arith}
use Rattle.std.specs.Ordering.{nat_cmp}
use Rattle.std.proofs.lemmas.List.{length-drop}
use Rattle.rm_keyed.proofs.IndexLemmas.{compare_over, compare_end}
use Rattle.rm_keyed.proofs.indexed.compare_index.Goals as goal

pub returns-then-place-more : goal.returns-then-place-more
returns-then-place-more g c =
    let xs = g.K.Indexed.index c.args.key.now in let ys = drop c.args.from c.args.numbers.now in let place = c.loop-place.place in
    let here : place < length xs = (let a = c.loop-place-test.true in let b = c.len-place-end.ensures.all in omega arith) in
    let past : length ys ≤ place = (let a = length-drop c.args.from c.args.numbers.now in let b = c.len.ensures.value in let d = c.saturating_sub-more.ensures in let e = c.if-place-more.true in omega arith) in
    sym (c.loop-place.invariant.1 ∙ compare_over xs ys place here past)

pub returns : goal.returns
returns g c =
    let xs = g.K.Indexed.index c.args.key.now in let ys = drop c.args.from c.args.numbers.now in let place = c.loop-place.place in
    let le = c.loop-place.invariant.0 in
    let end : length xs ≤ place = (let a = c.loop-place-test.false in let b = c.len-place-end.ensures.all in omega arith) in
    let all : length ys ≡ c.saturating_sub-more.result = (let a = length-drop c.args.from c.args.numbers.now in let b = c.len.ensures.value in let d = c.saturating_sub-more.ensures in omega arith) in
    let same : c.len-2.result ≡ place = (let a = c.loop-place.auto.place-end in let b = c.len-place-end.ensures.all in let d = c.len-2.ensures.all in omega arith) in
    c.cmp.ensures ∙ (λ i. nat_cmp (same i) (sym all i)) ∙ sym (c.loop-place.invariant.1 ∙ compare_end xs ys place end (omega arith))
