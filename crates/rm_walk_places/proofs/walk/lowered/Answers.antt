use Rattle.std.proofs.Common.{◌≡◌, ◌<◌, ◌≤◌, length, drop, sym, ◌∙◌, arith}
use Rattle.std.specs.Cmp.{ranked}
use Rattle.std.specs.declared.cmp.Ordering.TheVariants.{Less, Equal, Greater}
use Rattle.std.proofs.lemmas.List.{take_all}
use Rattle.rm_walk_places.specs.Lowered.{lowered}
use Rattle.rm_walk_places.proofs.LoweredLemmas.{as_long, there, some_there, number_kept, number_lowered, greatest_behind, next_one}
use Rattle.rm_walk_places.proofs.walk.lowered.Goals as goal
use Rattle.rm_walk_places.proofs.walk.lowered.Goals.{in-Less, in-Equal, in-Greater}

pub at-number-requires : goal.at-number-requires
at-number-requires c =
    let before : c.loop-place.place-counter < c.args.count = ranked c.loop-place.place-counter c.args.count Less c.in-Less.ensures in
    there c.args.bounds.now c.args.numbers.now c.args.count c.loop-place.place-counter c.requires.stands c.loop-place-test.true (omega (arith, before))

pub at-requires : goal.at-requires
at-requires c =
    let same : c.loop-place.place-counter ≡ c.args.count = ranked c.loop-place.place-counter c.args.count Equal c.in-Equal.ensures in
    there c.args.bounds.now c.args.numbers.now c.args.count c.loop-place.place-counter c.requires.stands c.loop-place-test.true (omega (arith, same))

pub overflow_sub-at : goal.overflow_sub-at
overflow_sub-at c =
    let same : c.loop-place.place-counter ≡ c.args.count = ranked c.loop-place.place-counter c.args.count Equal c.in-Equal.ensures in
    rw c.at.ensures (some_there c.args.bounds.now c.args.numbers.now c.args.count c.loop-place.place-counter c.requires.stands c.loop-place-test.true same)

pub loop-place-preserved : goal.loop-place-preserved
loop-place-preserved c =
    next_one c.args.bounds.now c.args.numbers.now c.args.count c.loop-place.place-counter c.requires.stands c.loop-place-test.true c.match-cmp.number
    c.loop-place.lowered c.push.new.self c.loop-place.invariant (rw c.unwrap.ensures at c.push.ensures.ok) (elim c.match-cmp.branch [
      | in-Less w ↦
          number_kept c.args.bounds.now c.args.numbers.now c.args.count c.loop-place.place-counter c.requires.stands c.loop-place-test.true
          (ranked c.loop-place.place-counter c.args.count Less w.in-Less.ensures) ∙ sym (w.number-is ∙ w.at-number.ensures)
      | in-Equal w ↦
          number_lowered c.args.bounds.now c.args.numbers.now c.args.count c.loop-place.place-counter c.requires.stands c.loop-place-test.true (record { least = 0; greatest = 0 })
          (ranked c.loop-place.place-counter c.args.count Equal w.in-Equal.ensures) ∙ (rw (sym w.at.ensures) (sym (w.number-is ∙ w.min-number.ensures)))
      | in-Greater w ↦
          greatest_behind (record { least = 0; greatest = 0 }) c.args.count c.args.bounds.now (drop 1 c.args.numbers.now) c.loop-place.place-counter c.loop-place-test.true
          (ranked c.loop-place.place-counter c.args.count Greater w.in-Greater.ensures) ∙ sym w.number-is
    ])

pub returns : goal.returns
returns c =
    let long : length (lowered c.args.count c.args.bounds.now (drop 1 c.args.numbers.now)) ≡ length c.args.bounds.now = as_long c.args.count c.args.bounds.now (drop 1 c.args.numbers.now) in
    let all : length c.args.bounds.now ≤ c.loop-place.place-counter = c.loop-place-test.false in
    c.loop-place.invariant ∙ take_all c.loop-place.place-counter (lowered c.args.count c.args.bounds.now (drop 1 c.args.numbers.now)) (omega (arith, long, all))
