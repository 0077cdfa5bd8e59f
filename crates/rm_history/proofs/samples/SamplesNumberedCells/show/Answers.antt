use Rattle.std.proofs.Common.{ℕ, ◌-◌, ◌*◌, ◌<◌, ◌≤◌, arith}
use Rattle.std.proofs.Math.Nat.{div-mul-le_self, mul-le-mul_left}
use Rattle.rm_history.specs.Buckets.{length_of, complete_at}
use Rattle.rm_history.specs.BucketLaws.{shown_tells}
use Rattle.rm_history.proofs.samples.SamplesNumberedCells.show.Goals as goal

-- few are, as each lasts a second at least
few : (bucket complete whole time : ℕ) → bucket ≤ complete → complete * 1000 ≤ whole → whole ≤ time → time < 4294967296 → bucket < 2147483648
few bucket complete whole time under long within short = omega (arith, under, long, within, short)

pub value_of-requires-clause-bucket : goal.value_of-requires-clause-bucket
value_of-requires-clause-bucket c =
    let plan = c.args.run.now.plan in
    let some = c.args.run.now.some in
    let fits = c.ranges._now.fits in
    let time = c.args._now - plan.start in
    let complete = complete_at plan c.args._now in
    let second : 1000 ≤ length_of plan = omega (arith, some) in
    few c.args.bucket complete (complete * length_of plan) time (shown_tells plan c.args._now c.args.bucket c.requires.shown).1
    (mul-le-mul_left complete second) (div-mul-le_self time (length_of plan)) (omega (arith, fits))
