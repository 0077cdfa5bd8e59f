use Rattle.std.proofs.Common.{◌+◌, ◌<◌, ◌≤◌, ◌^◌, arith, length}
use Rattle.std.proofs.Math.Nat.{pow-le-pow_right}
use Rattle.rm_evicting.proofs.octets.with_octets.Goals as goal

pub overflow_mul-number : goal.overflow_mul-number
overflow_mul-number c =
    let bound : c.loop-octet.number < 256 ^ (c.loop-octet.octet-index + 4) = c.loop-octet.invariant.bound in
    let within : c.loop-octet.octet-index < length c.args.octets.now = c.loop-octet-test.true in
    let few : length c.args.octets.now ≤ 4 = c.requires in
    let most : 256 ^ (c.loop-octet.octet-index + 4) ≤ 256 ^ 7 = pow-le-pow_right {n = 256} (omega arith) {i = c.loop-octet.octet-index + 4} {j = 7} (omega (arith, within, few)) in
    let below : c.loop-octet.number < 256 ^ 7 = omega (arith, bound, most) in
    record { fits = omega (arith, below) }
