use Rattle.std.proofs.Common.{◌≡◌, ◌<◌, take, All}
use Rattle.rm_val.proofs.oid.octets_of.Given as goal

abbrev pub invariant-loop-number : goal.invariant-loop-number
invariant-loop-number l =
    (l.octets.items ≡ take l.number-index l.numbers) × All (λ n. n < 256) (take l.number-index l.numbers)
