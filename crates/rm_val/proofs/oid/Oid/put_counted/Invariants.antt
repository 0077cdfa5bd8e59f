use Rattle.std.proofs.Common.{◌≡◌, ◌<◌, ◌++◌, take, All}
use Rattle.rm_val.proofs.oid.Oid.put_counted.Given as goal

abbrev pub invariant-loop-octet : goal.invariant-loop-octet
invariant-loop-octet l =
    (l.self-inside.numbers.items ≡ l.initial.self-inside.numbers.items ++ take l.octet-index l.octets)
    × All (λ n. n < 256) (take l.octet-index l.octets)
