use Rattle.std.proofs.Common.{◌≡◌, ◌^◌, ◌<◌, length}
use Rattle.rm_ber.specs.Reading.{group_from}
use Rattle.rm_ber.proofs.reader.content.group_at.Given as goal

-- what is left goes on with the number so far
abbrev pub invariant-loop-rest : goal.invariant-loop-rest
invariant-loop-rest l = (group_from l.number l.rest ≡ group_from 0 l.octets) × (l.number < 2 ^ 32)

abbrev pub decreases-loop-rest : goal.decreases-loop-rest
decreases-loop-rest l = length l.rest
