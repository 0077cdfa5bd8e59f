use Rattle.std.proofs.Common.{◌+◌, length}
use Rattle.rm_captures.proofs.coming.+coming.Given as goal

-- each turn from one to the other has less left: a name less, or the same names as a call of their own
abbrev pub decreases-next_of : goal.decreases-next_of
decreases-next_of g l = length l.names.now + length l.names.now

abbrev pub decreases-next_behind : goal.decreases-next_behind
decreases-next_behind g l = length l.names.now + length l.names.now + 1
