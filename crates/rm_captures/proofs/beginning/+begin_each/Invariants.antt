use Rattle.std.proofs.Common.{length}
use Rattle.rm_captures.proofs.beginning.+begin_each.Given as goal

abbrev pub decreases-begin_each : goal.decreases-begin_each
decreases-begin_each g l = length l.names.now
