use Rattle.std.proofs.Common.{length}
use Rattle.rm_captures.proofs.beginning.+base_each.Given as goal

abbrev pub decreases-base_each : goal.decreases-base_each
decreases-base_each l = length l.captures.now
