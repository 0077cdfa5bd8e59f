use Rattle.std.proofs.Common.{length}
use Rattle.rm_captures.proofs.counting.+passed.Given as goal

abbrev pub decreases-passed : goal.decreases-passed
decreases-passed l = length l.captures.now
