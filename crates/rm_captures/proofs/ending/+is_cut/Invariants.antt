use Rattle.std.proofs.Common.{length}
use Rattle.rm_captures.proofs.ending.+is_cut.Given as goal

abbrev pub decreases-is_cut : goal.decreases-is_cut
decreases-is_cut g l = length l.names.now
