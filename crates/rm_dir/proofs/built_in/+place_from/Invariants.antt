use Rattle.std.proofs.Common.{length}
use Rattle.rm_dir.proofs.built_in.+place_from.Given as goal

abbrev pub decreases-place_from : goal.decreases-place_from
decreases-place_from l = length l.rows.now
