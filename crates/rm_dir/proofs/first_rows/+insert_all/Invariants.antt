use Rattle.std.proofs.Common.{length}
use Rattle.rm_dir.proofs.first_rows.+insert_all.Given as goal

abbrev pub decreases-insert_all : goal.decreases-insert_all
decreases-insert_all l = length l.built_in.now
