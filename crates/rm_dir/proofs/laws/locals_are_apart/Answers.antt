use Rattle.rm_dir.proofs.LocalLaws.{own_locals}
use Rattle.rm_dir.proofs.laws.locals_are_apart.Goals as goal

pub returns : goal.returns
returns c journal = own_locals journal
