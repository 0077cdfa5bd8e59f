use Rattle.rm_model.proofs.Finite.{next_or_none}
use Rattle.rm_group.proofs.laws.next_or_none.Goals as goal

pub returns : goal.returns
returns c = next_or_none
