use Rattle.rm_ber.proofs.PositionalLemmas.{group_is_positional}
use Rattle.rm_ber.proofs.laws.subidentifiers_are_positional.Goals as goal

pub returns : goal.returns
returns c = group_is_positional
