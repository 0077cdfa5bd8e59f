use Rattle.rm_ber.proofs.GrammarValues.{value_or_none}
use Rattle.rm_ber.proofs.laws.value_or_none.Goals as goal

pub returns : goal.returns
returns c = value_or_none
