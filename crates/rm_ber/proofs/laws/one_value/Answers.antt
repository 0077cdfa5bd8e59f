use Rattle.rm_ber.proofs.GrammarValues.{value_once}
use Rattle.rm_ber.proofs.laws.one_value.Goals as goal

pub returns : goal.returns
returns c = value_once
