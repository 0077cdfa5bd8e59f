use Rattle.rm_ber.proofs.CanonicalValues.{value_first}
use Rattle.rm_ber.proofs.laws.values_read_back.Goals as goal

pub returns : goal.returns
returns c = λ v spells short fits rest. value_first v rest spells short fits
