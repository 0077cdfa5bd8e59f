use Rattle.rm_ber.proofs.CanonicalValues.{fewest}
use Rattle.rm_ber.proofs.laws.canonical_stands_alone.Goals as goal

pub returns : goal.returns
returns c = λ v rest bytes first are. (fewest v rest bytes first are).only
