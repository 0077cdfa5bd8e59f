use Rattle.rm_ber.proofs.CanonicalValues.{fewest}
use Rattle.rm_ber.proofs.laws.canonical_is_shortest.Goals as goal

pub returns : goal.returns
returns c = λ v rest bytes first are. (fewest v rest bytes first are).few
