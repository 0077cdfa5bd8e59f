use Rattle.rm_ber.proofs.CanonicalLengths.{octets_first}
use Rattle.rm_ber.proofs.laws.elements_read_back.Goals as goal

pub returns : goal.returns
returns c = octets_first
