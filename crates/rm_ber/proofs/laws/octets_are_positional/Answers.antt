use Rattle.rm_ber.proofs.PositionalLemmas.{octets_are_positional}
use Rattle.rm_ber.proofs.laws.octets_are_positional.Goals as goal

pub returns : goal.returns
returns c = octets_are_positional
