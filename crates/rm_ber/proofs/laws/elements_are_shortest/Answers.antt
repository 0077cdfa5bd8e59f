use Rattle.std.proofs.Common.{refl}
use Rattle.rm_ber.proofs.CanonicalLengths.{element-fewest, themselves}
use Rattle.rm_ber.proofs.laws.elements_are_shortest.Goals as goal

pub returns : goal.returns
returns c = λ tag content rest bytes stands are. element-fewest tag content rest bytes content stands are (themselves content content refl)
