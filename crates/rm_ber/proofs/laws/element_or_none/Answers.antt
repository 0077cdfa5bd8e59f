use Rattle.rm_ber.proofs.GrammarElements.{element_or_none}
use Rattle.rm_ber.proofs.laws.element_or_none.Goals as goal

pub returns : goal.returns
returns c = element_or_none
