use Rattle.rm_ber.proofs.GrammarElements.{element_once}
use Rattle.rm_ber.proofs.laws.one_element.Goals as goal

pub returns : goal.returns
returns c = element_once
