use Rattle.rm_ber.proofs.GrammarElements.{no_front}
use Rattle.rm_ber.proofs.laws.no_element_in_front.Goals as goal

pub returns : goal.returns
returns c = no_front
