use Rattle.rm_ber.proofs.AcceptedNames.{accepted_spelling}
use Rattle.rm_ber.proofs.laws.values_are_spellable.Goals as goal

pub returns : goal.returns
returns c = accepted_spelling
