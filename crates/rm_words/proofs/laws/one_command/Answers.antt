use Rattle.rm_words.proofs.CommandLemmas.{one_stands}
use Rattle.rm_words.proofs.laws.one_command.Goals as goal

pub returns : goal.returns
returns c = one_stands
