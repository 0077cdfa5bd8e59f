use Rattle.rm_agent.proofs.AdvanceLemmas.{some_advance}
use Rattle.rm_agent.proofs.laws.every_advance.Goals as goal

pub returns : goal.returns
returns c settings to journal orderly = some_advance settings to journal orderly
