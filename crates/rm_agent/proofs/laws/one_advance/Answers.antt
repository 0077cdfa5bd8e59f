use Rattle.rm_agent.proofs.AdvanceLemmas.{advanced_once}
use Rattle.rm_agent.proofs.laws.one_advance.Goals as goal

pub returns : goal.returns
returns c settings to journal sent others after later is other = advanced_once settings to journal sent others after later is other
