use Rattle.rm_agent.proofs.AdvanceLemmas.{advanced_orderly}
use Rattle.rm_agent.proofs.laws.advance_is_orderly.Goals as goal

pub returns : goal.returns
returns c settings to journal sent after orderly is = advanced_orderly settings to journal sent after orderly is
