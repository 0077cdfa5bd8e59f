use Rattle.rm_agent.proofs.OrderlyLemmas.{orderly_passes}
use Rattle.rm_agent.proofs.laws.frame_is_orderly.Goals as goal

pub returns : goal.returns
returns c journal frame orderly none = orderly_passes journal frame none orderly
