use Rattle.rm_captures.proofs.OrderLemmas.{are_merged}
use Rattle.rm_captures.proofs.laws.merge_in_order.Goals as goal

pub returns : goal.returns
returns c = are_merged
