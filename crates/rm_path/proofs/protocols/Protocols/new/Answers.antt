use Rattle.rm_path.proofs.Searches.{none_yet}
use Rattle.rm_path.proofs.protocols.Protocols.new.Goals as goal

pub invariant_of-result : goal.invariant_of-result
invariant_of-result c = rw c.new.ensures none_yet
