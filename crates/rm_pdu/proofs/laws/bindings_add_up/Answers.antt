use Rattle.rm_pdu.proofs.Bounds.{message_bound}
use Rattle.rm_pdu.proofs.laws.bindings_add_up.Goals as goal

pub returns : goal.returns
returns c = message_bound
