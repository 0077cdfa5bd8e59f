use Rattle.rm_pdu.proofs.Lengths.{empty_short}
use Rattle.rm_pdu.proofs.laws.empty_messages_are_short.Goals as goal

pub returns : goal.returns
returns c = empty_short
