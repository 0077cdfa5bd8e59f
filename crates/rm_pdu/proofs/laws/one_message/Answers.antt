use Rattle.rm_pdu.proofs.Once.{message_once}
use Rattle.rm_pdu.proofs.laws.one_message.Goals as goal

pub returns : goal.returns
returns c = message_once c.one_element.ensures c.one_value.ensures
