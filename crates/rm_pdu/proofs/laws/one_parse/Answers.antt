use Rattle.rm_pdu.proofs.Once.{parse_once}
use Rattle.rm_pdu.proofs.laws.one_parse.Goals as goal

pub returns : goal.returns
returns c = parse_once c.one_element.ensures c.one_value.ensures
