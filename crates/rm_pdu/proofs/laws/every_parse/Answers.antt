use Rattle.rm_pdu.proofs.Every.{every_parse}
use Rattle.rm_pdu.proofs.laws.every_parse.Goals as goal

pub returns : goal.returns
returns c = every_parse c.one_element.ensures c.one_value.ensures c.element_or_none.ensures c.value_or_none.ensures
