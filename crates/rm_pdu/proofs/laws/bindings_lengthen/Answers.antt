use Rattle.rm_pdu.proofs.Lengths.{longer_with}
use Rattle.rm_pdu.proofs.laws.bindings_lengthen.Goals as goal

pub returns : goal.returns
returns c = longer_with
