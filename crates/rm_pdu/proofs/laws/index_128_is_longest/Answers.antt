use Rattle.rm_pdu.proofs.Lengths.{longest_at_128}
use Rattle.rm_pdu.proofs.laws.index_128_is_longest.Goals as goal

pub returns : goal.returns
returns c = longest_at_128
