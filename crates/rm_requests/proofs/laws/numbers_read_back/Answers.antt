use Rattle.rm_requests.proofs.DecimalLemmas.{numbers_read_back}
use Rattle.rm_requests.proofs.laws.numbers_read_back.Goals as goal

pub returns : goal.returns
returns c = numbers_read_back
