use Rattle.rm_requests.proofs.DecimalLemmas.{numbers_are_written}
use Rattle.rm_requests.proofs.laws.numbers_are_written.Goals as goal

pub returns : goal.returns
returns c = numbers_are_written
