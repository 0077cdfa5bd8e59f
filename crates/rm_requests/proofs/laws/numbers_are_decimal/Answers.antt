use Rattle.rm_requests.proofs.DecimalLemmas.{numbers_are_decimal}
use Rattle.rm_requests.proofs.laws.numbers_are_decimal.Goals as goal

pub returns : goal.returns
returns c = numbers_are_decimal
