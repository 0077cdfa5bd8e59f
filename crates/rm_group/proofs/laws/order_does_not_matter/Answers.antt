use Rattle.rm_model.proofs.Accepted.{given_of, same_assignments}
use Rattle.rm_group.proofs.laws.order_does_not_matter.Goals as goal

pub returns : goal.returns
returns c = record { given = given_of; same = same_assignments }
