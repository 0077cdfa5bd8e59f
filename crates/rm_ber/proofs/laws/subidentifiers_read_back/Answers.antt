use Rattle.rm_ber.proofs.CanonicalNames.{is_group}
use Rattle.rm_ber.proofs.laws.subidentifiers_read_back.Goals as goal

pub returns : goal.returns
returns c = is_group
