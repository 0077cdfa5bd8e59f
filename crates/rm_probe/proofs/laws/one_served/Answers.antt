use Rattle.rm_probe.proofs.OneText.{served_once}
use Rattle.rm_probe.proofs.laws.one_served.Goals as goal

pub returns : goal.returns
returns c settings = served_once settings (c.one_of_each.ensures settings)
