use Rattle.rm_probe.proofs.OneText.{text_once}
use Rattle.rm_probe.proofs.laws.one_text.Goals as goal

pub returns : goal.returns
returns c settings = text_once settings (c.one_of_each.ensures settings)
