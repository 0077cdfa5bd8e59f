use Rattle.std.proofs.Common.{refl}
use Rattle.rm_model.specs.Journal.{passes}
use Rattle.rm_event.specs.Acts.{begun}
use Rattle.rm_event.proofs.acts.EventsSteps.pass.Goals as goal

pub returns-clause-begins : goal.returns-clause-begins
returns-clause-begins c settings earlier frame is stands later asked = (refl, begun c.args.self.now settings (passes frame) earlier refl stands)
