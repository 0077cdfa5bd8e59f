use Rattle.std.proofs.Common.{ap, sym, subst, ◌∙◌}
use Rattle.rm_model.specs.Journal.{Act, passes}
use Rattle.rm_sources.specs.Group.{IsUnderWay as SourcesUnderWay}
use Rattle.rm_sources.specs.declared.sources.Sources.{Sources}
use Rattle.std.proofs.Common.{[]}
use Rattle.rm_agent.specs.Firings.{firings_asked}
use Rattle.rm_agent.specs.Groups.{AreUnderWay}
use Rattle.rm_agent.proofs.Ended.{ended}
use Rattle.rm_agent.proofs.FiringLemmas.{none_there}
use Rattle.rm_agent.proofs.firing.fire_accepting.Goals as goal

pub returns-else-not-is_empty-clause-stands : goal.returns-else-not-is_empty-clause-stands
returns-else-not-is_empty-clause-stands c settings earlier frame at under =
    let act : Act = passes frame in
    let sources : SourcesUnderWay c.sources.result.now settings act earlier [] = subst (λ (held : Sources). SourcesUnderWay held settings act earlier []) (sym c.sources.ensures) under.1.first in
    let accepting = c.accepting.ensures.accepting settings frame earlier [] sources in
    let none = none_there c.accepting.result.now (sym c.is_empty.ensures ∙ c.if-not-is_empty.false) in
    ended c.args.groups.now settings act earlier (subst (AreUnderWay c.args.groups.now settings act earlier) (sym (ap (firings_asked earlier) none) ∙ accepting.firings) under)
