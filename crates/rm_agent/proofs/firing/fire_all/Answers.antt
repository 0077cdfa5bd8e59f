use Rattle.std.proofs.Common.{List, [], ◌++◌, ap, sym, subst, ◌∙◌}
use Rattle.rm_model.specs.Journal.{Act, passes}
use Rattle.rm_sources.specs.Group.{IsUnderWay as SourcesUnderWay}
use Rattle.rm_filter.specs.declared.accepted.Accepted.{Accepted}
use Rattle.rm_sources.specs.declared.sources.Sources.{Sources}
use Rattle.rm_agent.specs.Firings.{firings_asked}
use Rattle.rm_agent.specs.Groups.{AreUnderWay}
use Rattle.rm_agent.proofs.Ended.{ended}
use Rattle.rm_agent.proofs.firing.fire_all.Goals as goal

pub returns-clause-stands : goal.returns-clause-stands
returns-clause-stands c settings earlier frame at under =
    let act : Act = passes frame in
    let sources : SourcesUnderWay c.sources.result.now settings act earlier [] = subst (λ (held : Sources). SourcesUnderWay held settings act earlier []) (sym c.sources.ensures) under.1.first in
    let accepting = c.accepting.ensures.accepting settings frame earlier [] sources in
    let copied = c.as_slice.ensures.value ∙ (rw c.unwrap.ensures at c.try_extend_from_slice.ensures.ok) ∙ ap (λ (items : List Accepted). items ++ c.accepting.result.now) c.new-accepting.ensures in
    ended c.fire_each.new.groups settings act earlier
    (subst (AreUnderWay c.fire_each.new.groups settings act earlier) (ap (firings_asked earlier) copied ∙ accepting.firings) (c.fire_each.ensures.under_way settings act earlier [] at under))
