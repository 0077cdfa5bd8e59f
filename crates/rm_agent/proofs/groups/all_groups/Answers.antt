use Rattle.std.proofs.Common.{◌∙◌}
use Rattle.rm_agent.specs.Known.{counting_by}
use Rattle.rm_agent.proofs.groups.all_groups.Goals as goal

pub returns-clause-stands : goal.returns-clause-stands
returns-clause-stands c =
    c.in_ok-reserve.ensures.stands (counting_by c.args.settings.now) (rw (c.deref_mut.ensures.value ∙ c.in-Ok.ensures.ok) c.first_groups.ensures.stands)
