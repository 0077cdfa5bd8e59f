use Rattle.std.proofs.Common.{◌++◌, ap, sym, subst, ◌∙◌}
use Rattle.std.specs.Prelude.{List}
use Rattle.rm_acts.specs.declared.firing.Firing.{Firing}
use Rattle.rm_agent.specs.Firings.{firings_by}
use Rattle.rm_agent.specs.Groups.{AreUnderWay}
use Rattle.rm_agent.proofs.FiringLemmas.{fires_one, none_added}
use Rattle.rm_agent.proofs.firing.fire_by.Goals as goal

pub returns-in-Absent-clause-under_way : goal.returns-in-Absent-clause-under_way
returns-in-Absent-clause-under_way c settings act earlier some at under =
    let none = none_added some ∙ ap (λ (more : List Firing). some ++ more) (sym (ap (firings_by c.args.firing.now) c.in-Absent.is)) in
    subst (AreUnderWay c.args.groups.now settings act earlier) none under

pub returns-in_default-clause-under_way : goal.returns-in_default-clause-under_way
returns-in_default-clause-under_way c settings act earlier some at under =
    subst (λ (more : List Firing). AreUnderWay c.fire.new.groups settings act earlier (some ++ more)) (fires_one c.args.fired c.args.firing.now c.in_default.not-Absent) (c.fire.ensures.under_way settings act earlier some at under)
