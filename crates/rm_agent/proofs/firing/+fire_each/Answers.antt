use Rattle.std.proofs.Common.{◌++◌, ◌∷◌, [], append_assoc, ap, sym, subst, ◌∙◌}
use Rattle.std.specs.Prelude.{List}
use Rattle.rm_acts.specs.declared.firing.Firing.{Firing}
use Rattle.rm_agent.specs.Firings.{firings_asked}
use Rattle.rm_agent.specs.Groups.{AreUnderWay}
use Rattle.rm_agent.proofs.FiringLemmas.{asked_more}
use Rattle.rm_agent.proofs.firing.+fire_each.Goals as goal

pub returns-in-Some-clause-under_way : goal.returns-in-Some-clause-under_way
returns-in-Some-clause-under_way c d settings act earlier some at under =
    let first = d.in-Some.first.now in
    let rest = d.in-Some.rest.now in
    let one = firings_asked earlier (first ∷ []) in
    let more = firings_asked earlier rest in
    let all = append_assoc some one more ∙ ap (λ (asked : List Firing). some ++ asked) (sym (asked_more earlier first rest) ∙ sym (ap (firings_asked earlier) d.in-Some.ensures.cases.0)) in
    subst (AreUnderWay d.fire_each.new.groups settings act earlier) all
    (d.fire_each.ensures.under_way settings act earlier (some ++ one) at (d.fire_one.ensures.under_way settings act earlier some at under))

pub returns-in-Some-clause-stocked : goal.returns-in-Some-clause-stocked
returns-in-Some-clause-stocked c d stocked = d.fire_each.ensures.stocked (d.fire_one.ensures.stocked stocked)
