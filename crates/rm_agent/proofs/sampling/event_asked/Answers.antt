use Rattle.std.proofs.Common.{ap, sym, ◌∙◌, rules}
use Rattle.std.proofs.lemmas.Int.{to_z-of_z}
use Rattle.rm_val.specs.Val.{int}
use Rattle.std.specs.Prelude.{is_some, FitsSigned}
use Rattle.std.specs.Int.{w32}
use Rattle.rm_val.specs.Contents.{natural_in}
use Rattle.rm_acts.specs.Events.{event_asked}
use Rattle.rm_acts.specs.declared.sampled.Sampled.{Sampled}
use Rattle.rm_agent.specs.Notifications.{trap_of}
use Rattle.rm_agent.proofs.SampleLemmas.{none_asked}
use Rattle.rm_agent.proofs.sampling.event_asked.Goals as goal

pub returns-in_default : goal.returns-in_default
returns-in_default c settings journal stands valid =
    none_asked journal c.args.index c.args.comes (λ trap. c.in_default.ensures.shown settings journal stands (valid trap))

pub returns-in-Rising : goal.returns-in-Rising
returns-in-Rising c settings journal stands valid =
    let shown = c.in-Some.ensures.shown settings journal stands (valid (ap (λ (s : Sampled). is_some (trap_of s)) c.in-Rising.is)) in
    let fits : FitsSigned w32 c.in-Some.row.now.rising_event = search rules in
    c.natural.ensures.value ∙ ap (λ z. natural_in (int z)) (to_z-of_z w32 c.in-Some.row.now.rising_event fits) ∙ ap natural_in (sym shown.rising_event) ∙ sym (ap (event_asked journal c.args.index) c.in-Rising.is)

pub returns-in-Falling : goal.returns-in-Falling
returns-in-Falling c settings journal stands valid =
    let shown = c.in-Some.ensures.shown settings journal stands (valid (ap (λ (s : Sampled). is_some (trap_of s)) c.in-Falling.is)) in
    let fits : FitsSigned w32 c.in-Some.row.now.falling_event = search rules in
    c.natural-in-Falling.ensures.value ∙ ap (λ z. natural_in (int z)) (to_z-of_z w32 c.in-Some.row.now.falling_event fits) ∙ ap natural_in (sym shown.falling_event) ∙ sym (ap (event_asked journal c.args.index) c.in-Falling.is)
