use Rattle.std.proofs.Common.{ℕ, Some, refl, ap, subst, ◌∙◌, arith}
use Rattle.rm_acts.specs.Alarms.{due_of, IsNextDue}
use Rattle.rm_group.specs.Due.{IsFirst}
use Rattle.rm_agent.specs.Agent.{dues_of}
use Rattle.rm_agent.specs.Known.{counting_by}
use Rattle.rm_agent.proofs.GroupDues.{at_moment, is_next, its_end, its_sample, next_sample, there_is}
use Rattle.rm_agent.proofs.agent.Agent.due.Goals as goal

pub unwrap-next-requires : goal.unwrap-next-requires
unwrap-next-requires c = there_is (dues_of c.args.self.now) c.args.moment c.next_due.result c.requires (rw c.deref.ensures at c.next_due.ensures)

pub sample-requires : goal.sample-requires
sample-requires c =
    let agent = c.args.self.now in
    let first = subst (IsFirst (dues_of agent)) c.unwrap-next.ensures (rw c.deref.ensures at c.next_due.ensures) in
    let at = at_moment (dues_of agent) c.args.moment c.next_due.result c.unwrap-next.result c.requires (rw c.deref.ensures at c.next_due.ensures) c.unwrap-next.ensures in
    its_sample agent.groups.value c.unwrap-next.result first.0 c.if-next-eq-SAMPLES.true ∙ ap Some at

pub returns-then-next-eq-SAMPLES-clause-handled : goal.returns-then-next-eq-SAMPLES-clause-handled
returns-then-next-eq-SAMPLES-clause-handled c journal stands =
    let agent = c.args.self.now in
    let first = subst (IsFirst (dues_of agent)) c.unwrap-next.ensures (rw c.deref.ensures at c.next_due.ensures) in
    let at = at_moment (dues_of agent) c.args.moment c.next_due.result c.unwrap-next.result c.requires (rw c.deref.ensures at c.next_due.ensures) c.unwrap-next.ensures in
    let is = is_next agent.groups.value (counting_by agent.settings) journal stands.groups agent.last (Some c.unwrap-next.result) agent.later stands.last first in
    record {
      next = c.unwrap-next.result;
      comes = is;
      at = at;
      ended = λ kind. absurd (omega (arith, kind, c.if-next-eq-SAMPLES.true));
      sampled = λ kind.
          c.sample.ensures.sampled journal stands (subst (λ (moment : ℕ). IsNextDue (due_of journal) (Some (moment, c.unwrap-next.result.number))) at (next_sample is.ended journal c.unwrap-next.result is.first kind));
    }

pub returns-else-next-eq-SAMPLES-clause-handled : goal.returns-else-next-eq-SAMPLES-clause-handled
returns-else-next-eq-SAMPLES-clause-handled c journal stands =
    let agent = c.args.self.now in
    let first = subst (IsFirst (dues_of agent)) c.unwrap-next.ensures (rw c.deref.ensures at c.next_due.ensures) in
    record {
      next = c.unwrap-next.result;
      comes = is_next agent.groups.value (counting_by agent.settings) journal stands.groups agent.last (Some c.unwrap-next.result) agent.later stands.last first;
      at = at_moment (dues_of agent) c.args.moment c.next_due.result c.unwrap-next.result c.requires (rw c.deref.ensures at c.next_due.ensures) c.unwrap-next.ensures;
      ended = λ kind. (c.end_reports.ensures.stands journal stands, refl);
      sampled = λ kind. absurd (omega (arith, kind, c.if-next-eq-SAMPLES.false));
    }

pub returns-else-next-eq-SAMPLES-clause-fewer : goal.returns-else-next-eq-SAMPLES-clause-fewer
returns-else-next-eq-SAMPLES-clause-fewer c latest within =
    let agent = c.args.self.now in
    let first = subst (IsFirst (dues_of agent)) c.unwrap-next.ensures (rw c.deref.ensures at c.next_due.ensures) in
    let at = at_moment (dues_of agent) c.args.moment c.next_due.result c.unwrap-next.result c.requires (rw c.deref.ensures at c.next_due.ensures) c.unwrap-next.ensures in
    let kind = its_end agent.groups.value c.unwrap-next.result first.0 (λ is. omega (arith, is, c.if-next-eq-SAMPLES.false)) in
    c.end_reports.ensures.fewer c.unwrap-next.result latest first.0 (omega (arith, kind)) (omega (arith, at)) (omega (arith, at, within))
