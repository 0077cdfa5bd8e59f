use Rattle.std.proofs.Common.{ℕ, ◌<◌, Option, subst}
use Rattle.std.specs.Prelude.{IfSome}
use Rattle.rm_agent.specs.Agent.{dues_of}
use Rattle.rm_agent.specs.Known.{counting_by}
use Rattle.rm_agent.proofs.GroupDues.{all_later, is_next, none_until}
use Rattle.rm_agent.proofs.agent.Agent.next_due.Goals as goal

pub returns-clause-next : goal.returns-clause-next
returns-clause-next c = (c.next_due.result, rw c.deref.ensures at c.next_due.ensures, c.moment_of.ensures)

pub returns-clause-journal : goal.returns-clause-journal
returns-clause-journal c journal stands =
    let agent = c.args.self.now in
    (c.next_due.result, is_next agent.groups.value (counting_by agent.settings) journal stands.groups agent.last c.next_due.result agent.later stands.last (rw c.deref.ensures at c.next_due.ensures), c.moment_of.ensures)

pub returns-clause-none : goal.returns-clause-none
returns-clause-none c journal to stands later =
    let agent = c.args.self.now in
    let is = is_next agent.groups.value (counting_by agent.settings) journal stands.groups agent.last c.next_due.result agent.later stands.last (rw c.deref.ensures at c.next_due.ensures) in
    none_until is.ended to journal c.next_due.result is.first (subst (λ (moment : Option ℕ). IfSome moment (λ at. to < at)) c.moment_of.ensures later)

pub returns-clause-nothing : goal.returns-clause-nothing
returns-clause-nothing c to later =
    all_later (dues_of c.args.self.now) to c.next_due.result (rw c.deref.ensures at c.next_due.ensures) (subst (λ (moment : Option ℕ). IfSome moment (λ at. to < at)) c.moment_of.ensures later)
