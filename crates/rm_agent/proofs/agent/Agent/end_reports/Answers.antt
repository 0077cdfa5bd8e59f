use Rattle.std.proofs.Common.{◌<◌, subst, arith}
use Rattle.rm_agent.specs.Groups.{left_of}
use Rattle.rm_agent.specs.Members.{Groups}
use Rattle.rm_agent.specs.Known.{counting_by}
use Rattle.rm_agent.proofs.GroupDues.{have_ended}
use Rattle.rm_agent.proofs.agent.Agent.end_reports.Goals as goal

pub returns-clause-stands : goal.returns-clause-stands
returns-clause-stands c journal stands = record {
  groups = c.end_by.ensures.stands (counting_by c.args.self.now.settings) journal (rw c.deref_mut.ensures.value stands.groups);
  last = omega (arith, stands.last, c.max-self.ensures);
  orderly = stands.orderly;
  notifications = stands.notifications;
}

pub returns-clause-ended : goal.returns-clause-ended
returns-clause-ended c = have_ended c.end_by.new.groups c.args.moment c.end_by.ensures.askable

pub returns-clause-fewer : goal.returns-clause-fewer
returns-clause-fewer c due latest falls below by within =
    let fewer = c.end_by.ensures.fewer due latest (rw c.deref_mut.ensures.value falls) below by within in
    subst (λ (groups : Groups). left_of c.end_by.new.groups latest < left_of groups latest) c.deref_mut.ensures.value fewer
