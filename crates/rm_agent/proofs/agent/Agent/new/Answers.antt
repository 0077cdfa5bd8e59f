use Rattle.std.proofs.Common.{arith}
use Rattle.rm_agent.proofs.OrderlyLemmas.{orderly_begins}
use Rattle.rm_agent.proofs.agent.Agent.new.Goals as goal

pub returns-clause-stands : goal.returns-clause-stands
returns-clause-stands c = record {
  groups = c.in_ok-all_groups.ensures.stands;
  last = omega arith;
  orderly = orderly_begins;
  notifications = omega arith;
}
