use Rattle.std.proofs.Common.{arith}
use Rattle.rm_agent.specs.Known.{counting_by}
use Rattle.rm_agent.proofs.GroupDues.{askable_by}
use Rattle.rm_agent.proofs.agent.Agent.cell.Goals as goal

pub returns : goal.returns
returns c journal stands =
    let agent = c.args.self.now in
    c.cell.ensures (counting_by agent.settings) journal (rw c.deref.ensures stands.groups) (omega (arith, stands.last, c.requires.later))
    (rw c.deref.ensures (askable_by agent.groups.value c.args.now c.requires.nothing))
