use Rattle.std.proofs.Common.{ap, arith, refl}
use Rattle.rm_proto.specs.declared.known.Facts.{Facts}
use Rattle.rm_pcap.specs.Progress.{frame_of}
use Rattle.rm_agent.specs.Known.{counting_by}
use Rattle.rm_agent.proofs.CountLemmas.{same_passing}
use Rattle.rm_agent.proofs.OrderlyLemmas.{orderly_passes}
use Rattle.rm_agent.proofs.agent.Agent.frame.Goals as goal

pub returns-clause-stands : goal.returns-clause-stands
returns-clause-stands c journal stands none =
    let counting = counting_by c.args.self.now.settings in
    let frame = frame_of c.args.frame.now in
    record {
      groups = c.pass.ensures.stands counting journal frame (record { known = ap (λ (facts : Facts). let other : Facts = record facts { interface = frame.interface } in other) c.facts.ensures; captured = refl; counted = refl; at = refl })
          (rw c.deref_mut.ensures.value stands.groups) (omega (arith, stands.last, c.requires.later));
      last = omega arith;
      orderly = orderly_passes journal frame none stands.orderly;
      notifications = same_passing counting frame journal _ stands.notifications;
    }
