use Rattle.rm_sources.specs.Group.{Stands}
use Rattle.rm_sources.proofs.sources.Sources.pass.Goals as goal

pub returns-clause-begins : goal.returns-clause-begins
unfolding Stands
returns-clause-begins c settings earlier frame is stands later asked =
    let counted = c.pass.ensures.begins settings earlier frame is stands.first later asked.0 in record {
      ether = counted.first;
      collectors = counted.second;
      protocols = c.pass-2.ensures.begins settings earlier frame is stands.second.first later asked.1.0;
      channels = c.pass-3.ensures.begins settings earlier frame is stands.second.second later;
    }
