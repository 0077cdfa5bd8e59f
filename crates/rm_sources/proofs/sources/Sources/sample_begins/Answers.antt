use Rattle.rm_sources.specs.Group.{Stands}
use Rattle.rm_sources.proofs.sources.Sources.sample_begins.Goals as goal

pub returns : goal.returns
unfolding Stands
returns c settings earlier alarm reading stands later asked =
    let counted = c.sample_begins.ensures settings earlier alarm reading stands.first later asked.0 in record {
      ether = counted.first;
      collectors = counted.second;
      protocols = c.sample_begins-2.ensures settings earlier alarm reading stands.second.first later;
      channels = c.sample_begins-3.ensures settings earlier alarm reading stands.second.second later;
    }
