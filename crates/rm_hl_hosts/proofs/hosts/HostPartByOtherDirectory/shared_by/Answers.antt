use Rattle.rm_hl_hosts.specs.Collection.{host_collection}
use Rattle.rm_hl_hosts.proofs.hosts.HostPartByOtherDirectory.shared_by.Goals as goal

pub returns : goal.returns
unfolding host_collection
returns c settings earlier later shared stands = c.by.ensures settings later shared.upper stands
