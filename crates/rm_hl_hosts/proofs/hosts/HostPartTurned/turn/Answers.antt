use Rattle.std.proofs.Common.{◌*◌, sym, ap}
use Rattle.rm_hl_hosts.specs.Collection.{host_collection}
use Rattle.rm_hl_hosts.specs.HostLaws.{names_few}
use Rattle.rm_hl_hosts.specs.Hosts.{host_layer}
use Rattle.rm_hl_hosts.proofs.hosts.HostPartTurned.turn.Goals as goal

pub returns-clause-turned : goal.returns-clause-turned
unfolding host_collection
returns-clause-turned c settings moment values earlier row given shared begun = record {
  source = begun.source;
  held = c.turn.ensures.turned host_layer settings row moment values earlier names_few (rw c.from-stamp.ensures (ap (λ frames. 2 * frames) (sym given))) shared begun.held;
}
