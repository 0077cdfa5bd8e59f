use Rattle.rm_layer_tables.proofs.PlaceLemmas.{pair_named}
use Rattle.rm_layer_tables.proofs.address_pair.AddressPairArrayU84LayerKey.is_named.Goals as goal

pub returns : goal.returns
returns c = pair_named c.args.self.now.first c.args.self.now.second c.are_octets.ensures c.are_octets-2.ensures
