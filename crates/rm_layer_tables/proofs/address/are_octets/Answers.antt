use Rattle.rm_layer_tables.proofs.PlaceLemmas.{four_octets}
use Rattle.rm_layer_tables.proofs.address.are_octets.Goals as goal

pub returns : goal.returns
returns c = four_octets c.args.address.now c.requires (λ k. (c.type_inv.address k).fits)
