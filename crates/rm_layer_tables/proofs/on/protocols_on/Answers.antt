use Rattle.rm_layer_tables.proofs.OnLemmas.{by_slots}
use Rattle.rm_layer_tables.proofs.on.protocols_on.Goals as goal

pub returns : goal.returns
returns c journal stands = rw c.slots_on.ensures (by_slots c.args.kind journal c.protocols-protocols.result.now (c.protocols-protocols.ensures.active journal stands) c.are_apart.ensures)
