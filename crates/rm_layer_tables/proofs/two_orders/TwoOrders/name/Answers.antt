use Rattle.rm_rows.specs.Table.{keys_of}
use Rattle.rm_layer_tables.proofs.two_orders.TwoOrders.name.Goals as goal

pub invariant_of-self : goal.invariant_of-self
invariant_of-self g c = (
  c.follow.ensures.keys (keys_of c.self.inside.first.table.layered.table.rows) (keys_of c.name-touch.new.self.layered.table.rows) c.self.invariant.0 c.name-touch.ensures.keys,
  rw c.follow.ensures.room c.self.invariant.1,
)
