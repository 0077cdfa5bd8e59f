use Rattle.rm_layer_tables.proofs.two_orders.TwoOrders.turn.Goals as goal

pub invariant_of-self-else-turn : goal.invariant_of-self-else-turn
invariant_of-self-else-turn g c = rw c.if-turn.ensures.rows c.self.invariant

pub returns-then-turn-clause-turned : goal.returns-then-turn-clause-turned
returns-then-turn-clause-turned g c = rw (← c.self.view_is) c.turn.ensures.turned

pub returns-else-turn-clause-turned : goal.returns-else-turn-clause-turned
returns-else-turn-clause-turned g c = rw (← c.self.view_is) c.turn.ensures.turned
