use Rattle.std.proofs.Common.{sym, subst, ◌∙◌}
use Rattle.rm_layers.specs.Applications.{Slots}
use Rattle.rm_layer_slots.specs.Settled.{AreSettled}
use Rattle.rm_layer_tables.proofs.held_table.HeldTable.turn.Goals as goal

pub returns-clause-turned : goal.returns-clause-turned
returns-clause-turned g c = λ layer settings row moment values earlier few at shared begun.
    c.turn-is_turned.ensures.stands layer settings row moment values earlier few at shared.on
    (record { on = λ protocol. c.settle-slots.ensures.same shared.slots.apart protocol ∙ shared.slots.on protocol; apart = c.settle-slots.ensures.apart })
    (subst (λ (old : Slots). AreSettled old c.settle-slots.result) (sym c.args.self.now.tuned) c.settle-slots.ensures.settled)
    begun
