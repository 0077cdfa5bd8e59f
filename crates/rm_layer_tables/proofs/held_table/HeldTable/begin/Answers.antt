use Rattle.std.proofs.Common.{◌∷◌, sym, ap, ◌∙◌}
use Rattle.rm_val.specs.Val.{Val, int}
use Rattle.rm_layers.specs.Capacity.{capacity}
use Rattle.rm_layer_tables.specs.Control.{bound_of, control_set}
use Rattle.rm_layer_tables.specs.Held.{seen_events}
use Rattle.rm_layer_tables.proofs.held_table.HeldTable.begin.Goals as goal

pub returns-clause-begun : goal.returns-clause-begun
returns-clause-begun g c = λ layer settings row act earlier shared network application was now. record {
  capacity =
      c.begin.ensures.capacity ∙ c.room-room.ensures.value
      ∙ ap (λ upper. capacity upper (bound_of (int c.args.columns.now.network)) (bound_of (int c.args.columns.now.application))) (sym shared.upper)
      ∙ ap (λ (value : Val). capacity settings.upper (bound_of value) (bound_of (int c.args.columns.now.application))) network
      ∙ ap (λ (value : Val). capacity settings.upper (bound_of (control_set layer.control (act ∷ earlier) row 6)) (bound_of value)) application;
  on = c.begin.ensures.on ∙ shared.on;
  slots = rw c.begin.ensures.slots (record { on = λ protocol. c.settle-self.ensures.same shared.slots.apart protocol ∙ shared.slots.on protocol; apart = c.settle-self.ensures.apart });
  stands = rw (was, now) (c.begin.ensures.stands (seen_events layer g.K.PartialEq.eq settings earlier row));
}
