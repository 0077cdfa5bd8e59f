use Rattle.std.proofs.Common.{false, sym, ap, ◌∙◌}
use Rattle.std.specs.Option.{option_map_or}
use Rattle.rm_layer_slots.specs.On.{counts}
use Rattle.rm_layer_tables.proofs.on.is_ip_on.Goals as goal

pub returns-in-Some : goal.returns-in-Some
returns-in-Some c journal stands = c.counts.ensures ∙ sym (ap (λ o. option_map_or (counts c.args.kind) o false) (sym (c.protocol.ensures journal stands) ∙ c.in-Some.is))

pub returns-in-None : goal.returns-in-None
returns-in-None c journal stands = sym (ap (λ o. option_map_or (counts c.args.kind) o false) (sym (c.protocol.ensures journal stands) ∙ c.in-None.is))
