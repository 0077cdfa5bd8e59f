use Rattle.std.proofs.Common.{sym, ap, ◌∙◌}
use Rattle.rm_layer_slots.proofs.SettledLemmas.{put_at, put_where}
use Rattle.rm_layer_slots.proofs.settling.place.Goals as goal

pub returns-in-Some : goal.returns-in-Some
returns-in-Some c =
    let off = c.has_slot.ensures in
    let first = c.first_empty.ensures in
    rw (← off, c.if-has_slot.false) (sym (put_at c.args.protocol c.args.slots.now ∙ ap (put_where c.args.protocol c.args.slots.now) (sym first ∙ c.in-Some.is)))

pub returns-in_default : goal.returns-in_default
returns-in_default c =
    let off = c.has_slot.ensures in
    let first = c.first_empty.ensures in
    rw (← off, c.if-has_slot.false) (sym (put_at c.args.protocol c.args.slots.now ∙ ap (put_where c.args.protocol c.args.slots.now) (sym first ∙ c.in_default.is)))
