use Rattle.std.proofs.Common.{refl, ap, arith}
use Rattle.rm_ber.specs.Element.{group_octets}
use Rattle.rm_ber.proofs.CanonicalGroups.{first_fits, first_group, one_group}
use Rattle.rm_ber.proofs.writer.content.name_content.Goals as goal

pub loop-place-init : goal.loop-place-init
loop-place-init c =
    first_group c.args.name.now _ _ _ _ _ (first_fits c.args.name.now c.requires) c.new-content.ensures c.at.ensures c.at-2.ensures
    refl c.put_group.ensures.few c.put_group.ensures.value

pub loop-place-preserved : goal.loop-place-preserved
loop-place-preserved c =
    one_group c.args.name.now c.loop-place.place _ _ _ c.loop-place.invariant c.loop-place.auto.place (omega arith)
    (rw (← c.at-in-loop-place.ensures) c.at-in-loop-place.type_inv) (ap group_octets c.at-in-loop-place.ensures) c.put_group-in-loop-place.ensures.few
    c.put_group-in-loop-place.ensures.value
