use Rattle.std.proofs.Common.{◌≤◌, ◌+◌, ◌*◌, ◌++◌, length, [], refl, ap, length-append, arith}
use Rattle.rm_ber.specs.Element.{group_octets}
use Rattle.rm_ber.proofs.CanonicalGroups.{first_fits, first_group, one_group}
use Rattle.rm_ber.proofs.sizes.name_content_size.Goals as goal

pub loop-place-init : goal.loop-place-init
loop-place-init c =
    let group = group_octets (40 * c.at.result + c.at-2.result) in
    let short : length group ≤ 5 = rw (← c.group_size-size.ensures.value) c.group_size-size.ensures.most in (
      group,
      first_group c.args.name.now [] group group _ _ (first_fits c.args.name.now c.requires) refl c.at.ensures c.at-2.ensures refl short refl,
      c.group_size-size.ensures.value,
    )

pub loop-place-preserved : goal.loop-place-preserved
loop-place-preserved c =
    let (content, has, size) = c.loop-place.invariant in
    let group = group_octets c.at-in-loop-place.result in
    let short : length group ≤ 5 = rw (← c.group_size-size-in-loop-place.ensures.value) c.group_size-size-in-loop-place.ensures.most in (
      content ++ group,
      one_group c.args.name.now c.loop-place.place content _ group has c.loop-place.auto.place (omega arith)
          (rw (← c.at-in-loop-place.ensures) c.at-in-loop-place.type_inv) (ap group_octets c.at-in-loop-place.ensures) short refl,
      omega (arith, size, c.group_size-size-in-loop-place.ensures.value, length-append content group),
    )
