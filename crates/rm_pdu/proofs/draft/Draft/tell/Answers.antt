use Rattle.std.proofs.Common.{◌∙◌}
use Rattle.std.proofs.lemmas.Int.{to_z-of_z}
use Rattle.std.specs.Int.{w32}
use Rattle.rm_pdu.specs.contracts.draft.Draft.{the_view}
use Rattle.rm_pdu.proofs.DraftSizes.{told, told_short}
use Rattle.rm_pdu.proofs.draft.Draft.tell.Goals as goal

pub invariant_of-self : goal.invariant_of-self
invariant_of-self c =
    let (m, is, short) = c.requires in
    rw (to_z-of_z w32 c.args.status c.ranges.status, to_z-of_z w32 c.args.index c.ranges.index)
    (told_short (the_view c.self.inside) m c.args.status c.args.index (c.self.view_is ∙ is) short)

pub returns : goal.returns
returns c m is =
    rw (to_z-of_z w32 c.args.status c.ranges.status, to_z-of_z w32 c.args.index c.ranges.index)
    (told (the_view c.self.inside) m c.args.status c.args.index (c.self.view_is ∙ is))
