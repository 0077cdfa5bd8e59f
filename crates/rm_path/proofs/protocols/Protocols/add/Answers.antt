use Rattle.std.proofs.Common.{arith}
use Rattle.rm_path.proofs.Searches.{has_room, with_one_more, none_found}
use Rattle.rm_path.proofs.protocols.Protocols.add.Goals as goal

-- a slot is empty, so there are fewer entries than slots
pub insert-requires : goal.insert-requires
insert-requires c =
    let room = has_room _ _ c.self.invariant c.args.slot c.args.protocol c.requires.within (rw c.self.view_is c.requires.empty) in
    let gap = rw (c.as_slice.ensures.value, c.number-number.ensures.value) at c.in-Err.ensures.absent in
    omega (arith, room, gap.within)

pub invariant_of-self : goal.invariant_of-self
invariant_of-self c =
    let gap = rw (c.as_slice.ensures.value, c.number-number.ensures.value) at c.in-Err.ensures.absent in
    rw (c.from.ensures, c.insert.ensures.items, c.number-number.ensures.value)
    (with_one_more _ _ c.self.invariant c.args.slot c.args.protocol c.requires.within (rw c.self.view_is c.requires.empty) c.number-number.ensures.in_range (rw c.self.view_is c.requires.inactive) c.in-Err.place gap)

-- no entry has its number
pub returns-in_default : goal.returns-in_default
returns-in_default c =
    let is = rw (c.as_slice.ensures.value, c.number-number.ensures.value) at c.in_default.ensures.found in
    absurd (none_found _ _ c.self.invariant c.args.slot c.args.protocol c.requires.within (rw c.self.view_is c.requires.empty) c.number-number.ensures.in_range (rw c.self.view_is c.requires.inactive) _ is)
