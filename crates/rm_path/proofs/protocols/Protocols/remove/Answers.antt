use Rattle.rm_path.proofs.Searches.{without_one, some_found}
use Rattle.rm_path.proofs.protocols.Protocols.remove.Goals as goal

pub invariant_of-self : goal.invariant_of-self
invariant_of-self c =
    let at = rw (c.as_slice.ensures.value, c.number.ensures.value) at c.in-Ok.ensures.found in
    rw (c.from-in-Ok.ensures, c.remove.ensures.items)
    (without_one _ _ c.self.invariant c.args.slot c.in-Some.protocol c.requires (rw (← c.from.ensures) c.in-Some.is) c.in-Ok.place at)

-- the entry of its number is there
pub returns-in_default-place_of : goal.returns-in_default-place_of
returns-in_default-place_of c =
    let gap = rw (c.as_slice.ensures.value, c.number.ensures.value) at c.in_default-place_of.ensures.absent in
    absurd (some_found _ _ c.self.invariant c.args.slot c.in-Some.protocol c.requires (rw (← c.from.ensures) c.in-Some.is) _ gap)
