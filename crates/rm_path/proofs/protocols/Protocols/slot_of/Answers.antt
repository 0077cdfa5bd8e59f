use Rattle.rm_path.proofs.Searches.{found_slot, no_slot}
use Rattle.rm_path.proofs.protocols.Protocols.slot_of.Goals as goal

-- the entry is that of its slot
pub returns-in-Ok : goal.returns-in-Ok
returns-in-Ok c =
    let at = rw (c.as_slice.ensures.value, c.number.ensures.value) at c.in-Ok.ensures.found in
    rw (c.deref.ensures.0, ← c.self.view_is) (found_slot _ _ c.self.invariant _ _ c.number.ensures.in_range at)

-- there is no entry
pub returns-in-Err : goal.returns-in-Err
returns-in-Err c =
    let gap = rw (c.as_slice.ensures.value, c.number.ensures.value) at c.in-Err.ensures.absent in
    rw (← c.self.view_is) (no_slot _ _ c.self.invariant _ _ gap)
