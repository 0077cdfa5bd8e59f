use Rattle.rm_path.proofs.Searches.{have_slots}
use Rattle.rm_path.proofs.protocols.Protocols.free_slot.Goals as goal

pub returns-in_err-place-clause-slots : goal.returns-in_err-place-clause-slots
returns-in_err-place-clause-slots c = rw (← c.self.view_is) (have_slots _ _ c.self.invariant)

pub returns-clause-slots : goal.returns-clause-slots
returns-clause-slots c = rw (← c.self.view_is) (have_slots _ _ c.self.invariant)
