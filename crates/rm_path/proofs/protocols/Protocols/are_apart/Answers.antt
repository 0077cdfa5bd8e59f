use Rattle.rm_path.proofs.Searches.{have_slots}
use Rattle.rm_path.proofs.protocols.Protocols.are_apart.Goals as goal

pub returns : goal.returns
returns c = rw (← c.self.view_is) (have_slots _ _ c.self.invariant)
