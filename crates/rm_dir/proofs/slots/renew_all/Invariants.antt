use Rattle.rm_dir.proofs.InSlots.{AreRenewedTo}
use Rattle.rm_dir.proofs.slots.renew_all.Given as goal

abbrev pub invariant-loop-slot : goal.invariant-loop-slot
invariant-loop-slot l = AreRenewedTo l.rows l.initial.protocols l.protocols l.slot
