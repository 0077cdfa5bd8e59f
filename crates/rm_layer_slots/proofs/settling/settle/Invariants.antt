use Rattle.rm_layer_slots.proofs.SettledLemmas.{IsSettling}
use Rattle.rm_layer_slots.proofs.settling.settle.Given as goal

abbrev pub invariant-loop-slot : goal.invariant-loop-slot
invariant-loop-slot l = IsSettling l.old l.on l.slot l.slots
