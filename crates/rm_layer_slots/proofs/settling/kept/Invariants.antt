use Rattle.std.proofs.Common.{◌≡◌, replicate, None}
use Rattle.rm_layer_slots.specs.Settled.{kept_in}
use Rattle.rm_layer_slots.proofs.FillLemmas.{so_far}
use Rattle.rm_layer_slots.proofs.settling.kept.Given as goal

abbrev pub invariant-loop-slot : goal.invariant-loop-slot
invariant-loop-slot l = l.slots ≡ so_far (kept_in l.on) l.slot l.old (replicate 32 None)
