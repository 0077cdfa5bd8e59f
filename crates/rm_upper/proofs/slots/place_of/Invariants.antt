use Rattle.std.proofs.Common.{◌≡◌, false, take}
use Rattle.rm_layers.specs.Applications.{has_slot}
use Rattle.rm_upper.specs.Shown.{protocols}
use Rattle.rm_upper.proofs.slots.place_of.Given as goal

abbrev pub invariant-loop-place : goal.invariant-loop-place
invariant-loop-place l = has_slot l.protocol (protocols (take l.place l.slots)) ≡ false
