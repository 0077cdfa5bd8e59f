use Rattle.std.proofs.Common.{◌≡◌, ◌<◌, ◌++◌, take, drop, length, replicate, None}
use Rattle.rm_layer_slots.specs.On.{slots_on}
use Rattle.rm_layer_slots.proofs.slots.slots_on.Given as goal

abbrev pub invariant-loop-slot : goal.invariant-loop-slot
invariant-loop-slot l = record {
  on : l.on ≡ slots_on l.kind (take l.slot l.protocols) ++ drop l.slot (replicate 32 None);
  count : 0 < l.slot → length l.protocols ≡ 32;
}
