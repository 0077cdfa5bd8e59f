use Rattle.std.proofs.Common.{◌≡◌, take}
use Rattle.rm_layer_tables.specs.Paths.{locals_in}
use Rattle.rm_layer_tables.proofs.locals.locals_above_ip.Given as goal

abbrev pub invariant-loop-slot : goal.invariant-loop-slot
invariant-loop-slot l = l.locals.items ≡ locals_in l.protocols (take l.slot-index l.slot-items)
