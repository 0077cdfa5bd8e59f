use Rattle.std.proofs.Common.{◌≡◌, ◌++◌, List, take, drop, flat_map}
use Rattle.rm_pdu.specs.Message.{Binding}
use Rattle.rm_pdu.specs.Placed.{AreKept}
use Rattle.rm_decode.specs.Text.{binding_line}
use Rattle.rm_decode.proofs.writing.push_bindings.Given as goal

abbrev pub invariant-loop-place : goal.invariant-loop-place
invariant-loop-place l = (all : List Binding) → AreKept l.octets l.bindings all
    → l.text.items ++ flat_map binding_line (drop l.place (take 128 all)) ≡ l.fn.text.items ++ flat_map binding_line (take 128 all)
