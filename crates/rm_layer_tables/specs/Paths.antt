-- The protocols above ip on a path, by the slots that they have in the directory.
use Rattle.std.specs.Prelude.{ℕ, List, [], ◌∷◌, if◌then◌else◌, Option, Some, None}
use Rattle.rm_path.specs.declared.protocol.Protocol.{Protocol}
use Rattle.rm_path.specs.Identifier.{is_above_ip}
use Rattle.rm_path.specs.Slots.{protocol_in}
use Rattle.rm_layer_slots.specs.On.{with_local}

-- the local index of a protocol that is above ip
abbrev pub local_above : Option Protocol → Option ℕ
local_above None = None
local_above (Some protocol) = if is_above_ip protocol.identifier then Some protocol.local else None

-- those of the protocols in some slots
abbrev pub locals_in : List (Option Protocol) → (path : List ℕ) → List ℕ
locals_in slots [] = []
locals_in slots (slot ∷ path) = with_local (local_above (protocol_in slots slot)) (locals_in slots path)
