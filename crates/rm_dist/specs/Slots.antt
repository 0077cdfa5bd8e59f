-- The local indexes of protocols in slots.
use Rattle.std.specs.Prelude.{ℕ, List, Option}
use Rattle.std.specs.Option.{option_map_or}
use Rattle.rm_path.specs.declared.protocol.Protocol.{Protocol}
use Rattle.rm_path.specs.Slots.{protocol_in}

-- the local index of the protocol in a slot, 0 where there is none
abbrev pub local_in : List (Option Protocol) → (slot : ℕ) → ℕ
local_in slots slot = option_map_or (λ protocol. protocol.local) (protocol_in slots slot) 0
