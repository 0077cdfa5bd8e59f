-- The path of a frame: the protocols that it has, layer by layer, as far as a directory has them.
use Rattle.std.specs.Prelude.{ℕ, List, [], ◌∷◌, Bool, find, ◌==◌, if◌then◌else◌, Option, Some, None}
use Rattle.rm_proto.specs.declared.known.Facts.{Facts}
use Rattle.rm_proto.specs.declared.ports.Ports.{Ports}
use Rattle.rm_path.specs.declared.identifier.ProtocolIdentifier.{ProtocolIdentifier}
use Rattle.rm_path.specs.declared.identifier.ProtocolIdentifier.TheVariants.{Ether2, Ether, Ip, Tcp, Udp}

-- The protocols that may stand in one layer of a frame; the one that comes first is preferred.
abbrev pub Layer : Type 0
Layer = List ProtocolIdentifier

-- the lowest layer of a frame that has a type
abbrev pub base_layer : Option ℕ → Layer
base_layer None = []
base_layer (Some type) = Ether2 ∷ []

-- the protocol that Ethernet carries, by the type
abbrev pub type_layer : Option ℕ → Layer
type_layer None = []
type_layer (Some type) = Ether type ∷ []

-- the protocol that IP carries, where the type is that of IP (RFC 894)
abbrev pub protocol_layer : Option ℕ → Option ℕ → Layer
protocol_layer (Some type) (Some protocol) = if type == 0x0800 then Ip protocol ∷ [] else []
protocol_layer type protocol = []

-- the protocol that TCP (6) or UDP (17) carries, by the port of the receiver before that of the sender
abbrev pub port_layer : Option ℕ → Option Ports → Layer
port_layer (Some protocol) (Some ports) =
    if protocol == 6 then Tcp ports.dest ∷ Tcp ports.source ∷ []
    else if protocol == 17 then Udp ports.dest ∷ Udp ports.source ∷ []
    else []
port_layer protocol ports = []

-- the layers of a frame, the lowest first
abbrev pub layers_of : Facts → List Layer
layers_of facts = base_layer facts.ether ∷ type_layer facts.ether ∷ protocol_layer facts.ether facts.proto ∷ port_layer facts.proto facts.ports ∷ []

-- The path through layers: of each the first protocol that is active, up to the first layer that has none.
abbrev pub path_through : (ProtocolIdentifier → Bool) → List Layer → List ProtocolIdentifier
path_through is_active [] = []
path_through is_active (layer ∷ above) = elim (find is_active layer) [
  | None ↦ []
  | Some protocol ↦ protocol ∷ path_through is_active above
]

-- the path of a frame (RFC 2021, section 6, protocolDistStats), by the protocols that are active
abbrev pub path_of : (ProtocolIdentifier → Bool) → Facts → List ProtocolIdentifier
path_of is_active facts = path_through is_active (layers_of facts)
