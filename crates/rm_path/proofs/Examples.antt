-- Paths worked out by hand.
use Rattle.std.proofs.Common.{◌≡◌, ℕ, List, [], ◌∷◌, Bool, true, false, Option, Some, None, refl}
use Rattle.std.specs.List.{list_any}
use Rattle.rm_proto.specs.declared.known.Facts.{Facts}
use Rattle.rm_proto.specs.declared.ports.Ports.{Ports}
use Rattle.rm_proto.specs.declared.ethernet.Cast.TheVariants.{Uni}
use Rattle.rm_path.specs.declared.identifier.ProtocolIdentifier.{ProtocolIdentifier}
use Rattle.rm_path.specs.declared.identifier.ProtocolIdentifier.TheVariants.{Ether2, Ether, Ip, Udp}
use Rattle.rm_path.specs.Identifier.{is_same}
use Rattle.rm_path.specs.Layers.{path_of}

-- a frame by its type, its protocol and its ports
abbrev frame : Option ℕ → Option ℕ → Option Ports → Facts
frame ether proto ports = record { interface = 1; length = 64; tagged = false; good = true; status = 0; pair = None; cast = Uni; ether = ether; ip = None; proto = proto; ports = ports }

abbrev active : List ProtocolIdentifier → ProtocolIdentifier → Bool
active protocols one = list_any (λ other. is_same other one) protocols

-- ether2, IP, ARP, TCP, UDP, domain and snmp over UDP
abbrev several : ProtocolIdentifier → Bool
several = active (Ether2 ∷ Ether 0x0800 ∷ Ether 0x0806 ∷ Ip 6 ∷ Ip 17 ∷ Udp 53 ∷ Udp 161 ∷ [])

abbrev from_to : ℕ → ℕ → Option Ports
from_to source dest = Some (record { source = source; dest = dest })

-- a request to an agent
request : path_of several (frame (Some 0x0800) (Some 17) (from_to 40000 161)) ≡ Ether2 ∷ Ether 0x0800 ∷ Ip 17 ∷ Udp 161 ∷ []
request = refl

-- a later fragment of it has no protocol, and so no ports
fragment : path_of several (frame (Some 0x0800) None None) ≡ Ether2 ∷ Ether 0x0800 ∷ []
fragment = refl

-- the port of the receiver comes before that of the sender, which counts where the other isn't active
receiver_first : path_of several (frame (Some 0x0800) (Some 17) (from_to 53 161)) ≡ Ether2 ∷ Ether 0x0800 ∷ Ip 17 ∷ Udp 161 ∷ []
receiver_first = refl

sender_else : path_of several (frame (Some 0x0800) (Some 17) (from_to 53 40000)) ≡ Ether2 ∷ Ether 0x0800 ∷ Ip 17 ∷ Udp 53 ∷ []
sender_else = refl

-- the ports of TCP are none of UDP's
other_ports : path_of several (frame (Some 0x0800) (Some 6) (from_to 53 161)) ≡ Ether2 ∷ Ether 0x0800 ∷ Ip 6 ∷ []
other_ports = refl

-- a layer that isn't active ends the path, whatever is active above it
gap : path_of (active (Ether2 ∷ Ether 0x0800 ∷ Udp 161 ∷ [])) (frame (Some 0x0800) (Some 17) (from_to 40000 161)) ≡ Ether2 ∷ Ether 0x0800 ∷ []
gap = refl

-- an unknown type, and a length in place of the type
unknown : path_of several (frame (Some 0x86dd) None None) ≡ Ether2 ∷ []
unknown = refl

length_of_ieee : path_of several (frame None None None) ≡ []
length_of_ieee = refl
