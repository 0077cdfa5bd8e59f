-- The frames of a load: datagrams of UDP (RFC 768) over IPv4 (RFC 791) from and to 64 hosts, to the ports of DNS and of SNMP.
use Rattle.std.specs.Prelude.{ℕ, ◌+◌, ◌/◌, ◌%◌, ◌==◌, if◌then◌else◌, List, [], ◌∷◌, ◌++◌, replicate}
use Rattle.rm_model.specs.Journal.{Frame}
use Rattle.rm_load.specs.Draws.{number_of, drawn_by}

-- the hosts that a frame comes from and goes to, by what is drawn for it
abbrev pub source_of : ℕ → ℕ
source_of drawn = drawn % 64

abbrev pub destination_of : ℕ → ℕ
destination_of drawn = drawn / 64 % 64

-- the addresses of a host
abbrev pub ethernet_address : ℕ → List ℕ
ethernet_address host = 2 ∷ 0 ∷ 0 ∷ 0 ∷ 0 ∷ host ∷ []

abbrev pub ip_address : ℕ → List ℕ
ip_address host = 10 ∷ 0 ∷ 0 ∷ host ∷ []

-- the port that it goes to
abbrev pub port_of : ℕ → ℕ
port_of drawn = if drawn % 2 == 0 then 53 else 161

-- the header of IPv4: 46 octets, 64 hops, UDP, no checksum, and both addresses
abbrev pub ip_header : ℕ → List ℕ
ip_header drawn =
    0x45 ∷ 0 ∷ 0 ∷ 46 ∷ 0 ∷ 0 ∷ 0 ∷ 0 ∷ 64 ∷ 17 ∷ 0 ∷ 0 ∷ [] ++ ip_address (source_of drawn) ++ ip_address (destination_of drawn)

-- the header of UDP: from port 40000, 26 octets, no checksum
abbrev pub udp_header : ℕ → List ℕ
udp_header drawn = 0x9c ∷ 0x40 ∷ 0 ∷ port_of drawn ∷ 0 ∷ 26 ∷ 0 ∷ 0 ∷ []

-- the 60 octets that are captured of it
abbrev pub octets_of : ℕ → List ℕ
octets_of drawn =
    ethernet_address (destination_of drawn) ++ ethernet_address (source_of drawn) ++ 8 ∷ 0 ∷ [] ++ ip_header drawn ++ udp_header drawn ++ replicate 18 0

-- a frame with a number, by what is drawn for it: it comes a millisecond after the one before, and had 60 to 1514 octets
abbrev pub frame_by : (number drawn : ℕ) → Frame
frame_by number drawn = record {
  interface = 1;
  moment = 1000 + number;
  number = number;
  octets = octets_of drawn;
  original = 60 + drawn % 1455;
}

-- the frame with that number, from 1
abbrev pub frame_at : (start : ℕ) → ℕ → Frame
frame_at start i = frame_by i (drawn_by (number_of start i))
