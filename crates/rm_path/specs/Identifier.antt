-- Protocols by what carries them (RFC 2074), and the numbers in which their order is that of the names of their rows.
use Rattle.std.specs.Prelude.{ℕ, ◌+◌, ◌-◌, ◌<◌, Bool, true, false, nat_lt, ◌==◌, if◌then◌else◌}
use Rattle.rm_path.specs.declared.identifier.ProtocolIdentifier.{ProtocolIdentifier}
use Rattle.rm_path.specs.declared.identifier.ProtocolIdentifier.TheVariants.{Ether2, Ether, Ip, Tcp, Udp}

-- the number of a protocol: ether2 first, then the types of Ethernet, the protocols of IP, the ports of TCP and those of UDP
abbrev pub number_of : ProtocolIdentifier → ℕ
number_of Ether2 = 1
number_of (Ether type) = 65536 + type
number_of (Ip protocol) = 131072 + protocol
number_of (Tcp port) = 196608 + port
number_of (Udp port) = 262144 + port

-- the only protocol that can have a number
abbrev pub identified : ℕ → ProtocolIdentifier
identified number =
    if nat_lt number 65536 then Ether2
    else if nat_lt number 131072 then Ether (number - 65536)
    else if nat_lt number 196608 then Ip (number - 131072)
    else if nat_lt number 262144 then Tcp (number - 196608)
    else Udp (number - 262144)

-- a type of Ethernet and a port have 16 bits, a protocol of IP has 8
abbrev pub IsInRange : ProtocolIdentifier → Type 0
IsInRange Ether2 = Unit {0}
IsInRange (Ether type) = type < 65536
IsInRange (Ip protocol) = protocol < 256
IsInRange (Tcp port) = port < 65536
IsInRange (Udp port) = port < 65536

-- whether it is IP, by its type (RFC 894)
abbrev pub is_ip : ProtocolIdentifier → Bool
is_ip (Ether type) = type == 0x0800
is_ip Ether2 = false
is_ip (Ip protocol) = false
is_ip (Tcp port) = false
is_ip (Udp port) = false

-- whether IP carries it, also by what IP carries
abbrev pub is_above_ip : ProtocolIdentifier → Bool
is_above_ip (Ip protocol) = true
is_above_ip (Tcp port) = true
is_above_ip (Udp port) = true
is_above_ip Ether2 = false
is_above_ip (Ether type) = false

-- whether two are the same
abbrev pub is_same : ProtocolIdentifier → ProtocolIdentifier → Bool
is_same Ether2 Ether2 = true
is_same (Ether type) (Ether other) = type == other
is_same (Ip protocol) (Ip other) = protocol == other
is_same (Tcp port) (Tcp other) = port == other
is_same (Udp port) (Udp other) = port == other
is_same one other = false
