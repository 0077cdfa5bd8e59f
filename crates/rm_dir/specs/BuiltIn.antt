-- The rows that the directory has from the beginning.
use Rattle.std.specs.Prelude.{ℕ, List, [], ◌∷◌, ◌++◌, Bool, ◌||◌, find, is_some, Option, unwrap_or, if◌then◌else◌, codes}
use Rattle.std.specs.List.{position_from}
use Rattle.rm_path.specs.declared.identifier.ProtocolIdentifier.{ProtocolIdentifier}
use Rattle.rm_path.specs.declared.identifier.ProtocolIdentifier.TheVariants.{Ether2, Ether, Ip, Tcp, Udp}
use Rattle.rm_path.specs.Identifier.{is_same, is_ip, is_above_ip}

-- a protocol that has a row from the beginning, and its protocolDirDescr
pub record BuiltIn : Type 0 where
  pub protocol : ProtocolIdentifier
  pub descr : List ℕ

abbrev pub of_ethernet : ProtocolIdentifier → List ℕ → BuiltIn
of_ethernet protocol name = record { protocol = protocol; descr = codes "ether2" ++ name }

abbrev pub of_ip : ProtocolIdentifier → List ℕ → BuiltIn
of_ip protocol name = of_ethernet protocol (codes ".ip" ++ name)

abbrev pub of_tcp : ℕ → List ℕ → BuiltIn
of_tcp port name = of_ip (Tcp port) (codes ".tcp" ++ name)

abbrev pub of_udp : ℕ → List ℕ → BuiltIn
of_udp port name = of_ip (Udp port) (codes ".udp" ++ name)

-- in the order of their local indexes, from 1
abbrev pub built_in_rows : List BuiltIn
built_in_rows =
    of_ethernet Ether2 []
    ∷ of_ip (Ether 0x0800) []
    ∷ of_ethernet (Ether 0x0806) (codes ".arp")
    ∷ of_ip (Ip 1) (codes ".icmp")
    ∷ of_ip (Ip 6) (codes ".tcp")
    ∷ of_ip (Ip 17) (codes ".udp")
    ∷ of_tcp 21 (codes ".ftp")
    ∷ of_tcp 23 (codes ".telnet")
    ∷ of_tcp 25 (codes ".smtp")
    ∷ of_tcp 53 (codes ".domain")
    ∷ of_tcp 80 (codes ".http")
    ∷ of_tcp 110 (codes ".pop3")
    ∷ of_tcp 143 (codes ".imap")
    ∷ of_tcp 443 (codes ".https")
    ∷ of_udp 53 (codes ".domain")
    ∷ of_udp 67 (codes ".bootps")
    ∷ of_udp 69 (codes ".tftp")
    ∷ of_udp 123 (codes ".ntp")
    ∷ of_udp 161 (codes ".snmp")
    ∷ of_udp 162 (codes ".snmptrap")
    ∷ []

-- the row of a protocol among them
abbrev pub built_in : ProtocolIdentifier → Option BuiltIn
built_in protocol = find (λ row. is_same row.protocol protocol) built_in_rows

abbrev pub is_built_in : ProtocolIdentifier → Bool
is_built_in protocol = is_some (built_in protocol)

-- its local index: its place among them, from 1; 0 where it isn't among them
abbrev pub built_in_local : ProtocolIdentifier → ℕ
built_in_local protocol = unwrap_or (position_from (λ row. is_same row.protocol protocol) 1 built_in_rows) 0

-- Whether the tables of hosts and of matrices can count a protocol: these go by the addresses of IP (RFC 2021, protocolDirHostConfig).
abbrev pub is_countable : ProtocolIdentifier → Bool
is_countable protocol = is_ip protocol || is_above_ip protocol

-- The bits of protocolDirType (RFC 2021): extensible is the first, 128, where rows can be made below the row of the protocol, and
-- addressRecognitionCapable the second, 64, where its addresses are told.
abbrev pub type_bits : ProtocolIdentifier → ℕ
type_bits Ether2 = 0x80
type_bits (Ether type) = if is_ip (Ether type) then 0xc0 else 0x00
type_bits (Ip protocol) = if is_same (Ip protocol) (Ip 6) || is_same (Ip protocol) (Ip 17) then 0x80 else 0x00
type_bits (Tcp port) = 0x00
type_bits (Udp port) = 0x00
