-- The header of an IPv4 datagram (RFC 791, section 3.1), and the ports behind it.
use Rattle.std.specs.Prelude.{ℕ, ◌*◌, ◌/◌, ◌%◌, ◌^◌, Bool, ◌&&◌, ◌||◌, ◌==◌, nat_le, if◌then◌else◌, List, length, drop, slice_index, slice_range, Option, Some, None}
use Rattle.std.specs.Option.{option_and_then}
use Rattle.byteorder.specs.Endian.{big_number}
use Rattle.rm_proto.specs.declared.datagram.IpPair.{IpPair}
use Rattle.rm_proto.specs.declared.ports.Ports.{Ports}

-- Version: the high half of the first octet
unfoldable pub version : List ℕ → ℕ
version datagram = slice_index datagram 0 / 16

-- Internet Header Length, in words of four octets: the low half of the first octet
unfoldable pub header_words : List ℕ → ℕ
header_words datagram = slice_index datagram 0 % 16

-- the octets of the header, its options included
abbrev pub header_length : List ℕ → ℕ
header_length datagram = 4 * header_words datagram

-- whether a header of version 4 stands whole at the front; the least has five words
abbrev pub has_header : List ℕ → Bool
has_header datagram = version datagram == 4
    && nat_le 5 (header_words datagram)
    && nat_le (header_length datagram) (length datagram)

-- Source Address and Destination Address
unfoldable pub addresses_of : List ℕ → IpPair
addresses_of datagram = record { source = slice_range datagram 12 16; dest = slice_range datagram 16 20 }

-- Fragment Offset: the low 13 bits of the seventh and eighth octet
unfoldable pub fragment_offset : List ℕ → ℕ
fragment_offset datagram = big_number 2 (drop 6 datagram) % 2 ^ 13

-- Protocol, in a whole datagram and a first fragment: the data of a later one doesn't begin with the protocol's header
unfoldable pub protocol_of : List ℕ → Option ℕ
protocol_of datagram = if fragment_offset datagram == 0 then Some (slice_index datagram 9) else None

-- Source Port and Destination Port, the first two numbers of a header of UDP (RFC 768) and of TCP (RFC 793)
unfoldable pub ports_at_front : List ℕ → Option Ports
ports_at_front segment =
    if nat_le 4 (length segment)
    then Some (record { source = big_number 2 segment; dest = big_number 2 (drop 2 segment) })
    else None

-- whether the ports of a protocol are told: 6 is TCP, 17 is UDP (RFC 1700)
abbrev pub has_ports : ℕ → Bool
has_ports protocol = protocol == 6 || protocol == 17

-- the ports of a datagram, behind its header
unfoldable pub ports_of : List ℕ → Option Ports
ports_of datagram =
    option_and_then
    (λ protocol. if has_ports protocol then ports_at_front (drop (header_length datagram) datagram) else None)
    (protocol_of datagram)
