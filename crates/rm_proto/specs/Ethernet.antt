-- The header of an Ethernet frame, and its length on the wire. A frame is the list of its captured octets.
use Rattle.std.specs.Prelude.{ℕ, ◌+◌, ◌%◌, max, Bool, ◌&&◌, ◌==◌, nat_le, nat_lt, if◌then◌else◌, List, length, drop, replicate, slice_index, slice_range, Option, Some, None}
use Rattle.std.specs.Str.{bytes_eq}
use Rattle.byteorder.specs.Endian.{big_number}
use Rattle.rm_proto.specs.declared.ethernet.Pair.{Pair}
use Rattle.rm_proto.specs.declared.ethernet.Cast.{Cast}
use Rattle.rm_proto.specs.declared.ethernet.Cast.TheVariants.{Broad, Multi, Uni}

-- The octets of a frame on the wire, by their number without the check sequence, whose four octets captures leave
-- out. A short frame is taken as padded to the least length of Ethernet, 64 octets with the check sequence (IEEE
-- 802.3), unless short frames are kept.
abbrev pub length_of : ℕ → Bool → ℕ
length_of original keep_short = (if keep_short then original else max original 60) + 4

-- whether a tag stands behind the addresses, by the number that is in the place of the type there (IEEE 802.1Q, Tag Protocol Identification)
unfoldable pub is_tagged : List ℕ → Bool
is_tagged bytes = nat_le 14 (length bytes) && big_number 2 (drop 12 bytes) == 0x8100

-- the most octets of a good packet: 1518 (RFC 1757, etherStatsOversizePkts), and four more where a frame is tagged (IEEE 802.3, Q-tagged frames)
abbrev pub most_of : Bool → ℕ
most_of tagged = if tagged then 1522 else 1518

-- a good packet has 64 octets at least (RFC 1757, etherStatsUndersizePkts), and no more than it may have
abbrev pub is_good : Bool → ℕ → Bool
is_good tagged wire_length = nat_le 64 wire_length && nat_le wire_length (most_of tagged)

-- the status bits of a packet: 1 where it is longer than a good one, 2 where shorter (RFC 1757, filterPktStatus)
abbrev pub status_of : Bool → ℕ → ℕ
status_of tagged wire_length =
    if nat_lt (most_of tagged) wire_length then 1
    else if nat_lt wire_length 64 then 2
    else 0

-- the addresses: the destination in the first six octets, the source in the next six (IEEE 802.3)
unfoldable pub pair_of : List ℕ → Option Pair
pair_of bytes =
    if nat_le 12 (length bytes)
    then Some (record { source = slice_range bytes 6 12; dest = slice_range bytes 0 6 })
    else None

-- whether the address is the broadcast address, all ones (IEEE 802.3)
unfoldable pub is_broadcast : List ℕ → Bool
is_broadcast address = bytes_eq address (replicate 6 0xff)

-- whether the address is one of a group: the lowest bit of its first octet is set (IEEE 802.3)
unfoldable pub is_group : List ℕ → Bool
is_group address = slice_index address 0 % 2 == 1

-- whom a frame with these addresses was sent to, by the destination
abbrev pub cast_of : Option Pair → Cast
cast_of None = Uni
cast_of (Some pair) =
    if is_broadcast pair.dest then Broad
    else if is_group pair.dest then Multi
    else Uni

-- Where the type stands: behind the addresses, and behind a tag, which has four octets. One tag is skipped: where another one follows it,
-- that one's number is the type.
abbrev pub type_at : Bool → ℕ
type_at tagged = if tagged then 16 else 12

-- the number there, which is a type where it is 1536 at least, and else a length (RFC 894; IEEE 802.3)
unfoldable pub ethernet_type : List ℕ → Option ℕ
ethernet_type bytes =
    let at = type_at (is_tagged bytes) in
    let number = big_number 2 (drop at bytes) in
    if nat_le (at + 2) (length bytes) && nat_le 1536 number then Some number else None

-- what follows the type
abbrev pub payload : List ℕ → List ℕ
payload bytes = drop (type_at (is_tagged bytes) + 2) bytes
