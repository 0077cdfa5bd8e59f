-- The facts of a frame.
use Rattle.std.specs.Prelude.{ℕ, Bool, false, ◌&&◌, ◌==◌, if◌then◌else◌, List, Option, Some, None}
use Rattle.std.specs.Option.{option_map, option_map_or, option_and_then}
use Rattle.rm_proto.specs.Ethernet.{length_of, is_tagged, is_good, status_of, pair_of, cast_of, ethernet_type, payload}
use Rattle.rm_proto.specs.Datagram.{has_header, addresses_of, protocol_of, ports_of}
use Rattle.rm_proto.specs.declared.known.Facts.{Facts}

-- whether the type of a frame is that of IP (RFC 894)
abbrev pub is_ip : List ℕ → Bool
is_ip bytes = option_map_or (λ number. number == 0x0800) (ethernet_type bytes) false

-- the IPv4 datagram in a frame of that type, where its header is whole
unfoldable pub datagram_in : List ℕ → Option (List ℕ)
datagram_in bytes = if is_ip bytes && has_header (payload bytes) then Some (payload bytes) else None

-- The facts of a frame with these captured octets, which had that many octets where it was captured, its check
-- sequence left out.
-- They are told for interface 1: which one a frame came from, its octets don't say.
abbrev pub facts_of : List ℕ → ℕ → Bool → Facts
facts_of bytes original keep_short = record {
  interface = 1;
  length = length_of original keep_short;
  tagged = is_tagged bytes;
  good = is_good (is_tagged bytes) (length_of original keep_short);
  status = status_of (is_tagged bytes) (length_of original keep_short);
  pair = pair_of bytes;
  cast = cast_of (pair_of bytes);
  ether = ethernet_type bytes;
  ip = option_map addresses_of (datagram_in bytes);
  proto = option_and_then protocol_of (datagram_in bytes);
  ports = option_and_then ports_of (datagram_in bytes);
}
