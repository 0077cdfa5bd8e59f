-- What a frame adds to the counters of etherStats (RFC 1757, section 5). It depends on the facts of the frame alone.
use Rattle.std.specs.Prelude.{ℕ, Bool, true, false, ◌&&◌, ◌==◌, nat_le, nat_eq, if◌then◌else◌}
use Rattle.rm_proto.specs.declared.known.Facts.{Facts}
use Rattle.rm_proto.specs.declared.ethernet.Cast.{Cast}
use Rattle.rm_proto.specs.declared.ethernet.Cast.TheVariants.{Broad, Multi}
use Rattle.rm_ether.specs.declared.counter.Counter.{Counter}
use Rattle.rm_ether.specs.declared.counter.Counter.TheVariants.{DropEvents, Octets, Pkts, BroadcastPkts, MulticastPkts, CRCAlignErrors, UndersizePkts, OversizePkts, Fragments, Jabbers, Collisions, Pkts64Octets, Pkts65to127Octets, Pkts128to255Octets, Pkts256to511Octets, Pkts512to1023Octets, Pkts1024to1518Octets}

-- 1 where a frame counts, 0 where it doesn't
abbrev pub one_if : Bool → ℕ
one_if true = 1
one_if false = 0

-- the class of a frame
abbrev pub is_broadcast : Cast → Bool
is_broadcast Broad = true
is_broadcast other = false

abbrev pub is_multicast : Cast → Bool
is_multicast Multi = true
is_multicast other = false

-- whether a frame has so many octets, the least and the greatest number included
abbrev pub has_octets : ℕ → ℕ → Facts → Bool
has_octets least greatest facts = nat_le least facts.length && nat_le facts.length greatest

-- What a frame adds to a counter. All frames count as packets and by their size, bad ones too; to the broadcast or
-- multicast address only good ones count. The status of a frame is 2 where it is undersized, 1 where it is oversized.
-- A capture has no frames that were dropped, damaged or collided.
abbrev pub counted : Counter → Facts → ℕ
counted DropEvents facts = 0
counted Octets facts = facts.length
counted Pkts facts = 1
counted BroadcastPkts facts = one_if (facts.good && is_broadcast facts.cast)
counted MulticastPkts facts = one_if (facts.good && is_multicast facts.cast)
counted CRCAlignErrors facts = 0
counted UndersizePkts facts = one_if (facts.status == 2)
counted OversizePkts facts = one_if (facts.status == 1)
counted Fragments facts = 0
counted Jabbers facts = 0
counted Collisions facts = 0
counted Pkts64Octets facts = one_if (has_octets 64 64 facts)
counted Pkts65to127Octets facts = one_if (has_octets 65 127 facts)
counted Pkts128to255Octets facts = one_if (has_octets 128 255 facts)
counted Pkts256to511Octets facts = one_if (has_octets 256 511 facts)
counted Pkts512to1023Octets facts = one_if (has_octets 512 1023 facts)
counted Pkts1024to1518Octets facts = one_if (has_octets 1024 1518 facts)

-- what a frame adds to a counter of the row whose data source is that interface
abbrev pub counted_from : ℕ → Counter → Facts → ℕ
counted_from source each facts = if nat_eq source facts.interface then counted each facts else 0
