-- What is counted of some frames, worked out by hand.
use Rattle.std.proofs.Common.{◌≡◌, ℕ, List, [], ◌∷◌, false, None, map, refl}
use Rattle.std.specs.Prelude.{pos}
use Rattle.rm_val.specs.Val.{int}
use Rattle.rm_proto.specs.Datagram.{fragment_offset, header_words, ports_at_front, ports_of, protocol_of, version}
use Rattle.rm_proto.specs.Ethernet.{is_tagged, ethernet_type}
use Rattle.rm_proto.specs.Facts.{datagram_in}
use Rattle.rm_model.specs.Counting.{Counting}
use Rattle.rm_model.specs.Journal.{Frame, Journal, assigns, passes}
use Rattle.rm_dist.specs.DistStats.{packets_of}
use Rattle.rm_dist.specs.Marks.{marks, with_local}

abbrev settings : Counting
settings = record { hosts = 4; pairs = 4; upper = 4; interfaces = 1; keep_short = false; readings = λ journal moment name. None }

-- a datagram of UDP from 10.0.0.1 to 10.0.0.2, by its fragment offset and its ports
abbrev datagram : (fragment source_high source_low dest_high dest_low : ℕ) → List ℕ
datagram fragment source_high source_low dest_high dest_low =
    2 ∷ 0 ∷ 0 ∷ 0 ∷ 0 ∷ 2 ∷ 2 ∷ 0 ∷ 0 ∷ 0 ∷ 0 ∷ 1 ∷ 8 ∷ 0
    ∷ 69 ∷ 0 ∷ 0 ∷ 28 ∷ 0 ∷ 0 ∷ 0 ∷ fragment ∷ 64 ∷ 17 ∷ 0 ∷ 0 ∷ 10 ∷ 0 ∷ 0 ∷ 1 ∷ 10 ∷ 0 ∷ 0 ∷ 2
    ∷ source_high ∷ source_low ∷ dest_high ∷ dest_low ∷ 0 ∷ 8 ∷ 0 ∷ 0 ∷ []

-- a frame with these octets, and so many where it was captured
abbrev frame : List ℕ → (original : ℕ) → Frame
frame octets original = record { interface = 1; moment = 1000; number = 1; octets = octets; original = original }

-- row 1 of protocolDistControl becomes active
abbrev begun : Journal
begun = assigns 500 (record { name = 1 ∷ 3 ∷ 6 ∷ 1 ∷ 2 ∷ 1 ∷ 16 ∷ 12 ∷ 1 ∷ 1 ∷ 6 ∷ 1 ∷ []; value = int (pos 4) } ∷ []) ∷ []

-- how many packets row 1 counts of ether2, IP, UDP, snmp over UDP and domain over UDP
abbrev packets : Journal → List ℕ
packets journal = map (λ local. packets_of (with_local local (marks settings 1 journal))) (1 ∷ 2 ∷ 6 ∷ 19 ∷ 15 ∷ [])

-- a datagram from port 40000 to port 161
one_datagram : packets (passes (frame (datagram 0 156 64 0 161) 60) ∷ begun) ≡ 1 ∷ 1 ∷ 1 ∷ 1 ∷ 0 ∷ []
unfolding is_tagged ethernet_type datagram_in version header_words protocol_of fragment_offset ports_of ports_at_front
one_datagram = refl

-- a later fragment of it
fragment_too : packets (passes (frame (datagram 1 156 64 0 161) 60) ∷ passes (frame (datagram 0 156 64 0 161) 60) ∷ begun) ≡ 2 ∷ 2 ∷ 1 ∷ 1 ∷ 0 ∷ []
unfolding is_tagged ethernet_type datagram_in version header_words protocol_of fragment_offset ports_of ports_at_front
fragment_too = refl

-- the port of the receiver comes first
to_domain : packets (passes (frame (datagram 0 0 161 0 53) 60) ∷ begun) ≡ 1 ∷ 1 ∷ 1 ∷ 0 ∷ 1 ∷ []
unfolding is_tagged ethernet_type datagram_in version header_words protocol_of fragment_offset ports_of ports_at_front
to_domain = refl

-- a frame that is too long doesn't count, and none counts before the row is active
too_long : packets (passes (frame (datagram 0 156 64 0 161) 1600) ∷ begun) ≡ 0 ∷ 0 ∷ 0 ∷ 0 ∷ 0 ∷ []
unfolding is_tagged
too_long = refl

not_yet : packets (passes (frame (datagram 0 156 64 0 161) 60) ∷ []) ≡ 0 ∷ 0 ∷ 0 ∷ 0 ∷ 0 ∷ []
unfolding is_tagged
not_yet = refl
