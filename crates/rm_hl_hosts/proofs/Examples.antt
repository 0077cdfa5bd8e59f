-- What hosts of the network and application layer show of some frames, worked out by hand.
use Rattle.std.proofs.Common.{◌≡◌, ℕ, zero, suc, ◌+◌, ◌*◌, List, [], ◌∷◌, ◌++◌, map, refl, Option, Some, None}
use Rattle.std.specs.Prelude.{pos, negsuc}
use Rattle.rm_val.specs.Val.{Val, int, counter, gauge, ticks}
use Rattle.rm_proto.specs.Datagram.{addresses_of, fragment_offset, header_words, ports_at_front, ports_of, protocol_of, version}
use Rattle.rm_proto.specs.Ethernet.{ethernet_type, is_tagged, is_broadcast, is_group, pair_of}
use Rattle.rm_proto.specs.Facts.{datagram_in}
use Rattle.rm_model.specs.Journal.{Act, Assignment, Journal, assigns, passes}
use Rattle.rm_model.proofs.ExampleSettings.{plain}
use Rattle.rm_path.specs.declared.identifier.ProtocolIdentifier.TheVariants.{Ether, Ip}
use Rattle.rm_dir.specs.DirectoryIndex.{index_with}
use Rattle.rm_dir.specs.ProtocolDir.{directory_entry}
use Rattle.rm_layer_slots.specs.On.{protocols_named}
use Rattle.rm_hl_hosts.specs.Control.{control_entry}
use Rattle.rm_hl_hosts.specs.Hosts.{network_entry, application_entry}
use Rattle.rm_hl_hosts.specs.HostCells.{host_cells}

-- an address of IP, and a frame with a datagram of UDP from one host to another, by the low octets of its ports
abbrev address : ℕ → List ℕ
address last = 10 ∷ 0 ∷ 0 ∷ last ∷ []

abbrev datagram : (protocol source dest source_port dest_port : ℕ) → List ℕ
datagram protocol source dest source_port dest_port =
    2 ∷ 0 ∷ 0 ∷ 0 ∷ 0 ∷ dest ∷ 2 ∷ 0 ∷ 0 ∷ 0 ∷ 0 ∷ source ∷ 8 ∷ 0
    ∷ 69 ∷ 0 ∷ 0 ∷ 28 ∷ 0 ∷ 0 ∷ 0 ∷ 0 ∷ 64 ∷ protocol ∷ 0 ∷ 0 ∷ 10 ∷ 0 ∷ 0 ∷ source ∷ 10 ∷ 0 ∷ 0 ∷ dest
    ∷ 0 ∷ source_port ∷ 0 ∷ dest_port ∷ 0 ∷ 8 ∷ 0 ∷ 0 ∷ []

abbrev sized : (original moment source dest source_port dest_port : ℕ) → Act
sized original moment source dest source_port dest_port =
    passes (record { interface = 1; moment = moment; number = 1; octets = datagram 17 source dest source_port dest_port; original = original })

-- one of 60 octets beside the check sequence, from a port that has no protocol to another
abbrev frame : (moment source dest : ℕ) → Act
frame moment source dest = sized 60 moment source dest 1 2

-- columns of row 1 of hlHostControl that are set to numbers, and what tables of hosts make of a protocol
abbrev set : ℕ → ℕ → Assignment
set column n = record { name = control_entry ++ column ∷ 1 ∷ []; value = int (pos n) }

abbrev set_hosts : List ℕ → ℕ → Assignment
set_hosts index n = record { name = directory_entry ++ 7 ∷ index; value = int (pos n) }

abbrev ip : List ℕ
ip = index_with (Ether 0x0800)

abbrev udp : List ℕ
udp = index_with (Ip 17)

-- row 1 becomes active at 500
abbrev begun : Journal
begun = assigns 500 (set 12 4 ∷ []) ∷ []

-- what the columns show at a moment of row 1 of hlHostControl, of a host at a mark, and of a protocol of it
abbrev control : Journal → (column : ℕ) → Option Val
control journal column = host_cells plain journal 9000 (control_entry ++ column ∷ 1 ∷ [])

abbrev host : Journal → (now mark last column : ℕ) → Option Val
host journal now mark last column = host_cells plain journal now (network_entry ++ column ∷ 1 ∷ mark ∷ 2 ∷ 4 ∷ address last)

abbrev application : Journal → (now mark last local column : ℕ) → Option Val
application journal now mark last local column =
    host_cells plain journal now (application_entry ++ column ∷ 1 ∷ mark ∷ 2 ∷ 4 ∷ (address last ++ local ∷ []))

-- rows entered and gone, of both layers
abbrev entered_and_gone : Journal → List (Option Val)
entered_and_gone journal = map (control journal) (4 ∷ 5 ∷ 8 ∷ 9 ∷ [])

-- a frame from host 1 to host 2 at 1000, and one from 3 to 4 at 1500
abbrev first_frame : Journal
first_frame = frame 1000 1 2 ∷ begun

abbrev two_frames : Journal
two_frames = frame 1500 3 4 ∷ first_frame

-- packets into each host at a mark
abbrev in_at : Journal → (mark : ℕ) → List (Option Val)
in_at journal mark = map (λ last. host journal 2000 mark last 3) (1 ∷ 2 ∷ 3 ∷ 4 ∷ [])

at_first_mark : in_at two_frames 100 ≡ Some (gauge 0) ∷ Some (gauge 1) ∷ Some (gauge 0) ∷ Some (gauge 1) ∷ []
unfolding is_tagged ethernet_type datagram_in version header_words addresses_of protocol_of fragment_offset ports_of ports_at_front pair_of is_broadcast is_group protocols_named
at_first_mark = refl

-- the first two don't stand beyond their last tick, and the other two up to theirs
at_next_mark : in_at two_frames 101 ≡ None ∷ None ∷ Some (gauge 0) ∷ Some (gauge 1) ∷ []
unfolding is_tagged ethernet_type datagram_in version header_words addresses_of protocol_of fragment_offset ports_of ports_at_front pair_of is_broadcast is_group protocols_named
at_next_mark = refl

at_last_mark : in_at two_frames 150 ≡ None ∷ None ∷ Some (gauge 0) ∷ Some (gauge 1) ∷ []
unfolding is_tagged ethernet_type datagram_in version header_words addresses_of protocol_of fragment_offset ports_of ports_at_front pair_of is_broadcast is_group protocols_named
at_last_mark = refl

beyond : in_at two_frames 151 ≡ None ∷ None ∷ None ∷ None ∷ []
unfolding is_tagged ethernet_type datagram_in version header_words addresses_of protocol_of fragment_offset ports_of ports_at_front pair_of is_broadcast is_group protocols_named
beyond = refl

sent_at_0 : host two_frames 2000 0 1 4 ≡ Some (gauge 1)
unfolding is_tagged ethernet_type datagram_in version header_words addresses_of protocol_of fragment_offset ports_of ports_at_front pair_of is_broadcast is_group protocols_named
sent_at_0 = refl

-- nothing stands while sysUpTime is 0
abbrev early : Journal
early = frame 3 1 2 ∷ assigns 1 (set 12 4 ∷ []) ∷ []

not_yet : host early 9 0 2 3 ≡ None
unfolding is_tagged ethernet_type datagram_in version header_words addresses_of protocol_of fragment_offset ports_of ports_at_front pair_of is_broadcast is_group protocols_named
not_yet = refl

then : host early 10 0 2 3 ≡ Some (gauge 1)
unfolding is_tagged ethernet_type datagram_in version header_words addresses_of protocol_of fragment_offset ports_of ports_at_front pair_of is_broadcast is_group protocols_named
then = refl

-- with NlMaxDesiredEntries 1 the destination alone is held
abbrev room_for_one : Journal
room_for_one = frame 1000 1 2 ∷ assigns 500 (set 6 1 ∷ set 12 4 ∷ []) ∷ []

one_gone : map (control room_for_one) (4 ∷ 5 ∷ 6 ∷ 10 ∷ []) ≡ Some (counter 2) ∷ Some (counter 1) ∷ Some (int (pos 1)) ∷ Some (int (negsuc 0)) ∷ []
unfolding is_tagged ethernet_type datagram_in version header_words addresses_of protocol_of fragment_offset ports_of ports_at_front pair_of is_broadcast is_group protocols_named
one_gone = refl

one_held : map (λ last. host room_for_one 2000 0 last 3) (1 ∷ 2 ∷ []) ≡ None ∷ Some (gauge 1) ∷ []
unfolding is_tagged ethernet_type datagram_in version header_words addresses_of protocol_of fragment_offset ports_of ports_at_front pair_of is_broadcast is_group protocols_named
one_held = refl

-- ip is turned off for hosts at 3000 and on at 4000, and the frame comes once more
abbrev ip_off : Journal
ip_off = assigns 3000 (set_hosts ip 2 ∷ []) ∷ first_frame

abbrev ip_on : Journal
ip_on = frame 5000 1 2 ∷ assigns 4000 (set_hosts ip 3 ∷ []) ∷ ip_off

all_gone : entered_and_gone ip_off ≡ Some (counter 2) ∷ Some (counter 2) ∷ Some (counter 2) ∷ Some (counter 2) ∷ []
unfolding is_tagged ethernet_type datagram_in version header_words addresses_of protocol_of fragment_offset ports_of ports_at_front pair_of is_broadcast is_group protocols_named
all_gone = refl

none_left : map (λ last. host ip_off 3000 0 last 3) (1 ∷ 2 ∷ []) ≡ None ∷ None ∷ []
unfolding is_tagged ethernet_type datagram_in version header_words addresses_of protocol_of fragment_offset ports_of ports_at_front pair_of is_broadcast is_group protocols_named
none_left = refl

entered_again : entered_and_gone ip_on ≡ Some (counter 4) ∷ Some (counter 2) ∷ Some (counter 4) ∷ Some (counter 2) ∷ []
unfolding is_tagged ethernet_type datagram_in version header_words addresses_of protocol_of fragment_offset ports_of ports_at_front pair_of is_broadcast is_group protocols_named
entered_again = refl

created_again : map (λ last. host ip_on 6000 0 last 8) (1 ∷ 2 ∷ []) ≡ Some (ticks 500) ∷ Some (ticks 500) ∷ []
unfolding is_tagged ethernet_type datagram_in version header_words addresses_of protocol_of fragment_offset ports_of ports_at_front pair_of is_broadcast is_group protocols_named
created_again = refl

-- udp is turned off and on: its row of host 2 goes, and comes again with what comes then
abbrev udp_off : Journal
udp_off = assigns 3000 (set_hosts udp 2 ∷ []) ∷ first_frame

abbrev udp_on : Journal
udp_on = sized 100 5000 1 2 1 2 ∷ assigns 4000 (set_hosts udp 3 ∷ []) ∷ udp_off

udp_counted : map (application first_frame 2000 100 2 6) (2 ∷ 4 ∷ 6 ∷ []) ≡ Some (gauge 1) ∷ Some (gauge 64) ∷ Some (ticks 100) ∷ []
unfolding is_tagged ethernet_type datagram_in version header_words addresses_of protocol_of fragment_offset ports_of ports_at_front pair_of is_broadcast is_group protocols_named
udp_counted = refl

udp_gone : application udp_off 3000 0 2 6 2 ≡ None
unfolding is_tagged ethernet_type datagram_in version header_words addresses_of protocol_of fragment_offset ports_of ports_at_front pair_of is_broadcast is_group protocols_named
udp_gone = refl

udp_anew : map (application udp_on 6000 500 2 6) (2 ∷ 4 ∷ 6 ∷ []) ≡ Some (gauge 1) ∷ Some (gauge 104) ∷ Some (ticks 500) ∷ []
unfolding is_tagged ethernet_type datagram_in version header_words addresses_of protocol_of fragment_offset ports_of ports_at_front pair_of is_broadcast is_group protocols_named
udp_anew = refl

udp_entered_twice : entered_and_gone udp_on ≡ Some (counter 2) ∷ Some (counter 0) ∷ Some (counter 4) ∷ Some (counter 2) ∷ []
unfolding is_tagged ethernet_type datagram_in version header_words addresses_of protocol_of fragment_offset ports_of ports_at_front pair_of is_broadcast is_group protocols_named
udp_entered_twice = refl

-- queries of 74 octets from host 5 to port 53 of host 53, and answers of 90 octets back, by turns
abbrev queries : ℕ → Journal
queries zero = begun
queries (suc n) = sized 90 (5020 + 40 * n) 53 5 53 200 ∷ sized 74 (5000 + 40 * n) 5 53 200 53 ∷ queries n

octets_asked : host (queries 100) 10000 0 5 6 ≡ Some (gauge 7800)
unfolding is_tagged ethernet_type datagram_in version header_words addresses_of protocol_of fragment_offset ports_of ports_at_front pair_of is_broadcast is_group protocols_named
octets_asked = refl

packets_of_domain : application (queries 100) 10000 0 53 15 2 ≡ Some (gauge 100)
unfolding is_tagged ethernet_type datagram_in version header_words addresses_of protocol_of fragment_offset ports_of ports_at_front pair_of is_broadcast is_group protocols_named
packets_of_domain = refl

-- frames before the row is active, of no addresses, or too long count for none
before_it : host (assigns 1000 (set 12 4 ∷ []) ∷ frame 1000 1 2 ∷ []) 2000 0 2 3 ≡ None
unfolding is_tagged ethernet_type datagram_in version header_words addresses_of protocol_of fragment_offset ports_of ports_at_front pair_of is_broadcast is_group protocols_named
before_it = refl

too_long : host (sized 1600 1000 1 2 1 2 ∷ begun) 2000 0 2 3 ≡ None
unfolding is_tagged ethernet_type datagram_in version header_words addresses_of protocol_of fragment_offset ports_of ports_at_front pair_of is_broadcast is_group protocols_named
too_long = refl

-- a row that isn't active any more shows none, and counts none
abbrev idle : Journal
idle = assigns 2000 (set 12 2 ∷ []) ∷ first_frame

idle_hosts : host idle 2000 0 2 3 ≡ None
unfolding is_tagged ethernet_type datagram_in version header_words addresses_of protocol_of fragment_offset ports_of ports_at_front pair_of is_broadcast is_group protocols_named
idle_hosts = refl

idle_counts : entered_and_gone idle ≡ Some (counter 0) ∷ Some (counter 0) ∷ Some (counter 0) ∷ Some (counter 0) ∷ []
unfolding is_tagged ethernet_type datagram_in version header_words addresses_of protocol_of fragment_offset ports_of ports_at_front pair_of is_broadcast is_group protocols_named
idle_counts = refl
