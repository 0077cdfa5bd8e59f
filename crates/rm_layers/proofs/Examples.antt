-- Tables of addresses, worked out by hand. An address is told by its last number, and a frame by its packets and octets, out of its
-- source and into its destination.
use Rattle.std.proofs.Common.{◌≡◌, ℕ, zero, suc, ◌+◌, ◌*◌, true, false, List, [], ◌∷◌, nat_eq, map, Some, None, refl}
use Rattle.rm_evicting.specs.Stands.{total}
use Rattle.rm_evicting.specs.Held.{held_keys}
use Rattle.rm_evicting.specs.Mention.{keys}
use Rattle.rm_layers.specs.Event.{Contribution, Event, names, turns, turns_ip, begins, span}
use Rattle.rm_layers.specs.Network.{contributions, application_contributions, exists, network_inserts, application_inserts, network_deletes, application_deletes, first_tick}
use Rattle.rm_layers.specs.Capacity.{capacity}

-- packets and octets in, packets and octets out
record Counts : Type 0 where
  in_packets : ℕ
  out_packets : ℕ
  in_octets : ℕ
  out_octets : ℕ

abbrev nothing : Counts
nothing = record { in_packets = 0; out_packets = 0; in_octets = 0; out_octets = 0 }

abbrev plus : Counts → Contribution Counts → Counts
plus counts brings = record {
  in_packets = counts.in_packets + brings.gain.in_packets;
  out_packets = counts.out_packets + brings.gain.out_packets;
  in_octets = counts.in_octets + brings.gain.in_octets;
  out_octets = counts.out_octets + brings.gain.out_octets;
}

abbrev Events : Type 0
Events = List (Event ℕ Counts)

-- local indexes of protocols in the directory
abbrev udp : ℕ
udp = 6

abbrev domain : ℕ
domain = 15

-- the n-th frame, at a tick, from one address to another, of a length, with protocols above ip
abbrev frame : ℕ → ℕ → ℕ → ℕ → ℕ → List ℕ → Events → Events
frame n tick source destination length path earlier =
    names destination (record { stamp = n + n + 1; tick = tick; path = path; gain = record { in_packets = 1; out_packets = 0; in_octets = length; out_octets = 0 } })
    ∷ names source (record { stamp = n + n; tick = tick; path = path; gain = record { in_packets = 0; out_packets = 1; in_octets = 0; out_octets = length } }) ∷ earlier

-- udp and domain are on from the start, and the control row begins
abbrev start : Events
start = begins ∷ turns domain 0 true ∷ turns udp 0 true ∷ []

abbrev sums : ℕ → ℕ → Events → Counts
sums capacity address events = total nothing plus (contributions nat_eq capacity address events)

abbrev application_sums : ℕ → ℕ → ℕ → Events → Counts
application_sums capacity address protocol events = total nothing plus (application_contributions nat_eq capacity address protocol events)

-- network rows entered and gone
abbrev network_counts : ℕ → Events → List ℕ
network_counts capacity events = network_inserts nat_eq capacity events ∷ network_deletes nat_eq capacity events ∷ []

-- application rows entered and gone
abbrev application_counts : ℕ → Events → List ℕ
application_counts capacity events = application_inserts nat_eq capacity events ∷ application_deletes nat_eq capacity events ∷ []

-- NlMaxDesiredEntries 1 and one frame from 1 to 2: only 2 is held
abbrev room_for_one : ℕ
room_for_one = capacity 1024 (Some 1) None

abbrev one_frame : Events
one_frame = frame 0 100 1 2 64 [] start

pub second_alone_is_held : held_keys nat_eq room_for_one (keys (span one_frame)) ≡ 2 ∷ []
second_alone_is_held = refl

pub first_is_evicted : network_counts room_for_one one_frame ≡ 2 ∷ 1 ∷ []
first_is_evicted = refl

-- with udp on the path an application row goes with the evicted address
pub application_row_goes_too : application_counts room_for_one (frame 0 100 1 2 64 (udp ∷ []) start) ≡ 2 ∷ 1 ∷ []
application_row_goes_too = refl

-- AlMaxDesiredEntries 63 leaves room for one network row
pub rounded_down : capacity 1024 None (Some 63) ≡ 1
rounded_down = refl

-- a frame at tick 100 from 1 to 2, ip off, a frame, ip on, and the same frame at tick 500
abbrev room_for_all : ℕ
room_for_all = capacity 1024 None None

abbrev ip_off : Events
ip_off = turns_ip false ∷ frame 0 100 1 2 64 (udp ∷ []) start

abbrev frame_while_off : Events
frame_while_off = frame 1 350 1 2 64 (udp ∷ []) ip_off

abbrev ip_on_again : Events
ip_on_again = frame 2 500 1 2 64 (udp ∷ []) (turns_ip true ∷ frame_while_off)

pub none_held_while_off : held_keys nat_eq room_for_all (keys (span ip_off)) ≡ []
none_held_while_off = refl

pub all_gone_while_off : network_counts room_for_all ip_off ≡ 2 ∷ 2 ∷ []
all_gone_while_off = refl

-- what comes while ip is off is nothing
pub none_entered_while_off : network_counts room_for_all frame_while_off ≡ 2 ∷ 2 ∷ []
none_entered_while_off = refl

pub no_application_while_off : application_counts room_for_all frame_while_off ≡ 2 ∷ 2 ∷ []
no_application_while_off = refl

pub entered_again : network_counts room_for_all ip_on_again ≡ 4 ∷ 2 ∷ []
entered_again = refl

pub applications_made_again : application_counts room_for_all ip_on_again ≡ 4 ∷ 2 ∷ []
applications_made_again = refl

pub created_again : map (λ address. first_tick (contributions nat_eq room_for_all address ip_on_again)) (1 ∷ 2 ∷ []) ≡ 500 ∷ 500 ∷ []
created_again = refl

-- udp is turned off and on: its rows go, and come again by the next frame, each with a tick of its own
abbrev udp_off_and_on : Events
udp_off_and_on = turns udp 2 true ∷ turns udp 2 false ∷ frame 0 100 1 2 64 (udp ∷ domain ∷ []) start

abbrev frame_after : Events
frame_after = frame 1 500 1 2 70 (udp ∷ domain ∷ []) udp_off_and_on

pub row_of_udp_is_gone : map (λ protocol. exists nat_eq room_for_all 2 protocol udp_off_and_on) (udp ∷ domain ∷ []) ≡ false ∷ true ∷ []
row_of_udp_is_gone = refl

pub row_of_udp_is_new : map (λ protocol. first_tick (application_contributions nat_eq room_for_all 2 protocol frame_after)) (udp ∷ domain ∷ []) ≡ 500 ∷ 100 ∷ []
row_of_udp_is_new = refl

pub row_of_udp_began_anew : map (λ protocol. (application_sums room_for_all 2 protocol frame_after).in_octets) (udp ∷ domain ∷ []) ≡ 70 ∷ 134 ∷ []
row_of_udp_began_anew = refl

-- four made by the first frame, two by the second
pub rows_of_udp_count_twice : application_counts room_for_all frame_after ≡ 6 ∷ 2 ∷ []
rows_of_udp_count_twice = refl

-- a frame from 1 to 1 is two references, of which the first one makes its rows
abbrev frame_to_itself : Events
frame_to_itself = frame 0 100 1 1 64 (udp ∷ domain ∷ []) start

pub one_row_for_both : network_counts room_for_all frame_to_itself ≡ 1 ∷ 0 ∷ []
one_row_for_both = refl

pub each_protocol_counts : application_counts room_for_all frame_to_itself ≡ 2 ∷ 0 ∷ []
each_protocol_counts = refl

-- Room for two. 3 evicts 1, which comes again in the place of 3, and 3 in the place of 2. 1 has what came from its last entry on
abbrev three_by_turns : Events
three_by_turns = frame 2 300 1 3 60 (udp ∷ []) (frame 1 200 3 2 60 (udp ∷ []) (frame 0 100 1 2 60 (udp ∷ []) start))

pub counted_from_the_last_entry : application_sums 2 1 udp three_by_turns ≡ record { in_packets = 0; out_packets = 1; in_octets = 0; out_octets = 60 }
counted_from_the_last_entry = refl

pub evictions_of_three : network_counts 2 three_by_turns ≡ 5 ∷ 3 ∷ []
evictions_of_three = refl

pub applications_of_three : application_counts 2 three_by_turns ≡ 5 ∷ 3 ∷ []
applications_of_three = refl

-- 5 and 53 by turns, a query of 78 octets and an answer of 94
abbrev queries : ℕ → Events → Events
queries zero earlier = earlier
queries (suc n) earlier = frame (n + n + 1) (500 + 4 * n + 2) 53 5 94 (udp ∷ domain ∷ []) (frame (n + n) (500 + 4 * n) 5 53 78 (udp ∷ domain ∷ []) (queries n earlier))

pub octets_asked : (sums room_for_all 5 (queries 100 start)).out_octets ≡ 7800
octets_asked = refl

pub packets_of_domain : (application_sums room_for_all 53 domain (queries 100 start)).in_packets ≡ 100
packets_of_domain = refl
