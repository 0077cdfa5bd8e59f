-- That a buffer that accepts one more packet has kept those of the frames with it.
use Rattle.std.proofs.Common.{◌≡◌, ℕ, ◌+◌, ◌≤◌, min, List, [], ◌∷◌, ◌++◌, length, map, reverse, take, Bool, true, false, cond, not, ◌||◌, nat_eq, nat_lt, nat_le, refl, sym, ap, ◌∙◌, subst, arith}
use Rattle.rm_model.specs.Counting.{Counting}
use Rattle.rm_model.specs.Journal.{Frame}
use Rattle.rm_proto.specs.declared.known.Facts.{Facts}
use Rattle.rm_group.specs.Passing.{IsOf}
use Rattle.rm_acts.specs.Buffers.{Packet, all_or, numbered}
use Rattle.rm_ring.specs.Kept.{Kept, Stored, cost_of, longest_front, longest_tail}
use Rattle.rm_capture.specs.declared.captured.PacketInfo.{PacketInfo}
use Rattle.rm_capture.specs.declared.captured.Captured.{Captured}
use Rattle.rm_capture.specs.declared.full_action.FullAction.{FullAction}
use Rattle.rm_capture.specs.declared.full_action.FullAction.TheVariants.{Lock, Wrap}
use Rattle.rm_capture.specs.Captured.{wraps, stored_of, cost_at, kept_in, HasKept}
use Rattle.rm_capture.specs.Keeping.{ring_after, lost_after}
use Rattle.rm_capture.specs.Numbers.{numbered_long}
use Rattle.rm_capture.proofs.KeptLemmas.{wraps_more, wraps_lost, locked_same, locked_more}

-- how many octets are stored
stored_is : (n size : ℕ) → n ≤ 262144 → min n (all_or 262144 size) ≡ min (all_or n size) n
stored_is n size few = by_size (nat_eq size 0)
  where
    by_size : (t : Bool) → min n (cond t 262144 size) ≡ min (cond t n size) n
    by_size true = omega (arith, few)
    by_size false = omega arith

-- the newest packet of some frames
abbrev pub newest : Frame → List Frame → Packet
newest frame earlier = record { number = length earlier + 1; frame = frame }

-- a packet as it is stored, by what the code has of it
pub stored_as : (settings : Counting) (size slice : ℕ) (frame : Frame) (earlier : List Frame) (facts : Facts) (octets : List ℕ) (number moment accepted : ℕ) → IsOf settings frame facts octets number moment
    → accepted ≡ length earlier → slice ≡ all_or 262144 size → length octets ≤ 262144
    → (record { info = record { number = accepted + 1; id = number; length = facts.length; moment = moment; status = facts.status }; octets = take (min (length octets) slice) octets })
    ≡ stored_of settings size (newest frame earlier)
stored_as settings size slice frame earlier facts octets number moment accepted of count sliced few =
    let short : length frame.octets ≤ 262144 = omega (arith, few, ap length of.captured) in
    rw (of.known, of.captured, of.counted, of.at, count, sliced, stored_is (length frame.octets) size short) refl

-- whatever the buffer does where it is full
module _ (settings : Counting) (size granted : ℕ) (earlier : List Frame) (frame : Frame) (one : all_or 262144 size + 32 ≤ granted) (few : length frame.octets ≤ 262144) where
  abbrev stored : Packet → Stored PacketInfo
  stored = stored_of settings size

  abbrev packet : Packet
  packet = newest frame earlier

  -- what holds with one more packet
  pub record KeepsOne (is_wrap : Bool) (old new : Kept PacketInfo) (lost : Bool) : Type 0 where
    pub packets : new.packets ≡ map stored (reverse (kept_in is_wrap size granted (frame ∷ earlier)))
    pub lost_is : lost ≡ nat_lt (length (kept_in is_wrap size granted (frame ∷ earlier))) (length (frame ∷ earlier))
    pub slice : new.slice ≡ old.slice
    pub most : new.granted ≡ old.granted

  price_fits : cost_at size packet ≤ granted
  price_fits = omega (arith, one, stored_is (length frame.octets) size few)

  -- by the packets, the frames are counted
  as_many : (n : ℕ) → nat_lt n (length (numbered earlier)) ≡ nat_lt n (length earlier)
  as_many n = ap (nat_lt n) (numbered_long earlier)

  as_many_more : (n : ℕ) → nat_lt n (length (numbered (frame ∷ earlier))) ≡ nat_lt n (length (frame ∷ earlier))
  as_many_more n = ap (nat_lt n) (numbered_long (frame ∷ earlier))

  pub keeps_one : (action : FullAction) (lost : Bool) (ring : Kept PacketInfo) → ring.granted ≡ granted
      → ring.packets ≡ map stored (reverse (kept_in (wraps action) size granted earlier))
      → lost ≡ nat_lt (length (kept_in (wraps action) size granted earlier)) (length earlier)
      → KeepsOne (wraps action) ring (ring_after action lost ring (stored packet)) (lost_after action lost ring (stored packet))
  keeps_one Wrap lost ring most packets lost_is = record {
    packets =
        ap (λ n. longest_tail n (ring.packets ++ stored packet ∷ [])) most
        ∙ ap (λ ps. longest_tail granted (ps ++ stored packet ∷ [])) packets
        ∙ wraps_more settings size granted (numbered earlier) packet price_fits;
    lost_is =
        ap (λ n. nat_lt n (cost_of (ring.packets ++ stored packet ∷ [])) || lost) most
        ∙ ap (λ ps. nat_lt granted (cost_of (ps ++ stored packet ∷ [])) || lost) packets
        ∙ ap (λ t. nat_lt granted (cost_of (map stored (reverse (kept_in true size granted earlier)) ++ stored packet ∷ [])) || t) (lost_is ∙ sym (as_many (length (kept_in true size granted earlier))))
        ∙ wraps_lost settings size granted (numbered earlier) packet
        ∙ as_many_more (length (kept_in true size granted (frame ∷ earlier)));
    slice = refl;
    most = refl;
  }
  keeps_one Lock true ring most packets lost_is =
      let same = locked_same settings size granted (numbered earlier) packet (as_many (length (kept_in false size granted earlier)) ∙ sym lost_is) in
      record {
        packets = packets ∙ ap (λ ps. map stored (reverse ps)) (sym same.0);
        lost_is = same.1 ∙ as_many_more (length (kept_in false size granted (frame ∷ earlier)));
        slice = refl;
        most = refl;
      }
  keeps_one Lock false ring most packets lost_is =
      let more = locked_more settings size granted (numbered earlier) packet (as_many (length (kept_in false size granted earlier)) ∙ sym lost_is) in
      record {
        packets =
            ap (λ n. longest_front n (ring.packets ++ stored packet ∷ [])) most
            ∙ ap (λ ps. longest_front granted (ps ++ stored packet ∷ [])) packets
            ∙ more.0;
        lost_is =
            ap (λ n. not (nat_le (cost_of (ring.packets ++ stored packet ∷ [])) n)) most
            ∙ ap (λ ps. not (nat_le (cost_of (ps ++ stored packet ∷ [])) granted)) packets
            ∙ more.1
            ∙ as_many_more (length (kept_in false size granted (frame ∷ earlier)));
        slice = refl;
        most = refl;
      }

-- a buffer that accepted one more
pub accepted_more : (settings : Counting) (is_wrap : Bool) (size granted : ℕ) (earlier : List Frame) (frame : Frame) (old new : Captured) (stored : Stored PacketInfo)
    → HasKept old settings is_wrap size granted earlier → length frame.octets ≤ 262144 → stored ≡ stored_of settings size (newest frame earlier)
    → new.ring ≡ ring_after old.action old.lost old.ring stored → new.lost ≡ lost_after old.action old.lost old.ring stored → new.action ≡ old.action → new.accepted ≡ old.accepted + 1
    → HasKept new settings is_wrap size granted (frame ∷ earlier)
accepted_more settings is_wrap size granted earlier frame old new stored has few packet ring lost action count =
    let P : Bool → Type 0 = λ w. KeepsOne settings size granted earlier frame has.one few w old.ring (ring_after old.action old.lost old.ring (stored_of settings size (newest frame earlier))) (lost_after old.action old.lost old.ring (stored_of settings size (newest frame earlier))) in
    let keeps = subst P has.action
    (keeps_one settings size granted earlier frame has.one few old.action old.lost old.ring has.most
    (has.packets ∙ ap (λ w. map (stored_of settings size) (reverse (kept_in w size granted earlier))) (sym has.action))
    (has.some_lost ∙ ap (λ w. nat_lt (length (kept_in w size granted earlier)) (length earlier)) (sym has.action))) in
    let is : new.ring ≡ ring_after old.action old.lost old.ring (stored_of settings size (newest frame earlier)) = ring ∙ ap (ring_after old.action old.lost old.ring) packet in
    record {
      action = ap wraps action ∙ has.action;
      sliced = ap (λ (k : Kept PacketInfo). k.slice) is ∙ keeps.slice ∙ has.sliced;
      most = ap (λ (k : Kept PacketInfo). k.granted) is ∙ keeps.most ∙ has.most;
      one = has.one;
      packets = ap (λ (k : Kept PacketInfo). k.packets) is ∙ keeps.packets;
      count = omega (arith, count, has.count);
      some_lost = lost ∙ ap (lost_after old.action old.lost old.ring) packet ∙ keeps.lost_is;
    }

-- its storage stays
pub same_storage : (action : FullAction) (lost : Bool) (ring : Kept PacketInfo) (packet : Stored PacketInfo) → (ring_after action lost ring packet).storage ≡ ring.storage
same_storage Lock true ring packet = refl
same_storage Lock false ring packet = refl
same_storage Wrap lost ring packet = refl

pub same_places : (action : FullAction) (lost : Bool) (ring : Kept PacketInfo) (packet : Stored PacketInfo) → (ring_after action lost ring packet).places ≡ ring.places
same_places Lock true ring packet = refl
same_places Lock false ring packet = refl
same_places Wrap lost ring packet = refl

pub same_slice : (action : FullAction) (lost : Bool) (ring : Kept PacketInfo) (packet : Stored PacketInfo) → (ring_after action lost ring packet).slice ≡ ring.slice
same_slice Lock true ring packet = refl
same_slice Lock false ring packet = refl
same_slice Wrap lost ring packet = refl
