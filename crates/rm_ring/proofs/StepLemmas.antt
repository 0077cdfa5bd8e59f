-- What a ring is with one more packet, and without the oldest.
use Rattle.std.proofs.Common.{◌≡◌, ℕ, ◌+◌, ◌-◌, ◌*◌, ◌≤◌, List, [], ◌∷◌, ◌++◌, length, map, take, drop, sym, ap, ◌∙◌, arith, subst, vec_len, slice_get, Some, length-append}
use Rattle.std.specs.declared.vec.Vec.{Vec}
use Rattle.std.specs.declared.alloc.Global.{Global}
use Rattle.std.specs.Vec.{with_items}
use Rattle.std.proofs.lemmas.List.{map-append, with_items_is}
use borrow.Rule.Slice.PartMut.{put_mid, same_len_mid, mid_len}
use Rattle.circular_buffer.specs.Buffer.{Buffer, buffer, keep_last}
use Rattle.rm_ring.specs.Kept.{stored, cost_of}
use Rattle.rm_ring.specs.declared.place.Place.{Place}
use Rattle.rm_ring.specs.declared.runs.Runs.{Runs}
use Rattle.rm_ring.specs.Runs.{start_of, with_packet, without_oldest}
use Rattle.rm_ring.specs.Laid.{cost_at, packet_at, packets_in, AreLaid, IsLaid}
use Rattle.rm_ring.proofs.RunLemmas.{run_rises, cost_at_append, written, first_and_rest}
use Rattle.rm_ring.proofs.LaidLemmas.{HasRoom, laid_oldest, laid_without, goes_within, all_stay, laid_with, packets_cost}

module _ {T : Type 0} where
  -- each place costs something
  cost_least : (places : List (Place T)) → 32 * length places ≤ cost_at places
  cost_least [] = omega arith
  cost_least (place ∷ places) = omega (arith, cost_least places)

  kept_all : (n : ℕ) (xs : List (Place T)) → length xs ≤ n → keep_last n xs ≡ xs
  kept_all n xs few = let none : length xs - n ≡ 0 = omega (arith, few) in ap (λ k. drop k xs) none

  module _ (octets : Vec ℕ Global) (places : Buffer (Place T)) (runs : Runs) (granted left slice : ℕ) (is : IsLaid octets places runs granted left slice) where
    pub front_within : runs.front ≤ vec_len octets
    front_within = omega (arith, is.laid.before, is.laid.within, run_rises runs.start is.laid.older runs.end is.laid.older_run)

    -- what the packets cost, by what is left
    pub all_cost : left + cost_of (map (packet_at octets.items) places.items) ≡ granted
    all_cost = ap (λ n. left + n) (packets_cost (vec_len octets) slice places.items runs octets.items is.laid (sym octets.ok.0)) ∙ is.spent

    module _ (info : T) (packet : List ℕ) (small : length packet ≤ slice) (fits : cost_of (map (packet_at octets.items) places.items) + (length packet + 32) ≤ granted) where
      pub room : HasRoom (vec_len octets) slice places.items runs granted (length packet)
      room = record { fits = omega (arith, fits, all_cost, is.spent); small = small; stored = is.storage }

      module _ (start : ℕ) (at : start ≡ start_of runs (length places.items) (vec_len octets) (length packet)) where
        pub start_within : start + length packet ≤ vec_len octets
        start_within = omega (arith, at, goes_within (vec_len octets) slice places.items runs granted (length packet) is.laid room)

        new_octets : (with_items octets (put_mid start (length packet) octets.items packet)).items ≡ put_mid start (length packet) octets.items packet
        new_octets = with_items_is octets (put_mid start (length packet) octets.items packet) (same_len_mid start (length packet) octets.items packet long ∙ sym octets.ok.0)
          where
            size : (start + length packet) - start ≡ length packet
            size = omega arith

            long : length packet ≡ length (take (length packet) (drop start octets.items))
            long = sym (ap (λ n. length (take n (drop start octets.items))) (sym size) ∙ mid_len start (start + length packet) octets.items (omega (arith, start_within, octets.ok.0)) ∙ size)

        few : length (places.items ++ record { info = info; start = start; size = length packet } ∷ []) ≤ places.capacity
        few = omega (arith, length-append places.items (record { info = info; start = start; size = length packet } ∷ []), cost_least places.items, room.fits, is.room)

        pub laid_more : IsLaid (with_items octets (put_mid start (length packet) octets.items packet)) (buffer (keep_last places.capacity (places.items ++ record { info = info; start = start; size = length packet } ∷ [])) places.capacity)
            (with_packet runs (length places.items) (vec_len octets) (length packet)) granted (left - (length packet + 32)) slice
        laid_more =
            let place : Place T = record { info = info; start = start; size = length packet } in
            record {
              laid = subst (λ (ps : List (Place T)). AreLaid (vec_len octets) slice ps (with_packet runs (length places.items) (vec_len octets) (length packet))) (sym (kept_all places.capacity (places.items ++ place ∷ []) few))
                  (laid_with (vec_len octets) slice places.items runs granted place is.laid room at);
              spent = ap (λ ps. (left - (length packet + 32)) + cost_at ps) (kept_all places.capacity (places.items ++ place ∷ []) few) ∙ omega (arith, cost_at_append places.items (place ∷ []), is.spent, room.fits);
              one = is.one;
              storage = is.storage;
              room = is.room;
              near = is.near;
            }

        pub shows_more : packets_in (with_items octets (put_mid start (length packet) octets.items packet)) (buffer (keep_last places.capacity (places.items ++ record { info = info; start = start; size = length packet } ∷ [])) places.capacity) granted slice
            ≡ record (packets_in octets places granted slice) { packets = map (packet_at octets.items) places.items ++ stored info packet ∷ [] }
        shows_more =
            let place : Place T = record { info = info; start = start; size = length packet } in
            let put : List ℕ = put_mid start (length packet) octets.items packet in
            let there : start ≤ length octets.items = omega (arith, start_within, octets.ok.0) in
            ap (λ ps. record (packets_in octets places granted slice) { packets = ps })
            (ap (λ xs. map (packet_at xs) (keep_last places.capacity (places.items ++ place ∷ []))) new_octets
            ∙ ap (map (packet_at put)) (kept_all places.capacity (places.items ++ place ∷ []) few)
            ∙ map-append (packet_at put) places.items (place ∷ [])
            ∙ ap (λ ps. ps ++ packet_at put place ∷ []) stay
            ∙ ap (λ xs. map (packet_at octets.items) places.items ++ stored info xs ∷ []) (written octets.items packet start there))
          where
            stay : map (packet_at (put_mid start (length packet) octets.items packet)) places.items ≡ map (packet_at octets.items) places.items
            stay = ap (λ n. map (packet_at (put_mid n (length packet) octets.items packet)) places.items) at ∙ all_stay (vec_len octets) slice places.items runs octets.items packet granted is.laid room (sym octets.ok.0)

    module _ (place : Place T) (first : slice_get places.items 0 ≡ Some place) where
      parts : places.items ≡ place ∷ drop 1 places.items
      parts = first_and_rest places.items place first

      laid_parts : AreLaid (vec_len octets) slice (place ∷ drop 1 places.items) runs
      laid_parts = subst (λ (ps : List (Place T)). AreLaid (vec_len octets) slice ps runs) parts is.laid

      pub oldest_begins : (1 ≤ runs.older) × (runs.older ≤ length places.items) × (runs.start + place.size ≤ vec_len octets)
      oldest_begins = let first = laid_oldest (vec_len octets) slice place (drop 1 places.items) runs laid_parts in (first.0, omega (arith, first.1, ap length parts), first.2)

      pub laid_less : IsLaid octets (buffer (drop 1 places.items) places.capacity) (without_oldest runs (length places.items) place.size) granted (left + (place.size + 32)) slice
      laid_less =
          record {
            laid = subst (λ (n : ℕ). AreLaid (vec_len octets) slice (drop 1 places.items) (without_oldest runs n place.size)) (sym (ap length parts)) (laid_without (vec_len octets) slice place (drop 1 places.items) runs laid_parts);
            spent = omega (arith, is.spent, ap cost_at parts);
            one = is.one;
            storage = is.storage;
            room = is.room;
            near = is.near;
          }
