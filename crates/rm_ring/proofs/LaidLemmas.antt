-- How packets lie in a ring, as they come and go.
use Rattle.std.proofs.Common.{◌≡◌, ℕ, suc, ◌+◌, ◌-◌, ◌*◌, ◌<◌, ◌≤◌, ◌≢◌, ◌⊎◌, inl, inr, List, [], ◌∷◌, ◌++◌, length, map, Bool, true, false, cond, ◌&&◌, nat_eq, nat_le, refl, sym, ap, ◌∙◌, arith, subst, slice_get, Some, append_assoc, length-append}
use Rattle.std.proofs.lemmas.Bool.Decides.{nat_tests}
use Rattle.std.proofs.lemmas.List.{map-append, nil_from_length}
use borrow.Rule.Slice.PartMut.{put_mid}
use Rattle.rm_ring.specs.Kept.{cost_of}
use Rattle.rm_ring.specs.declared.place.Place.{Place}
use Rattle.rm_ring.specs.declared.runs.Runs.{Runs}
use Rattle.rm_ring.specs.Runs.{fits_behind, start_of, with_packet, without_oldest}
use Rattle.rm_ring.specs.Laid.{Follow, cost_at, packet_at, AreLaid}
use Rattle.rm_ring.proofs.RunLemmas.{run_rises, run_cost, run_more, cost_at_append, run_packets, run_stays_below, run_stays_above, run_within, in_append}
use Rattle.rm_ring.proofs.CostLemmas.{cost_append}

both : (a b : Bool) → (a && b) ≡ true → (a ≡ true) × (b ≡ true)
both true b is = (refl, is)
both false b is = absurd (cc)

either : (a b : Bool) → (a && b) ≡ false → (a ≡ false) ⊎ (b ≡ false)
either true b is = inr is
either false b is = inl refl

module _ {T : Type 0} where
  nil_app : (xs : List (Place T)) → xs ++ [] ≡ xs
  nil_app [] = refl
  nil_app (x ∷ xs) = ap (λ ys. x ∷ ys) (nil_app xs)

  module _ (storage slice : ℕ) (places : List (Place T)) (runs : Runs) where
    -- what the packets cost is what their places do
    pub packets_cost : (octets : List ℕ) → AreLaid storage slice places runs → length octets ≡ storage → cost_of (map (packet_at octets) places) ≡ cost_at places
    packets_cost octets laid long =
        let rises : runs.start ≤ runs.end = run_rises runs.start laid.older runs.end laid.older_run in
        ap (λ ps. cost_of (map (packet_at octets) ps)) laid.are
        ∙ ap cost_of (map-append (packet_at octets) laid.older laid.newer)
        ∙ cost_append (map (packet_at octets) laid.older) (map (packet_at octets) laid.newer)
        ∙ ap (λ n. n + cost_of (map (packet_at octets) laid.newer)) (run_packets octets runs.start laid.older runs.end laid.older_run (omega (arith, laid.within, long)))
        ∙ ap (λ n. cost_at laid.older + n) (run_packets octets 0 laid.newer runs.front laid.newer_run (omega (arith, laid.within, laid.before, rises, long)))
        ∙ sym (ap cost_at laid.are ∙ cost_at_append laid.older laid.newer)

    newer_count : (laid : AreLaid storage slice places runs) → length places ≡ runs.older + length laid.newer
    newer_count laid = ap length laid.are ∙ length-append laid.older laid.newer ∙ ap (λ n. n + length laid.newer) laid.count

    -- what is known in numbers
    pub record Measured : Type 0 where
      pub old : ℕ
      pub new : ℕ
      pub count : length places ≡ runs.older + new
      pub cost : cost_at places ≡ old + (runs.front + 32 * new)
      pub older : runs.end + 32 * runs.older ≡ runs.start + old
      pub rises : runs.start ≤ runs.end

    pub measured : AreLaid storage slice places runs → Measured
    measured laid =
        record {
          old = cost_at laid.older;
          new = length laid.newer;
          count = newer_count laid;
          cost = ap cost_at laid.are ∙ cost_at_append laid.older laid.newer ∙ ap (λ n. cost_at laid.older + n) (sym (run_cost 0 laid.newer runs.front laid.newer_run ∙ (omega arith)));
          older = ap (λ n. runs.end + 32 * n) (sym laid.count) ∙ run_cost runs.start laid.older runs.end laid.older_run;
          rises = run_rises runs.start laid.older runs.end laid.older_run;
        }

    -- each packet lies in the ring
    pub all_within : AreLaid storage slice places runs → (at : ℕ) (place : Place T) → slice_get places at ≡ Some place → place.start + place.size ≤ storage
    all_within laid at place found = by_run (in_append laid.older laid.newer at place (ap (λ ps. slice_get ps at) (sym laid.are) ∙ found))
      where
        rises : runs.start ≤ runs.end
        rises = run_rises runs.start laid.older runs.end laid.older_run

        by_run : (slice_get laid.older at ≡ Some place) ⊎ ((k : ℕ) × (slice_get laid.newer k ≡ Some place)) → place.start + place.size ≤ storage
        by_run (inl there) = omega (arith, laid.within, run_within runs.start laid.older runs.end at place laid.older_run there)
        by_run (inr (k, there)) = omega (arith, laid.within, laid.before, rises, run_within 0 laid.newer runs.front k place laid.newer_run there)

    -- What is granted, what the packets cost, and the size of one more for which there is room.
    pub record HasRoom (granted size : ℕ) : Type 0 where
      pub fits : cost_at places + (size + 32) ≤ granted
      pub small : size ≤ slice
      pub stored : granted + slice ≤ storage

    behind_older : (size : ℕ) → fits_behind runs (length places) storage size ≡ true → (runs.older ≡ length places) × (size ≤ storage - runs.end)
    behind_older size is = let parts = both (nat_eq runs.older (length places)) (nat_le size (storage - runs.end)) is in (grind (arith, nat_tests), grind (arith, nat_tests))

    beyond_older : (size : ℕ) → fits_behind runs (length places) storage size ≡ false → (runs.older ≢ length places) ⊎ (storage - runs.end < size)
    beyond_older size is = elim (either (nat_eq runs.older (length places)) (nat_le size (storage - runs.end)) is) [
      | inl h ↦ inl (grind (arith, nat_tests))
      | inr h ↦ inr (grind (arith, nat_tests))
    ]

    -- where the newer run ends there is room before the older one
    pub room_before : (granted size : ℕ) → AreLaid storage slice places runs → HasRoom granted size → fits_behind runs (length places) storage size ≡ false → runs.front + size ≤ runs.start
    room_before granted size laid room beyond =
        let m = measured laid in
        elim (beyond_older size beyond) [
          | inl apart ↦
              let some : 0 < length laid.newer = omega (arith, newer_count laid, apart) in
              omega (arith, laid.gap some, m.cost, m.older, room.fits, room.stored)
          | inr long ↦ omega (arith, long, laid.within, m.cost, m.older, m.count, room.fits, room.small, room.stored)
        ]

    -- where one more goes there is room for it
    pub goes_within : (granted size : ℕ) → AreLaid storage slice places runs → HasRoom granted size → start_of runs (length places) storage size + size ≤ storage
    goes_within granted size laid room = by_place (fits_behind runs (length places) storage size) refl
      where
        rises : runs.start ≤ runs.end
        rises = run_rises runs.start laid.older runs.end laid.older_run

        by_place : (t : Bool) → fits_behind runs (length places) storage size ≡ t → cond t runs.end runs.front + size ≤ storage
        by_place true is = omega (arith, (behind_older size is).1, laid.within)
        by_place false is = omega (arith, room_before granted size laid room is, laid.within, rises)

    none_newer : (laid : AreLaid storage slice places runs) → runs.older ≡ length places → laid.newer ≡ []
    none_newer laid all = nil_from_length laid.newer (omega (arith, all, newer_count laid))

    -- the packets stay that are there when it is written
    pub all_stay : (octets packet : List ℕ) (granted : ℕ) → AreLaid storage slice places runs → HasRoom granted (length packet) → length octets ≡ storage
        → map (packet_at (put_mid (start_of runs (length places) storage (length packet)) (length packet) octets packet)) places ≡ map (packet_at octets) places
    all_stay octets packet granted laid room long = by_place (fits_behind runs (length places) storage (length packet)) refl
      where
        rises : runs.start ≤ runs.end
        rises = run_rises runs.start laid.older runs.end laid.older_run

        parts : (xs : List ℕ) → map (packet_at xs) places ≡ map (packet_at xs) laid.older ++ map (packet_at xs) laid.newer
        parts xs = ap (map (packet_at xs)) laid.are ∙ map-append (packet_at xs) laid.older laid.newer

        joined : (xs ys : List ℕ) → map (packet_at xs) laid.older ≡ map (packet_at ys) laid.older → map (packet_at xs) laid.newer ≡ map (packet_at ys) laid.newer → map (packet_at xs) places ≡ map (packet_at ys) places
        joined xs ys old new = parts xs ∙ ap (λ ps. ps ++ map (packet_at xs) laid.newer) old ∙ ap (λ ps. map (packet_at ys) laid.older ++ ps) new ∙ sym (parts ys)

        by_place : (t : Bool) → fits_behind runs (length places) storage (length packet) ≡ t
            → map (packet_at (put_mid (cond t runs.end runs.front) (length packet) octets packet)) places ≡ map (packet_at octets) places
        by_place true is =
            let none : laid.newer ≡ [] = none_newer laid (behind_older (length packet) is).0 in
            joined (put_mid runs.end (length packet) octets packet) octets
            (run_stays_below octets packet runs.end runs.start laid.older runs.end laid.older_run (omega (arith, laid.within, long)) (omega arith))
            (rw none refl)
        by_place false is =
            joined (put_mid runs.front (length packet) octets packet) octets
            (run_stays_above octets packet runs.front runs.start laid.older runs.end laid.older_run (omega (arith, laid.within, laid.before, rises, long)) (room_before granted (length packet) laid room is))
            (run_stays_below octets packet runs.front 0 laid.newer runs.front laid.newer_run (omega (arith, laid.within, laid.before, rises, long)) (omega arith))

    -- with one more place the places are laid again
    pub laid_with : (granted : ℕ) (place : Place T) → AreLaid storage slice places runs → HasRoom granted place.size → place.start ≡ start_of runs (length places) storage place.size
        → AreLaid storage slice (places ++ place ∷ []) (with_packet runs (length places) storage place.size)
    laid_with granted place laid room at = by_place (fits_behind runs (length places) storage place.size) refl at
      where
        rises : runs.start ≤ runs.end
        rises = run_rises runs.start laid.older runs.end laid.older_run

        by_place : (t : Bool) → fits_behind runs (length places) storage place.size ≡ t → place.start ≡ cond t runs.end runs.front
            → AreLaid storage slice (places ++ place ∷ []) (cond t (record runs { older = runs.older + 1; end = runs.end + place.size }) (record runs { front = runs.front + place.size }))
        by_place true is at =
            let behind = behind_older place.size is in
            let none : laid.newer ≡ [] = none_newer laid behind.0 in
            record {
              older = laid.older ++ place ∷ [];
              newer = [];
              are = ap (λ ps. ps ++ place ∷ []) (laid.are ∙ ap (λ ps. laid.older ++ ps) none ∙ nil_app laid.older) ∙ sym (nil_app (laid.older ++ place ∷ []));
              count = length-append laid.older (place ∷ []) ∙ ap (λ n. n + 1) laid.count;
              older_run = run_more runs.start laid.older runs.end place laid.older_run at;
              newer_run = subst (λ (ps : List (Place T)). Follow 0 ps runs.front) none laid.newer_run;
              before = laid.before;
              within = omega (arith, behind.1, laid.within);
              behind = λ none. absurd (omega (arith, none));
              anew = λ none. absurd (omega (arith, none));
              gap = λ some. absurd (omega (arith, some));
            }
        by_place false is at =
            let before = room_before granted place.size laid room is in
            record {
              older = laid.older;
              newer = laid.newer ++ place ∷ [];
              are = ap (λ ps. ps ++ place ∷ []) laid.are ∙ append_assoc laid.older laid.newer (place ∷ []);
              count = laid.count;
              older_run = laid.older_run;
              newer_run = run_more 0 laid.newer runs.front place laid.newer_run at;
              before = before;
              within = laid.within;
              behind = λ none. absurd (some_older is none);
              anew = laid.anew;
              gap = λ some. gap_then is;
            }
          where
            gap_then : fits_behind runs (length places) storage place.size ≡ false → storage < runs.end + slice
            gap_then is = elim (beyond_older place.size is) [
              | inl apart ↦ laid.gap (omega (arith, newer_count laid, apart))
              | inr large ↦ omega (arith, large, laid.within, room.small)
            ]

            some_older : fits_behind runs (length places) storage place.size ≡ false → runs.older ≡ 0 → ⊥
            some_older is none = elim (beyond_older place.size is) [
              | inl apart ↦ omega (arith, apart, none, ap length (laid.behind none), newer_count laid)
              | inr large ↦ omega (arith, large, laid.anew none, room.small, room.stored, room.fits)
            ]

  module _ (storage slice : ℕ) (place : Place T) (places : List (Place T)) (runs : Runs) (laid : AreLaid storage slice (place ∷ places) runs) where
    -- the oldest place is the first of the older run
    by_older : (older newer : List (Place T)) → place ∷ places ≡ older ++ newer → (length older ≡ 0 → newer ≡ []) → (more : List (Place T)) × (older ≡ place ∷ more) × (places ≡ more ++ newer)
    by_older [] newer are behind = let none : newer ≡ [] = behind refl in absurd (nothing (are ∙ none))
      where
        nothing : place ∷ places ≡ [] → ⊥
        nothing is = cc
    by_older (first ∷ more) newer are behind =
        let same : place ≡ first = cc in
        let rest : places ≡ more ++ newer = cc in
        (more, ap (λ p. p ∷ more) (sym same), rest)

    split : (more : List (Place T)) × (laid.older ≡ place ∷ more) × (places ≡ more ++ laid.newer)
    split = by_older laid.older laid.newer laid.are (λ none. laid.behind (sym laid.count ∙ none))

    older_is : runs.older ≡ length split.0 + 1
    older_is = sym laid.count ∙ ap length split.1 ∙ omega arith

    run_is : Follow runs.start (place ∷ split.0) runs.end
    run_is = subst (λ (ps : List (Place T)). Follow runs.start ps runs.end) split.1 laid.older_run

    pub laid_oldest : (1 ≤ runs.older) × (runs.older ≤ length places + 1) × (runs.start + place.size ≤ storage)
    laid_oldest = (
      omega (arith, older_is),
      omega (arith, older_is, ap length split.2, length-append split.0 laid.newer),
      omega (arith, laid.within, run_rises (runs.start + place.size) split.0 runs.end run_is.1),
    )

    -- without it the places are laid again
    pub laid_without : AreLaid storage slice places (without_oldest runs (suc (length places)) place.size)
    laid_without = by_last (nat_eq runs.older 1) refl
      where
        rises : runs.start ≤ runs.end
        rises = run_rises runs.start laid.older runs.end laid.older_run

        by_last : (t : Bool) → nat_eq runs.older 1 ≡ t
            → AreLaid storage slice places (cond t (record { older = suc (length places) - 1; start = 0; end = runs.front; front = 0 }) (record runs { older = runs.older - 1; start = runs.start + place.size }))
        by_last true is =
            let last : runs.older ≡ 1 = grind (arith, nat_tests) in
            let none : split.0 ≡ [] = nil_from_length split.0 (omega (arith, last, older_is)) in
            let all : places ≡ laid.newer = split.2 ∙ ap (λ ps. ps ++ laid.newer) none in
            record {
              older = laid.newer;
              newer = [];
              are = all ∙ sym (nil_app laid.newer);
              count = omega (arith, ap length all);
              older_run = laid.newer_run;
              newer_run = refl;
              before = omega arith;
              within = omega (arith, laid.before, laid.within, rises);
              behind = λ none. refl;
              anew = λ none. front_of none all;
              gap = λ some. absurd (omega (arith, some));
            }
          where
            front_of : suc (length places) - 1 ≡ 0 → places ≡ laid.newer → runs.front ≡ 0
            front_of none all =
                let empty : laid.newer ≡ [] = nil_from_length laid.newer (omega (arith, none, ap length all)) in
                sym (subst (λ (ps : List (Place T)). Follow 0 ps runs.front) empty laid.newer_run)
        by_last false is =
            let more : runs.older ≢ 1 = grind (arith, nat_tests) in
            record {
              older = split.0;
              newer = laid.newer;
              are = split.2;
              count = omega (arith, older_is);
              older_run = run_is.1;
              newer_run = laid.newer_run;
              before = omega (arith, laid.before);
              within = laid.within;
              behind = λ none. absurd (omega (arith, none, more, older_is));
              anew = λ none. absurd (omega (arith, none, more, older_is));
              gap = laid.gap;
            }
