-- Places that follow each other, and the packets that stand there.
use Rattle.std.proofs.Common.{◌≡◌, ℕ, ◌+◌, ◌-◌, ◌*◌, ◌≤◌, ◌⊎◌, inl, inr, List, [], ◌∷◌, ◌++◌, length, map, take, drop, zero, suc, slice_get, Some, refl, sym, ap, ◌∙◌, arith, subst}
use Rattle.std.proofs.lemmas.List.{drop-take, length-take-le, length-drop}
use Rattle.std.proofs.lemmas.Slice.{take-put_mid_below, drop-put_mid, between-put_mid}
use borrow.Rule.Slice.PartMut.{put_mid}
use Rattle.rm_ring.specs.Kept.{cost_of}
use Rattle.rm_ring.specs.declared.place.Place.{Place}
use Rattle.rm_ring.specs.Laid.{Follow, cost_at, packet_at}

-- what was written stands there
pub written : (octets packet : List ℕ) (at : ℕ) → at ≤ length octets → take (length packet) (drop at (put_mid at (length packet) octets packet)) ≡ packet
written octets packet at within =
    let long : (at + length packet) - at ≡ length packet = omega arith in
    ap (λ n. take n (drop at (put_mid at (length packet) octets packet))) (sym long)
    ∙ between-put_mid at (length packet) octets packet (at + length packet) within (sym long)

module _ {T : Type 0} where
  pub run_rises : (start : ℕ) (places : List (Place T)) (end : ℕ) → Follow start places end → start ≤ end
  run_rises start [] end is = omega (arith, is)
  run_rises start (place ∷ places) end (here, rest) = omega (arith, run_rises (start + place.size) places end rest)

  -- what a run costs, by where it begins and ends
  pub run_cost : (start : ℕ) (places : List (Place T)) (end : ℕ) → Follow start places end → end + 32 * length places ≡ start + cost_at places
  run_cost start [] end is = omega (arith, is)
  run_cost start (place ∷ places) end (here, rest) = omega (arith, run_cost (start + place.size) places end rest)

  pub run_more : (start : ℕ) (places : List (Place T)) (end : ℕ) (place : Place T) → Follow start places end → place.start ≡ end → Follow start (places ++ place ∷ []) (end + place.size)
  run_more start [] end place is at = (at ∙ sym is, ap (λ n. n + place.size) is)
  run_more start (first ∷ places) end place (here, rest) at = (here, run_more (start + first.size) places end place rest at)

  pub cost_at_append : (xs ys : List (Place T)) → cost_at (xs ++ ys) ≡ cost_at xs + cost_at ys
  cost_at_append [] ys = omega arith
  cost_at_append (x ∷ xs) ys = omega (arith, cost_at_append xs ys)

  -- what the packets of a run cost is what its places do
  pub run_packets : (octets : List ℕ) (start : ℕ) (places : List (Place T)) (end : ℕ) → Follow start places end → end ≤ length octets → cost_of (map (packet_at octets) places) ≡ cost_at places
  run_packets octets start [] end is within = refl
  run_packets octets start (place ∷ places) end (here, rest) within =
      let ends : start + place.size ≤ end = run_rises (start + place.size) places end rest in
      let whole : length (take place.size (drop place.start octets)) ≡ place.size = length-take-le place.size (drop place.start octets) (omega (arith, here, ends, within, length-drop place.start octets)) in
      omega (arith, whole, run_packets octets (start + place.size) places end rest within)

  -- a packet stays that isn't where another one is written
  stays_below : (octets packet : List ℕ) (at : ℕ) (place : Place T) → at ≤ length octets → place.start + place.size ≤ at
      → packet_at (put_mid at (length packet) octets packet) place ≡ packet_at octets place
  stays_below octets packet at place within below =
      ap (λ (xs : List ℕ). record { info = place.info; octets = xs })
      (sym (drop-take place.start place.size (put_mid at (length packet) octets packet))
      ∙ ap (drop place.start) (take-put_mid_below at (length packet) octets packet (place.start + place.size) below within)
      ∙ drop-take place.start place.size octets)

  stays_above : (octets packet : List ℕ) (at : ℕ) (place : Place T) → at ≤ length octets → at + length packet ≤ place.start
      → packet_at (put_mid at (length packet) octets packet) place ≡ packet_at octets place
  stays_above octets packet at place within above =
      ap (λ (xs : List ℕ). record { info = place.info; octets = take place.size xs }) (drop-put_mid at (length packet) octets packet place.start above within refl)

  -- so do those of a run
  pub run_stays_below : (octets packet : List ℕ) (at start : ℕ) (places : List (Place T)) (end : ℕ) → Follow start places end → at ≤ length octets → end ≤ at
      → map (packet_at (put_mid at (length packet) octets packet)) places ≡ map (packet_at octets) places
  run_stays_below octets packet at start [] end is within below = refl
  run_stays_below octets packet at start (place ∷ places) end (here, rest) within below =
      let ends : start + place.size ≤ end = run_rises (start + place.size) places end rest in
      let one = stays_below octets packet at place within (omega (arith, here, ends, below)) in
      let others = run_stays_below octets packet at (start + place.size) places end rest within below in
      ap (λ p. p ∷ map (packet_at (put_mid at (length packet) octets packet)) places) one ∙ ap (λ ps. packet_at octets place ∷ ps) others

  pub run_stays_above : (octets packet : List ℕ) (at start : ℕ) (places : List (Place T)) (end : ℕ) → Follow start places end → at ≤ length octets → at + length packet ≤ start
      → map (packet_at (put_mid at (length packet) octets packet)) places ≡ map (packet_at octets) places
  run_stays_above octets packet at start [] end is within above = refl
  run_stays_above octets packet at start (place ∷ places) end (here, rest) within above =
      let one = stays_above octets packet at place within (omega (arith, here, above)) in
      let others = run_stays_above octets packet at (start + place.size) places end rest within (omega (arith, above)) in
      ap (λ p. p ∷ map (packet_at (put_mid at (length packet) octets packet)) places) one ∙ ap (λ ps. packet_at octets place ∷ ps) others

  -- each place of a run lies before its end
  pub run_within : (start : ℕ) (places : List (Place T)) (end : ℕ) (at : ℕ) (place : Place T) → Follow start places end → slice_get places at ≡ Some place → place.start + place.size ≤ end
  run_within start [] end at place is found = absurd (cc)
  run_within start (first ∷ places) end zero place (here, rest) found =
      let same : first ≡ place = cc in
      let ends : start + first.size ≤ end = run_rises (start + first.size) places end rest in
      subst (λ (p : Place T). p.start + p.size ≤ end) same (omega (arith, here, ends))
  run_within start (first ∷ places) end (suc at) place (here, rest) found = run_within (start + first.size) places end at place rest found

  -- what stands in one of two lists
  pub in_append : (xs ys : List (Place T)) (at : ℕ) (place : Place T) → slice_get (xs ++ ys) at ≡ Some place → (slice_get xs at ≡ Some place) ⊎ ((k : ℕ) × (slice_get ys k ≡ Some place))
  in_append [] ys at place is = inr (at, is)
  in_append (x ∷ xs) ys zero place is = inl is
  in_append (x ∷ xs) ys (suc at) place is = in_append xs ys at place is

  pub first_and_rest : (xs : List (Place T)) (place : Place T) → slice_get xs 0 ≡ Some place → xs ≡ place ∷ drop 1 xs
  first_and_rest [] place is = absurd (cc)
  first_and_rest (x ∷ xs) place is = let same : x ≡ place = cc in ap (λ p. p ∷ xs) same
