-- What packets cost, and the longest front and tail of them.
use Rattle.std.proofs.Common.{◌≡◌, ℕ, ◌+◌, ◌-◌, ◌<◌, ◌≤◌, List, [], ◌∷◌, ◌++◌, length, not, true, false, nat_lt, drop, refl, sym, ap, ◌∙◌, nat_le, arith}
use Rattle.std.proofs.lemmas.Bool.Decides.{nat_tests}
use Rattle.rm_ring.specs.Kept.{Kept, Stored, cost, cost_of, longest_front, longest_tail}

module _ {T : Type 0} where
  pub cost_append : (xs ys : List (Stored T)) → cost_of (xs ++ ys) ≡ cost_of xs + cost_of ys
  cost_append [] ys = omega arith
  cost_append (x ∷ xs) ys = omega (arith, cost_append xs ys)

  pub cost_one : (xs : List (Stored T)) (y : Stored T) → cost_of (xs ++ y ∷ []) ≡ cost_of xs + cost y
  cost_one xs y = cost_append xs (y ∷ []) ∙ (omega arith)

  -- what fits is its own longest front
  pub front_whole : (most : ℕ) (xs : List (Stored T)) → cost_of xs ≤ most → longest_front most xs ≡ xs
  front_whole most [] fits = refl
  front_whole most (x ∷ xs) fits =
      let here : nat_le (cost x) most ≡ true = grind (arith, nat_tests) in
      rw here (ap (λ more. x ∷ more) (front_whole (most - cost x) xs (omega (arith, fits))))

  -- one more that doesn't fit isn't in it
  pub front_without : (most : ℕ) (xs : List (Stored T)) (y : Stored T) → cost_of xs ≤ most → most < cost_of (xs ++ y ∷ []) → longest_front most (xs ++ y ∷ []) ≡ xs
  front_without most [] y fits more =
      let over : nat_le (cost y) most ≡ false = grind (arith, nat_tests) in
      rw over refl
  front_without most (x ∷ xs) y fits more =
      let here : nat_le (cost x) most ≡ true = grind (arith, nat_tests) in
      rw here (ap (λ more. x ∷ more) (front_without (most - cost x) xs y (omega (arith, fits)) (omega (arith, fits, more))))

  -- what fits is its own longest tail
  pub tail_whole : (most : ℕ) (xs : List (Stored T)) → cost_of xs ≤ most → longest_tail most xs ≡ xs
  tail_whole most [] fits = refl
  tail_whole most (x ∷ xs) fits =
      let here : nat_le (cost_of (x ∷ xs)) most ≡ true = grind (arith, nat_tests) in
      rw here refl

  -- that of too many is that of those without the oldest
  pub tail_without : (most : ℕ) (xs : List (Stored T)) (y : Stored T) → cost y ≤ most → most < cost_of (xs ++ y ∷ []) → longest_tail most (drop 1 xs ++ y ∷ []) ≡ longest_tail most (xs ++ y ∷ [])
  tail_without most [] y one more = refl
  tail_without most (x ∷ xs) y one more =
      let over : nat_le (cost_of ((x ∷ xs) ++ y ∷ [])) most ≡ false = grind (arith, nat_tests) in
      rw over refl

-- room by what is left, and by what is granted
pub room_test : (left spent granted size : ℕ) → left + spent ≡ granted → nat_le size left ≡ nat_le (spent + size) granted
room_test left spent granted size is = grind (arith, nat_tests)

module _ {T : Type 0} where
  -- what a ring keeps of its packets and one more, by whether there is room for it
  pub not_kept : (ring : Kept T) (packet : Stored T) → cost_of ring.packets ≤ ring.granted → nat_le (cost_of ring.packets + cost packet) ring.granted ≡ false
      → (ring ≡ record ring { packets = longest_front ring.granted (ring.packets ++ packet ∷ []) }) × (false ≡ nat_le (cost_of (ring.packets ++ packet ∷ [])) ring.granted)
  not_kept ring packet within over =
      let more : ring.granted < cost_of ring.packets + cost packet = grind (arith, nat_tests) in (
        ap (λ (ps : List (Stored T)). record ring { packets = ps }) (sym (front_without ring.granted ring.packets packet within (omega (arith, more, cost_one ring.packets packet)))),
        sym (ap (λ n. nat_le n ring.granted) (cost_one ring.packets packet) ∙ over),
      )

  pub is_kept : (ring : Kept T) (packet : Stored T) → nat_le (cost_of ring.packets + cost packet) ring.granted ≡ true
      → (record ring { packets = ring.packets ++ packet ∷ [] } ≡ record ring { packets = longest_front ring.granted (ring.packets ++ packet ∷ []) }) × (true ≡ nat_le (cost_of (ring.packets ++ packet ∷ [])) ring.granted)
  is_kept ring packet fits =
      let few : cost_of ring.packets + cost packet ≤ ring.granted = grind (arith, nat_tests) in (
        ap (λ (ps : List (Stored T)). record ring { packets = ps }) (sym (front_whole ring.granted (ring.packets ++ packet ∷ []) (omega (arith, few, cost_one ring.packets packet)))),
        sym (ap (λ n. nat_le n ring.granted) (cost_one ring.packets packet) ∙ fits),
      )

  -- while the oldest are dropped: all else stays, and the longest tail is that of those at first
  pub record IsDropping (ring now : Kept T) (packet : Stored T) : Type 0 where
    pub others : now ≡ record ring { packets = now.packets }
    pub tail : longest_tail ring.granted (now.packets ++ packet ∷ []) ≡ longest_tail ring.granted (ring.packets ++ packet ∷ [])

  pub begins_dropping : (ring : Kept T) (packet : Stored T) → IsDropping ring ring packet
  begins_dropping ring packet = record { others = refl; tail = refl }

  pub drops : (ring now new : Kept T) (packet : Stored T) → IsDropping ring now packet → cost packet ≤ now.granted → nat_le (cost_of now.packets + cost packet) now.granted ≡ false
      → new ≡ record now { packets = drop 1 now.packets } → IsDropping ring new packet
  drops ring now new packet is one over dropped =
      let more : now.granted < cost_of now.packets + cost packet = grind (arith, nat_tests) in
      let granted : now.granted ≡ ring.granted = ap (λ (k : Kept T). k.granted) is.others in
      record {
        others = dropped ∙ ap (λ (k : Kept T). record k { packets = drop 1 now.packets }) is.others ∙ ap (λ (ps : List (Stored T)). record ring { packets = ps }) (sym (ap (λ (k : Kept T). k.packets) dropped));
        tail =
            ap (λ (k : Kept T). longest_tail ring.granted (k.packets ++ packet ∷ [])) dropped
            ∙ tail_without ring.granted now.packets packet (omega (arith, one, granted)) (omega (arith, more, granted, cost_one now.packets packet))
            ∙ is.tail;
      }

  -- so fewer are left
  pub fewer_left : (now new : Kept T) (packet : Stored T) → cost packet ≤ now.granted → nat_le (cost_of now.packets + cost packet) now.granted ≡ false → new ≡ record now { packets = drop 1 now.packets } → length new.packets < length now.packets
  fewer_left now new packet one over dropped =
      let more : now.granted < cost_of now.packets + cost packet = grind (arith, nat_tests) in
      omega (arith, ap (λ (k : Kept T). length k.packets) dropped, less now.packets more)
    where
      less : (ps : List (Stored T)) → now.granted < cost_of ps + cost packet → length (drop 1 ps) < length ps
      less [] more = absurd (omega (arith, one, more))
      less (p ∷ ps) more = omega arith

  pub keeps_tail : (ring now new : Kept T) (packet : Stored T) → IsDropping ring now packet → nat_le (cost_of now.packets + cost packet) now.granted ≡ true → new ≡ record now { packets = now.packets ++ packet ∷ [] }
      → new ≡ record ring { packets = longest_tail ring.granted (ring.packets ++ packet ∷ []) }
  keeps_tail ring now new packet is fits pushed =
      let few : cost_of now.packets + cost packet ≤ now.granted = grind (arith, nat_tests) in
      let granted : now.granted ≡ ring.granted = ap (λ (k : Kept T). k.granted) is.others in
      let whole : longest_tail ring.granted (now.packets ++ packet ∷ []) ≡ now.packets ++ packet ∷ [] = tail_whole ring.granted (now.packets ++ packet ∷ []) (omega (arith, few, granted, cost_one now.packets packet)) in
      pushed ∙ ap (λ (k : Kept T). record k { packets = now.packets ++ packet ∷ [] }) is.others
      ∙ ap (λ (ps : List (Stored T)). record ring { packets = ps }) (sym whole ∙ is.tail)

  pub drops_some : (ring : Kept T) (packet : Stored T) → not (nat_le (cost_of ring.packets + cost packet) ring.granted) ≡ nat_lt ring.granted (cost_of (ring.packets ++ packet ∷ []))
  drops_some ring packet = rw (cost_one ring.packets packet) (opposite (cost_of ring.packets + cost packet) ring.granted)
    where
      opposite : (a b : ℕ) → not (nat_le a b) ≡ nat_lt b a
      opposite a b = grind (arith, nat_tests)
