-- What a buffer keeps with one more packet.
use Rattle.std.proofs.Common.{◌≡◌, ℕ, ◌+◌, ◌-◌, ◌<◌, ◌≤◌, List, [], ◌∷◌, ◌++◌, length, map, reverse, Bool, true, false, cond, not, ◌||◌, nat_lt, nat_le, refl, sym, ap, ◌∙◌, arith}
use Rattle.std.proofs.lemmas.Bool.Decides.{nat_tests}
use Rattle.std.proofs.lemmas.List.{map-append, length-reverse, length-take}
use Rattle.rm_model.specs.Counting.{Counting}
use Rattle.rm_acts.specs.Buffers.{Packet, stored_size, longest_front}
use Rattle.rm_ring.specs.Kept.{Stored, cost, longest_tail}
use Rattle.rm_ring.specs.Kept.{cost_of as cost_of_stored, longest_front as longest_stored}
use Rattle.rm_capture.specs.declared.captured.PacketInfo.{PacketInfo}
use Rattle.rm_capture.specs.Captured.{stored_of, cost_at}
use Rattle.rm_capture.specs.Numbers.{reverse_more, reverse_twice}

module _ (settings : Counting) (size : ℕ) where
  abbrev pub stored : Packet → Stored PacketInfo
  stored = stored_of settings size

  abbrev pub price : Packet → ℕ
  price = cost_at size

  -- what some packets cost together
  abbrev pub total : List Packet → ℕ
  total [] = 0
  total (x ∷ xs) = price x + total xs

  same_cost : (x : Packet) → cost (stored x) ≡ price x
  same_cost x = omega (arith, length-take (stored_size size x.frame) x.frame.octets)

  same_total : (xs : List Packet) → cost_of_stored (map stored xs) ≡ total xs
  same_total [] = refl
  same_total (x ∷ xs) = omega (arith, same_cost x, same_total xs)

  total_append : (xs ys : List Packet) → total (xs ++ ys) ≡ total xs + total ys
  total_append [] ys = omega arith
  total_append (x ∷ xs) ys = omega (arith, total_append xs ys)

  total_reverse : (xs : List Packet) → total (reverse xs) ≡ total xs
  total_reverse [] = refl
  total_reverse (x ∷ xs) = ap total (reverse_more x xs) ∙ total_append (reverse xs) (x ∷ []) ∙ omega (arith, total_reverse xs)

  -- packets that cost little enough are their own longest front, and of others the longest front is shorter
  whole : (most : ℕ) (xs : List Packet) → total xs ≤ most → longest_front price most xs ≡ xs
  whole most [] fits = refl
  whole most (x ∷ xs) fits =
      let low : price x ≤ most = omega (arith, fits) in
      let here : nat_le (price x) most ≡ true = grind (arith, nat_tests) in
      let left : total xs ≤ most - price x = omega (arith, fits) in
      rw here (ap (λ ys. x ∷ ys) (whole (most - price x) xs left))

  shorter : (most : ℕ) (xs : List Packet) → most < total xs → length (longest_front price most xs) < length xs
  shorter most [] more = absurd (omega (arith, more))
  shorter most (x ∷ xs) more = by_room (nat_le (price x) most) refl (shorter (most - price x) xs)
    where
      by_room : (t : Bool) → nat_le (price x) most ≡ t → (most - price x < total xs → length (longest_front price (most - price x) xs) < length xs)
          → length (cond t (x ∷ longest_front price (most - price x) xs) []) < length (x ∷ xs)
      by_room true is rest =
          let fits : price x ≤ most = grind (arith, nat_tests) in
          let left : most - price x < total xs = omega (arith, more, fits) in
          omega (arith, rest left)
      by_room false is rest = omega arith

  lost_by_cost : (most : ℕ) (xs : List Packet) → nat_lt (length (longest_front price most xs)) (length xs) ≡ nat_lt most (total xs)
  lost_by_cost most xs = by_cost (nat_lt most (total xs)) refl
    where
      by_cost : (t : Bool) → nat_lt most (total xs) ≡ t → nat_lt (length (longest_front price most xs)) (length xs) ≡ t
      by_cost true is = let more : most < total xs = grind (arith, nat_tests) in let less = shorter most xs more in grind (arith, nat_tests)
      by_cost false is = let fits : total xs ≤ most = grind (arith, nat_tests) in let same = ap length (whole most xs fits) in grind (arith, nat_tests)

  -- the longest front of packets as they are stored
  same_front : (most : ℕ) (xs : List Packet) → longest_stored most (map stored xs) ≡ map stored (longest_front price most xs)
  same_front most [] = refl
  same_front most (x ∷ xs) = rw (same_cost x) (by_room (nat_le (price x) most) (same_front (most - price x) xs))
    where
      by_room : (t : Bool) → longest_stored (most - price x) (map stored xs) ≡ map stored (longest_front price (most - price x) xs)
          → cond t (stored x ∷ longest_stored (most - price x) (map stored xs)) [] ≡ map stored (cond t (x ∷ longest_front price (most - price x) xs) [])
      by_room true same = ap (λ ys. stored x ∷ ys) same
      by_room false same = refl

  -- where some don't fit, one more behind them makes no difference
  front_same : (most : ℕ) (xs : List Packet) (y : Packet) → most < total xs → longest_front price most (xs ++ y ∷ []) ≡ longest_front price most xs
  front_same most [] y more = absurd (omega (arith, more))
  front_same most (x ∷ xs) y more = by_room (nat_le (price x) most) refl (front_same (most - price x) xs y)
    where
      by_room : (t : Bool) → nat_le (price x) most ≡ t → (most - price x < total xs → longest_front price (most - price x) (xs ++ y ∷ []) ≡ longest_front price (most - price x) xs)
          → cond t (x ∷ longest_front price (most - price x) (xs ++ y ∷ [])) [] ≡ cond t (x ∷ longest_front price (most - price x) xs) []
      by_room true is rest =
          let fits : price x ≤ most = grind (arith, nat_tests) in
          let left : most - price x < total xs = omega (arith, more, fits) in
          ap (λ ys. x ∷ ys) (rest left)
      by_room false is rest = refl

  -- the longest front of a longest front
  front_of_front : (less most : ℕ) (xs : List Packet) → less ≤ most → longest_front price less (longest_front price most xs) ≡ longest_front price less xs
  front_of_front less most [] few = refl
  front_of_front less most (x ∷ xs) few =
      let left : less - price x ≤ most - price x = omega (arith, few) in
      by_room (nat_le (price x) less) refl (nat_le (price x) most) refl (front_of_front (less - price x) (most - price x) xs left)
    where
      by_room : (t : Bool) → nat_le (price x) less ≡ t → (u : Bool) → nat_le (price x) most ≡ u
          → longest_front price (less - price x) (longest_front price (most - price x) xs) ≡ longest_front price (less - price x) xs
          → longest_front price less (cond u (x ∷ longest_front price (most - price x) xs) []) ≡ cond t (x ∷ longest_front price (less - price x) xs) []
      by_room true is true fits rest = rw is (ap (λ ys. x ∷ ys) rest)
      by_room true is false fits rest = absurd (let low : price x ≤ less = grind (arith, nat_tests) in let high : most < price x = grind (arith, nat_tests) in omega (arith, low, high, few))
      by_room false is true fits rest = rw is refl
      by_room false is false fits rest = refl

  -- the longest tail of packets with one more behind them
  tail_more : (most : ℕ) (ys : List (Stored PacketInfo)) (z : Stored PacketInfo) → longest_tail most (ys ++ z ∷ []) ≡ cond (nat_le (cost z) most) (longest_tail (most - cost z) ys ++ z ∷ []) []
  tail_more most [] z = let one : cost z + 0 ≡ cost z = omega arith in rw one (by_room (nat_le (cost z) most))
    where
      by_room : (t : Bool) → cond t (z ∷ []) [] ≡ cond t ([] ++ z ∷ []) []
      by_room true = refl
      by_room false = refl
  tail_more most (y ∷ ys) z = by_room (nat_le (cost_of_stored ((y ∷ ys) ++ z ∷ [])) most) refl (nat_le (cost z) most) refl (nat_le (cost_of_stored (y ∷ ys)) (most - cost z)) refl (tail_more most ys z)
    where
      sum : (ys : List (Stored PacketInfo)) → cost_of_stored (ys ++ z ∷ []) ≡ cost_of_stored ys + cost z
      sum [] = omega arith
      sum (y ∷ ys) = omega (arith, sum ys)

      by_room : (t : Bool) → nat_le (cost_of_stored ((y ∷ ys) ++ z ∷ [])) most ≡ t → (u : Bool) → nat_le (cost z) most ≡ u
          → (v : Bool) → nat_le (cost_of_stored (y ∷ ys)) (most - cost z) ≡ v
          → longest_tail most (ys ++ z ∷ []) ≡ cond (nat_le (cost z) most) (longest_tail (most - cost z) ys ++ z ∷ []) []
          → cond t ((y ∷ ys) ++ z ∷ []) (longest_tail most (ys ++ z ∷ [])) ≡ cond u (cond v (y ∷ ys) (longest_tail (most - cost z) ys) ++ z ∷ []) []
      by_room true all true one true rest same = refl
      by_room true all true one false rest same =
          absurd (let a : cost_of_stored ((y ∷ ys) ++ z ∷ []) ≤ most = grind (arith, nat_tests) in let b : most - cost z < cost_of_stored (y ∷ ys) = grind (arith, nat_tests) in omega (arith, a, b, sum (y ∷ ys)))
      by_room true all false one v rest same =
          absurd (let a : cost_of_stored ((y ∷ ys) ++ z ∷ []) ≤ most = grind (arith, nat_tests) in let b : most < cost z = grind (arith, nat_tests) in omega (arith, a, b, sum (y ∷ ys)))
      by_room false all true one true rest same =
          absurd (let a : most < cost_of_stored ((y ∷ ys) ++ z ∷ []) = grind (arith, nat_tests) in let b : cost_of_stored (y ∷ ys) ≤ most - cost z = grind (arith, nat_tests) in let c : cost z ≤ most = grind (arith, nat_tests) in omega (arith, a, b, c, sum (y ∷ ys)))
      by_room false all true one false rest same = same ∙ ap (λ t. cond t (longest_tail (most - cost z) ys ++ z ∷ []) []) one
      by_room false all false one v rest same = same ∙ ap (λ t. cond t (longest_tail (most - cost z) ys ++ z ∷ []) []) one

  -- the longest tail of packets in the order in which they came is the longest front of them, the newest first
  tail_is : (most : ℕ) (xs : List Packet) → longest_tail most (map stored (reverse xs)) ≡ map stored (reverse (longest_front price most xs))
  tail_is most [] = refl
  tail_is most (x ∷ xs) =
      ap (λ ys. longest_tail most (map stored ys)) (reverse_more x xs)
      ∙ ap (longest_tail most) (map-append stored (reverse xs) (x ∷ []))
      ∙ tail_more most (map stored (reverse xs)) (stored x)
      ∙ ap (λ n. cond (nat_le n most) (longest_tail (most - n) (map stored (reverse xs)) ++ stored x ∷ []) []) (same_cost x)
      ∙ by_room (nat_le (price x) most) (tail_is (most - price x) xs)
    where
      by_room : (t : Bool) → longest_tail (most - price x) (map stored (reverse xs)) ≡ map stored (reverse (longest_front price (most - price x) xs))
          → cond t (longest_tail (most - price x) (map stored (reverse xs)) ++ stored x ∷ []) [] ≡ map stored (reverse (cond t (x ∷ longest_front price (most - price x) xs) []))
      by_room true same =
          ap (λ ys. ys ++ stored x ∷ []) same
          ∙ sym (ap (map stored) (reverse_more x (longest_front price (most - price x) xs)) ∙ map-append stored (reverse (longest_front price (most - price x) xs)) (x ∷ []))
      by_room false same = refl

  -- one more where the buffer wraps
  pub wraps_more : (most : ℕ) (xs : List Packet) (x : Packet) → price x ≤ most
      → longest_tail most (map stored (reverse (longest_front price most xs)) ++ stored x ∷ []) ≡ map stored (reverse (longest_front price most (x ∷ xs)))
  wraps_more most xs x one =
      let fits : nat_le (price x) most ≡ true = grind (arith, nat_tests) in
      sym (ap (longest_tail most) (ap (map stored) (reverse_more x (longest_front price most xs)) ∙ map-append stored (reverse (longest_front price most xs)) (x ∷ [])))
      ∙ tail_is most (x ∷ longest_front price most xs)
      ∙ ap (λ t. map stored (reverse (cond t (x ∷ longest_front price (most - price x) (longest_front price most xs)) []))) fits
      ∙ ap (λ ys. map stored (reverse (x ∷ ys))) (front_of_front (most - price x) most xs (omega arith))
      ∙ sym (ap (λ t. map stored (reverse (cond t (x ∷ longest_front price (most - price x) xs) []))) fits)

  -- whether one of the packets isn't kept where it wraps, by whether one wasn't before, and one more is dropped
  pub wraps_lost : (most : ℕ) (xs : List Packet) (x : Packet)
      → (nat_lt most (cost_of_stored (map stored (reverse (longest_front price most xs)) ++ stored x ∷ [])) || nat_lt (length (longest_front price most xs)) (length xs))
      ≡ nat_lt (length (longest_front price most (x ∷ xs))) (length (x ∷ xs))
  wraps_lost most xs x =
      ap (λ n. nat_lt most n || nat_lt (length (longest_front price most xs)) (length xs)) spent
      ∙ ap (λ t. nat_lt most (total (longest_front price most xs) + price x) || t) (lost_by_cost most xs)
      ∙ by_cost (nat_lt most (total xs)) refl
      ∙ sym (lost_by_cost most (x ∷ xs))
    where
      spent : cost_of_stored (map stored (reverse (longest_front price most xs)) ++ stored x ∷ []) ≡ total (longest_front price most xs) + price x
      spent =
          sym (ap cost_of_stored (ap (map stored) (reverse_more x (longest_front price most xs)) ∙ map-append stored (reverse (longest_front price most xs)) (x ∷ [])))
          ∙ same_total (reverse (x ∷ longest_front price most xs)) ∙ total_reverse (x ∷ longest_front price most xs) ∙ (omega arith)

      by_cost : (t : Bool) → nat_lt most (total xs) ≡ t → (nat_lt most (total (longest_front price most xs) + price x) || t) ≡ nat_lt most (total (x ∷ xs))
      by_cost true is = or_true (nat_lt most (total (longest_front price most xs) + price x)) ∙ sym (let more : most < total xs = grind (arith, nat_tests) in let all : most < price x + total xs = omega (arith, more) in grind (arith, nat_tests))
        where
          or_true : (a : Bool) → (a || true) ≡ true
          or_true true = refl
          or_true false = refl
      by_cost false is =
          let fits : total xs ≤ most = grind (arith, nat_tests) in
          or_false (nat_lt most (total (longest_front price most xs) + price x))
          ∙ ap (λ ys. nat_lt most (total ys + price x)) (whole most xs fits)
          ∙ ap (nat_lt most) (omega arith)
        where
          or_false : (a : Bool) → (a || false) ≡ a
          or_false true = refl
          or_false false = refl

  -- one more where it is locked once it is full: nothing changes where one wasn't kept
  pub locked_same : (most : ℕ) (xs : List Packet) (x : Packet) → nat_lt (length (reverse (longest_front price most (reverse xs)))) (length xs) ≡ true
      → (reverse (longest_front price most (reverse (x ∷ xs))) ≡ reverse (longest_front price most (reverse xs)))
      × (true ≡ nat_lt (length (reverse (longest_front price most (reverse (x ∷ xs))))) (length (x ∷ xs)))
  locked_same most xs x lost =
      let more : most < total (reverse xs) = full in (
        ap (λ ys. reverse (longest_front price most ys)) (reverse_more x xs) ∙ ap reverse (front_same most (reverse xs) x more),
        sym (locked_cost most (x ∷ xs) ∙ all more),
      )
    where
      locked_cost : (most : ℕ) (ys : List Packet) → nat_lt (length (reverse (longest_front price most (reverse ys)))) (length ys) ≡ nat_lt most (total ys)
      locked_cost most ys =
          ap (λ n. nat_lt n (length ys)) (length-reverse (longest_front price most (reverse ys)))
          ∙ ap (nat_lt (length (longest_front price most (reverse ys)))) (sym (length-reverse ys))
          ∙ lost_by_cost most (reverse ys) ∙ ap (nat_lt most) (total_reverse ys)

      full : most < total (reverse xs)
      full = let is : nat_lt most (total xs) ≡ true = sym (locked_cost most xs) ∙ lost in let more : most < total xs = grind (arith, nat_tests) in omega (arith, more, total_reverse xs)

      all : most < total (reverse xs) → nat_lt most (total (x ∷ xs)) ≡ true
      all more = let big : most < price x + total xs = omega (arith, more, total_reverse xs) in grind (arith, nat_tests)

  -- and where all were kept it is kept or not
  pub locked_more : (most : ℕ) (xs : List Packet) (x : Packet) → nat_lt (length (reverse (longest_front price most (reverse xs)))) (length xs) ≡ false
      → (longest_stored most (map stored (reverse (reverse (longest_front price most (reverse xs)))) ++ stored x ∷ []) ≡ map stored (reverse (reverse (longest_front price most (reverse (x ∷ xs))))))
      × (not (nat_le (cost_of_stored (map stored (reverse (reverse (longest_front price most (reverse xs)))) ++ stored x ∷ [])) most)
      ≡ nat_lt (length (reverse (longest_front price most (reverse (x ∷ xs))))) (length (x ∷ xs)))
  locked_more most xs x lost = (
    ap (longest_stored most) all ∙ same_front most (reverse (x ∷ xs)) ∙ ap (map stored) (sym (reverse_twice (longest_front price most (reverse (x ∷ xs))))),
    ap (λ ys. not (nat_le (cost_of_stored ys) most)) all
        ∙ ap (λ n. not (nat_le n most)) (same_total (reverse (x ∷ xs)) ∙ total_reverse (x ∷ xs))
        ∙ opposite (total (x ∷ xs)) most ∙ sym (locked_cost most (x ∷ xs)),
  )
    where
      opposite : (a b : ℕ) → not (nat_le a b) ≡ nat_lt b a
      opposite a b = grind (arith, nat_tests)

      locked_cost : (most : ℕ) (ys : List Packet) → nat_lt (length (reverse (longest_front price most (reverse ys)))) (length ys) ≡ nat_lt most (total ys)
      locked_cost most ys =
          ap (λ n. nat_lt n (length ys)) (length-reverse (longest_front price most (reverse ys)))
          ∙ ap (nat_lt (length (longest_front price most (reverse ys)))) (sym (length-reverse ys))
          ∙ lost_by_cost most (reverse ys) ∙ ap (nat_lt most) (total_reverse ys)

      kept : longest_front price most (reverse xs) ≡ reverse xs
      kept = let is : nat_lt most (total xs) ≡ false = sym (locked_cost most xs) ∙ lost in let few : total xs ≤ most = grind (arith, nat_tests) in whole most (reverse xs) (omega (arith, few, total_reverse xs))

      all : map stored (reverse (reverse (longest_front price most (reverse xs)))) ++ stored x ∷ [] ≡ map stored (reverse (x ∷ xs))
      all =
          ap (λ ys. map stored ys ++ stored x ∷ []) (reverse_twice (longest_front price most (reverse xs)) ∙ kept)
          ∙ sym (ap (map stored) (reverse_more x xs) ∙ map-append stored (reverse xs) (x ∷ []))
