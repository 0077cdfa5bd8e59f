-- A buffer keeps one packet more at most by each that it accepts.
use Rattle.std.proofs.Common.{◌≤◌, ℕ, ◌+◌, ◌-◌, List, [], ◌∷◌, ◌++◌, length, Bool, true, false, cond, nat_le, arith}
use Rattle.std.proofs.lemmas.List.{length-append}
use Rattle.rm_ring.specs.Kept.{Kept, Stored, cost, cost_of, longest_front, longest_tail}
use Rattle.rm_capture.specs.declared.captured.PacketInfo.{PacketInfo}
use Rattle.rm_capture.specs.declared.full_action.FullAction.{FullAction}
use Rattle.rm_capture.specs.declared.full_action.FullAction.TheVariants.{Lock, Wrap}
use Rattle.rm_capture.specs.Keeping.{ring_after}

front_short : (most : ℕ) (xs : List (Stored PacketInfo)) → length (longest_front most xs) ≤ length xs
front_short most [] = omega arith
front_short most (x ∷ xs) = by_room (nat_le (cost x) most) (front_short (most - cost x) xs)
  where
    by_room : (t : Bool) → length (longest_front (most - cost x) xs) ≤ length xs → length (cond t (x ∷ longest_front (most - cost x) xs) []) ≤ length (x ∷ xs)
    by_room true less = omega (arith, less)
    by_room false less = omega arith

tail_short : (most : ℕ) (xs : List (Stored PacketInfo)) → length (longest_tail most xs) ≤ length xs
tail_short most [] = omega arith
tail_short most (x ∷ xs) = by_room (nat_le (cost_of (x ∷ xs)) most) (tail_short most xs)
  where
    by_room : (t : Bool) → length (longest_tail most xs) ≤ length xs → length (cond t (x ∷ xs) (longest_tail most xs)) ≤ length (x ∷ xs)
    by_room true less = omega arith
    by_room false less = omega (arith, less)

pub one_more : (action : FullAction) (lost : Bool) (ring : Kept PacketInfo) (x : Stored PacketInfo) → length (ring_after action lost ring x).packets ≤ length ring.packets + 1
one_more Lock true ring x = omega arith
one_more Lock false ring x = omega (arith, front_short ring.granted (ring.packets ++ x ∷ []), length-append ring.packets (x ∷ []))
one_more Wrap lost ring x = omega (arith, tail_short ring.granted (ring.packets ++ x ∷ []), length-append ring.packets (x ∷ []))
