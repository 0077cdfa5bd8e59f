-- Tables with room for two rows, worked out by hand. Addresses are numbers.
use Rattle.std.proofs.Common.{◌≡◌, ℕ, ◌+◌, List, [], ◌∷◌, nat_eq, map, refl}
use Rattle.rm_evicting.specs.Mention.{Mention, refers, keys}
use Rattle.rm_evicting.specs.Held.{held_keys, size, order, shares, last_delete}
use Rattle.rm_evicting.specs.Row.{table}
use Rattle.rm_evicting.specs.Stands.{total}

-- what a frame adds: frames out, frames in, faulty frames out
abbrev Gain : Type 0
Gain = ℕ × ℕ × ℕ

abbrev out : Gain
out = (1, 0, 0)

abbrev «in» : Gain
«in» = (0, 1, 0)

abbrev plus : Gain → Gain → Gain
plus a b = (a.0 + b.0, a.1 + b.1, a.2 + b.2)

-- the n-th good frame, at a tick, from a to b
abbrev frame : ℕ → ℕ → ℕ → ℕ → List (Mention ℕ Gain) → List (Mention ℕ Gain)
frame n tick a b r = refers b (n + n + 1) tick «in» ∷ refers a (n + n) tick out ∷ r

-- from 1 to 2, from 3 to 2, and from 1 to 2 again: the first evicts none, the second evicts 1, the third evicts 3
abbrev two : List (Mention ℕ Gain)
two = frame 1 400 3 2 (frame 0 300 1 2 [])

abbrev three : List (Mention ℕ Gain)
three = frame 2 500 1 2 two

-- the keys held, the last referred to first; their ranks by entry; the tick of the last eviction
abbrev IsHeld : List (Mention ℕ Gain) → List ℕ → List ℕ → ℕ → Type 0
IsHeld mentions held ranks deleted =
    (held_keys nat_eq 2 (keys mentions) ≡ held) × (map (λ key. order nat_eq 2 key mentions) held ≡ ranks) × (last_delete nat_eq 2 mentions ≡ deleted)

pub two_held : IsHeld two (2 ∷ 3 ∷ []) (1 ∷ 2 ∷ []) 400
two_held = (refl, refl, refl)

pub three_held : IsHeld three (2 ∷ 1 ∷ []) (1 ∷ 2 ∷ []) 500
three_held = (refl, refl, refl)

pub three_size : size nat_eq 2 (keys three) ≡ 2
three_size = refl

pub three_second : total (0, 0, 0) plus (shares nat_eq 2 2 three) ≡ (0, 3, 0)
three_second = refl

pub three_first : total (0, 0, 0) plus (shares nat_eq 2 1 three) ≡ (1, 0, 0)
three_first = refl

-- the same by the steps of the table
pub three_table : map (λ row. row.value) (table nat_eq (0, 0, 0) plus 2 three) ≡ (0, 3, 0) ∷ (1, 0, 0) ∷ []
three_table = refl

-- one frame from an address to itself
pub one_value : total (0, 0, 0) plus (shares nat_eq 2 1 (frame 0 100 1 1 [])) ≡ (1, 1, 0)
one_value = refl

pub one_size : size nat_eq 2 (keys (frame 0 100 1 1 [])) ≡ 1
one_size = refl
