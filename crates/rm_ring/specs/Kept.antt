-- The packets that a ring keeps.
use Rattle.std.specs.Prelude.{ℕ, ◌+◌, ◌-◌, List, [], ◌∷◌, length, nat_le, if◌then◌else◌}
use Rattle.rm_ring.specs.declared.ring.TheConstants.{PLACE_COST}

-- a packet: what is known of it, and its octets
pub record Stored (T : Type 0) : Type 0 where
  pub info : T
  pub octets : List ℕ

-- What contracts see of a ring: how many octets and how many packets it has storage for, what packets may cost together, how many
-- octets one may have, and those that are kept, the oldest first.
pub record Kept (T : Type 0) : Type 0 where
  pub storage : ℕ
  pub places : ℕ
  pub granted : ℕ
  pub slice : ℕ
  pub packets : List (Stored T)

module _ {T : Type 0} where
  abbrev pub stored : T → List ℕ → Stored T
  stored info octets = record { info = info; octets = octets }

  -- what a packet costs, and what some cost together
  abbrev pub cost : Stored T → ℕ
  cost packet = length packet.octets + PLACE_COST

  abbrev pub cost_of : List (Stored T) → ℕ
  cost_of [] = 0
  cost_of (packet ∷ packets) = cost packet + cost_of packets

  -- the longest front of some packets that costs no more than a number
  abbrev pub longest_front : ℕ → List (Stored T) → List (Stored T)
  longest_front most [] = []
  longest_front most (packet ∷ packets) = if nat_le (cost packet) most then packet ∷ longest_front (most - cost packet) packets else []

  -- the longest tail
  abbrev pub longest_tail : ℕ → List (Stored T) → List (Stored T)
  longest_tail most [] = []
  longest_tail most (packet ∷ packets) = if nat_le (cost_of (packet ∷ packets)) most then packet ∷ packets else longest_tail most packets
