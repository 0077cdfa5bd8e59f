-- How packets lie in a ring.
use Rattle.std.specs.Prelude.{◌≡◌, ℕ, ◌+◌, ◌/◌, ◌<◌, ◌≤◌, ◌^◌, List, [], ◌∷◌, ◌++◌, length, map, take, drop, vec_len}
use Rattle.std.specs.declared.vec.Vec.{Vec}
use Rattle.std.specs.declared.alloc.Global.{Global}
use Rattle.circular_buffer.specs.Buffer.{Buffer}
use Rattle.rm_ring.specs.Kept.{Kept, Stored}
use Rattle.rm_ring.specs.declared.ring.TheConstants.{PLACE_COST}
use Rattle.rm_ring.specs.declared.place.Place.{Place}
use Rattle.rm_ring.specs.declared.runs.Runs.{Runs}

module _ {T : Type 0} where
  -- the packet that stands at a place among octets
  abbrev pub packet_at : List ℕ → Place T → Stored T
  packet_at octets place = record { info = place.info; octets = take place.size (drop place.start octets) }

  abbrev pub packets_in : Vec ℕ Global → Buffer (Place T) → (granted slice : ℕ) → Kept T
  packets_in octets places granted slice =
      record { storage = vec_len octets; places = places.capacity; granted = granted; slice = slice; packets = map (packet_at octets.items) places.items }

  -- places of which each begins where the one before ends
  abbrev pub Follow : (start : ℕ) → List (Place T) → (end : ℕ) → Type 0
  Follow start [] end = start ≡ end
  Follow start (place ∷ places) end = (place.start ≡ start) × Follow (start + place.size) places end

  -- what places cost
  abbrev pub cost_at : List (Place T) → ℕ
  cost_at [] = 0
  cost_at (place ∷ places) = (place.size + PLACE_COST) + cost_at places

  -- The places of an older run and of a newer one, which begins at the front of the ring and ends before the older one. There is a
  -- newer one only behind an older one, and where fewer octets than a slice are left behind that. Where there is no packet the older
  -- one ends at the front.
  pub record AreLaid (storage slice : ℕ) (places : List (Place T)) (runs : Runs) : Type 0 where
    pub older : List (Place T)
    pub newer : List (Place T)
    pub are : places ≡ older ++ newer
    pub count : length older ≡ runs.older
    pub older_run : Follow runs.start older runs.end
    pub newer_run : Follow 0 newer runs.front
    pub before : runs.front ≤ runs.start
    pub within : runs.end ≤ storage
    pub behind : runs.older ≡ 0 → newer ≡ []
    pub anew : runs.older ≡ 0 → runs.end ≡ 0
    pub gap : 0 < length newer → storage < runs.end + slice

  -- the places of a ring, what it grants, and what is left of that
  pub record IsLaid (octets : Vec ℕ Global) (places : Buffer (Place T)) (runs : Runs) (granted left slice : ℕ) : Type 0 where
    pub laid : AreLaid (vec_len octets) slice places.items runs
    pub spent : left + cost_at places.items ≡ granted
    pub one : slice + PLACE_COST ≤ granted
    pub storage : granted + slice ≤ vec_len octets
    pub room : granted / PLACE_COST ≤ places.capacity
    pub near : vec_len octets < 2 ^ 63
