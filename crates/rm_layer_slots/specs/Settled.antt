-- Slots that protocols keep as long as they are on.
use Rattle.std.specs.Prelude.{◌≡◌, ℕ, ⊤, Bool, false, [], ◌∷◌, if◌then◌else◌, Option, Some, None}
use Rattle.rm_layers.specs.Applications.{Slots, has_slot, is_same}

-- a slot has what it had, or a protocol that had none
abbrev pub IsSettled : (had : ℕ → Bool) → (was slot : Option ℕ) → Type 0
IsSettled had was None = ⊤
IsSettled had was (Some protocol) = is_same was (Some protocol) ≡ false → had protocol ≡ false

abbrev pub AreSettledBy : (had : ℕ → Bool) → (old slots : Slots) → Type 0
AreSettledBy had [] [] = ⊤
AreSettledBy had [] (slot ∷ slots) = ⊥
AreSettledBy had (was ∷ old) [] = ⊥
AreSettledBy had (was ∷ old) (slot ∷ slots) = IsSettled had was slot × AreSettledBy had old slots

-- each slot is so, by the slots that there were
abbrev pub AreSettled : (old slots : Slots) → Type 0
AreSettled old slots = AreSettledBy (λ protocol. has_slot protocol old) old slots

-- a slot whose protocol is on still, and an empty one for any other
abbrev pub kept_in : (on : Slots) → Option ℕ → Option ℕ
kept_in on None = None
kept_in on (Some protocol) = if has_slot protocol on then Some protocol else None

-- a protocol in the first slot that is empty
abbrev pub put_first : ℕ → Slots → Slots
put_first protocol [] = []
put_first protocol (None ∷ slots) = Some protocol ∷ slots
put_first protocol (Some other ∷ slots) = Some other ∷ put_first protocol slots

-- in a slot of its own, if it has none yet
abbrev pub placed : ℕ → Slots → Slots
placed protocol slots = if has_slot protocol slots then slots else put_first protocol slots
