-- The network and application rows that a walk finds.
use Rattle.std.specs.Prelude.{◌≡◌, ℕ, ◌≤◌, ◌⊎◌, Bool, true, cond, ◌&&◌, List, [], ◌∷◌, nat_le, nat_lt, Option, Some, None}
use Rattle.rm_evicting.specs.declared.Row.{Row}
use Rattle.rm_rows.specs.Table.{row_of}
use Rattle.rm_upper.specs.declared.slots.Slot.{Slot}
use Rattle.rm_upper.specs.declared.slots.KeptApplication.{KeptApplication}
use Rattle.rm_upper.specs.Kept.{NetworkRow}
use Rattle.rm_upper.specs.Standing.{Layered}

-- the application row of a protocol is in one of the slots, with the tick of its last contribution
abbrev pub IsShown : {A : Type 0} → List (Option Slot) → List (Option (KeptApplication A)) → ℕ → ℕ → Type 0
IsShown [] applications protocol tick = ⊥
IsShown (slot ∷ slots) [] protocol tick = ⊥
IsShown (None ∷ slots) (kept ∷ applications) protocol tick = IsShown slots applications protocol tick
IsShown (Some slot ∷ slots) (None ∷ applications) protocol tick = IsShown slots applications protocol tick
IsShown (Some slot ∷ slots) (Some kept ∷ applications) protocol tick =
    ((slot.protocol ≡ protocol) × (slot.since ≤ kept.stamp) × (tick ≡ kept.tick)) ⊎ IsShown slots applications protocol tick

-- it stands at a mark
abbrev pub IsMarked : {A : Type 0} → ℕ → List (Option Slot) → List (Option (KeptApplication A)) → ℕ → Type 0
IsMarked mark slots applications protocol = (tick : ℕ) × IsShown slots applications protocol tick × (mark ≤ tick)

-- the protocol of a slot whose application row stands at a mark
abbrev pub marked_at : {A : Type 0} → ℕ → Option Slot → Option (KeptApplication A) → Option ℕ
marked_at mark None kept = None
marked_at mark (Some slot) None = None
marked_at mark (Some slot) (Some kept) = cond (nat_le slot.since kept.stamp && nat_le mark kept.tick) (Some slot.protocol) None

-- a protocol is above another, and below the best so far
abbrev pub is_above : Option ℕ → ℕ → Bool
is_above None protocol = true
is_above (Some from) protocol = nat_lt from protocol

abbrev pub is_better : ℕ → Option ℕ → Bool
is_better protocol None = true
is_better protocol (Some best) = nat_lt protocol best

abbrev pub better : Option ℕ → Option ℕ → Option ℕ → Option ℕ
better from None best = best
better from (Some protocol) best = cond (is_above from protocol && is_better protocol best) (Some protocol) best

-- the best of all slots and of the best so far
abbrev pub best_of : {A : Type 0} → ℕ → Option ℕ → List (Option Slot) → List (Option (KeptApplication A)) → Option ℕ → Option ℕ
best_of mark from [] applications best = best
best_of mark from (slot ∷ slots) [] best = best
best_of mark from (slot ∷ slots) (kept ∷ applications) best = best_of mark from slots applications (better from (marked_at mark slot kept) best)

module _ {K N A : Type 0} (eq : K → K → Bool) (layered : Layered K N A) where
  -- the network row of a key, and the tick of its last contribution
  abbrev pub ShowsNetwork : K → ℕ → Type 0
  ShowsNetwork key tick = (row : Row K (NetworkRow N A)) × (row_of eq key layered.table.rows ≡ Some row) × (tick ≡ row.tick)

  -- the application row of a key and a protocol, and the tick of its last contribution
  abbrev pub ShowsApplication : K × ℕ → ℕ → Type 0
  ShowsApplication x tick = (row : Row K (NetworkRow N A)) × (row_of eq x.0 layered.table.rows ≡ Some row) × IsShown layered.slots row.value.applications x.1 tick
