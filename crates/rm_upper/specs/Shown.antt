-- What is shown of the rows that are kept.
use Rattle.std.specs.Prelude.{◌≡◌, ℕ, ◌≤◌, Bool, true, false, ⊤, cond, List, [], ◌∷◌, map, nat_le, replicate, Option, Some, None}
use Rattle.rm_evicting.specs.declared.Row.{Row}
use Rattle.rm_rows.specs.Table.{Table}
use Rattle.rm_rows.specs.declared.touch.Touch.{Touch}
use Rattle.rm_rows.specs.declared.touch.Touch.TheVariants.{Held, Fresh, Evicted}
use Rattle.rm_layers.specs.Event.{Contribution}
use Rattle.rm_layers.specs.Network.{is_on_path}
use Rattle.rm_layers.specs.Applications.{Application, Value, Slots, has_slot}
use Rattle.rm_upper.specs.declared.slots.Slot.{Slot}
use Rattle.rm_upper.specs.declared.slots.KeptApplication.{KeptApplication}
use Rattle.rm_upper.specs.Kept.{NetworkRow}
use Rattle.rm_upper.specs.Tally.{Tally}
use Rattle.rm_upper.specs.Kept.{is_among, all_with, all_made}

-- whether the key of a reference had a row
abbrev pub had_row : {K : Type 0} → Touch K → Bool
had_row Held = true
had_row Fresh = false
had_row (Evicted key) = false

-- the tick of the first contribution, where another came at a tick
abbrev pub created_by : ℕ → Option ℕ → Option ℕ
created_by tick None = Some tick
created_by tick (Some first) = Some first

module _ {N A : Type 0} where
  -- the value of a row that was just entered
  abbrev pub blank_row : N → NetworkRow N A
  blank_row blank = record { created = None; sums = blank; applications = replicate 32 None }

  -- a value with one contribution more
  abbrev pub gained_value : Tally N A → List (Option Slot) → List ℕ → ℕ → ℕ → NetworkRow N A → N → NetworkRow N A
  gained_value tally slots path stamp tick value gain = record {
    created = created_by tick value.created;
    sums = tally.add value.sums gain;
    applications = all_with tally (is_among path) stamp tick gain slots value.applications;
  }

  -- the application rows of a network row, in slots
  abbrev pub applications_of : {K : Type 0} → Row K (NetworkRow N A) → List (Option (KeptApplication A))
  applications_of row = row.value.applications

  -- how many application rows a contribution makes in the row of a key
  abbrev pub made_in : {K : Type 0} → (K → K → Bool) → List (Option Slot) → List ℕ → K → List (Row K (NetworkRow N A)) → ℕ
  made_in eq slots path key [] = 0
  made_in eq slots path key (row ∷ rows) = cond (eq key row.key) (all_made (is_among path) slots row.value.applications) (made_in eq slots path key rows)

module _ {A : Type 0} where
  -- the application row in a slot: one from before the protocol was turned on is none
  abbrev pub shown : Option Slot → Option (KeptApplication A) → Option (Application A)
  shown None kept = None
  shown (Some slot) None = None
  shown (Some slot) (Some kept) = cond (nat_le slot.since kept.stamp) (Some (record { created = kept.created; tick = kept.tick; sums = kept.sums })) None

  abbrev pub shown_all : List (Option Slot) → List (Option (KeptApplication A)) → List (Option (Application A))
  shown_all [] applications = []
  shown_all (slot ∷ slots) [] = []
  shown_all (slot ∷ slots) (kept ∷ applications) = shown slot kept ∷ shown_all slots applications

abbrev pub protocol_of : Option Slot → Option ℕ
protocol_of None = None
protocol_of (Some slot) = Some slot.protocol

abbrev pub protocols : List (Option Slot) → Slots
protocols slots = map protocol_of slots

abbrev pub seen_value : {N A : Type 0} → List (Option Slot) → NetworkRow N A → Value N A
seen_value slots value = record { created = value.created; sums = value.sums; applications = shown_all slots value.applications }

-- each protocol is on since a stamp that isn't above this one
abbrev pub AreSince : ℕ → List (Option Slot) → Type 0
AreSince limit [] = ⊤
AreSince limit (None ∷ slots) = AreSince limit slots
AreSince limit (Some slot ∷ slots) = (slot.since ≤ limit) × AreSince limit slots

-- a path of protocols that are on has those of a contribution that are on
abbrev pub Agrees : {G : Type 0} → List (Option Slot) → List ℕ → Contribution G → Type 0
Agrees slots path brings = (protocol : ℕ) → has_slot protocol (protocols slots) ≡ true → is_among path protocol ≡ is_on_path protocol brings

-- a row with its value seen otherwise
abbrev pub row_as : {K V W : Type 0} → (V → W) → Row K V → Row K W
row_as seen row = record { key = row.key; value = seen row.value; entry = row.entry; last = row.last; tick = row.tick }

-- and a table with each value seen so
abbrev pub seen_table : {K V W : Type 0} → (V → W) → Table K V → Table K W
seen_table seen table = record { room = table.room; capacity = table.capacity; rows = map (row_as seen) table.rows }

abbrev pub seen_rows : {K N A : Type 0} → List (Option Slot) → List (Row K (NetworkRow N A)) → List (Row K (Value N A))
seen_rows slots rows = map (row_as (seen_value slots)) rows
