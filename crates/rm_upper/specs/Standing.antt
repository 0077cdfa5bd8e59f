-- The network rows of one control row, as they are kept, stand for the events so far.
use Rattle.std.specs.Prelude.{ℕ, ◌+◌, ◌<◌, Bool, cond, List, [], ◌∷◌, nat_eq, Option, Some, None, ⊤}
use Rattle.std.specs.List.{AllByRecursion}
use Rattle.rm_evicting.specs.declared.Row.{Row}
use Rattle.rm_evicting.specs.Row.{holds, touched, credited}
use Rattle.rm_rows.specs.Table.{Table}
use Rattle.rm_layers.specs.Event.{Event, AreUpTo}
use Rattle.rm_layers.specs.Upper.{Upper, IsOf}
use Rattle.rm_upper.specs.declared.slots.Slot.{Slot}
use Rattle.rm_upper.specs.declared.slots.KeptApplication.{KeptApplication}
use Rattle.rm_upper.specs.Kept.{NetworkRow}
use Rattle.rm_upper.specs.Tally.{Tally}
use Rattle.rm_upper.specs.Shown.{blank_row, gained_value, made_in, protocols, seen_rows, AreSince}

-- the network rows, the protocols in slots, and how many network rows and application rows were entered
pub record Layered (K N A : Type 0) : Type 0 where
  pub table : Table K (NetworkRow N A)
  pub slots : List (Option Slot)
  pub network_inserts : ℕ
  pub application_inserts : ℕ

abbrev pub seen : {K N A : Type 0} → Layered K N A → Upper K N A
seen layered = record {
  rows = seen_rows layered.slots layered.table.rows;
  network_inserts = layered.network_inserts;
  application_inserts = layered.application_inserts;
}

-- what is kept in a slot is from before a stamp
abbrev pub IsKeptBefore : {A : Type 0} → ℕ → Option (KeptApplication A) → Type 0
IsKeptBefore limit None = ⊤
IsKeptBefore limit (Some kept) = kept.stamp < limit

abbrev pub AreKeptBefore : {K N A : Type 0} → ℕ → List (Row K (NetworkRow N A)) → Type 0
AreKeptBefore limit rows = AllByRecursion (λ row. AllByRecursion (IsKeptBefore limit) row.value.applications) rows

module _ {K N A : Type 0} (tally : Tally N A) (eq : K → K → Bool) where
  -- What is shown is what the events give. No stamp of a first contribution, or since which a protocol is on, is above the events'.
  pub record StandsFor (events : List (Event K N)) (layered : Layered K N A) : Type 0 where
    pub is : IsOf eq tally.blank tally.add tally.none tally.more layered.table.capacity (protocols layered.slots) events (seen layered)
    pub kept : (limit : ℕ) → AreUpTo limit events → AreKeptBefore limit layered.table.rows
    pub since : (limit : ℕ) → AreUpTo limit events → AreSince limit layered.slots

  -- a reference
  abbrev pub referred : List ℕ → K → ℕ → ℕ → N → Layered K N A → Layered K N A
  referred path key stamp tick gain layered = record {
    table = record {
      room = layered.table.room;
      capacity = layered.table.capacity;
      rows = credited eq (gained_value tally layered.slots path stamp tick) key gain (touched eq (blank_row tally.blank) layered.table.capacity key stamp tick layered.table.rows);
    };
    slots = layered.slots;
    network_inserts = layered.network_inserts + cond (holds eq key layered.table.rows) 0 1;
    application_inserts = layered.application_inserts
        + made_in eq layered.slots path key (touched eq (blank_row tally.blank) layered.table.capacity key stamp tick layered.table.rows);
  }

-- a slot that keeps its protocol is as it was; another protocol is on from this stamp
abbrev pub slot_after : ℕ → Option Slot → Option ℕ → Option Slot
slot_after stamp was None = None
slot_after stamp None (Some protocol) = Some (record { protocol = protocol; since = stamp })
slot_after stamp (Some slot) (Some protocol) = cond (nat_eq slot.protocol protocol) (Some slot) (Some (record { protocol = protocol; since = stamp }))

abbrev pub slots_after : ℕ → List (Option Slot) → List (Option ℕ) → List (Option Slot)
slots_after stamp [] now = []
slots_after stamp (was ∷ old) [] = []
slots_after stamp (was ∷ old) (protocol ∷ now) = slot_after stamp was protocol ∷ slots_after stamp old now
