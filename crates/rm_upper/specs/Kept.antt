-- Network rows as they are kept, with their application rows in slots.
use Rattle.std.specs.Prelude.{ℕ, ◌+◌, Bool, true, false, cond, ◌&&◌, List, [], ◌∷◌, nat_eq, nat_le, nat_lt, Option, Some, None}
use Rattle.std.specs.List.{list_any}
use Rattle.rm_upper.specs.declared.slots.Slot.{Slot}
use Rattle.rm_upper.specs.declared.slots.KeptApplication.{KeptApplication}
pub use Rattle.rm_upper.specs.declared.network_row.NetworkRow.{NetworkRow}
use Rattle.rm_upper.specs.Tally.{Tally}

module _ {N A : Type 0} (tally : Tally N A) where
  -- the one that a contribution makes
  abbrev pub first : ℕ → ℕ → N → KeptApplication A
  first stamp tick gain = record { stamp = stamp; created = tick; tick = tick; sums = tally.more tally.none gain }

  -- with one contribution more: one from before the protocol was turned on is none
  abbrev pub taken : Slot → ℕ → ℕ → N → Option (KeptApplication A) → KeptApplication A
  taken slot stamp tick gain None = first stamp tick gain
  taken slot stamp tick gain (Some kept) = cond (nat_le slot.since kept.stamp)
      (record { stamp = kept.stamp; created = kept.created; tick = tick; sums = tally.more kept.sums gain })
      (first stamp tick gain)

  -- what a slot keeps after a contribution that comes to some protocols
  abbrev pub kept_with : (ℕ → Bool) → ℕ → ℕ → N → Option Slot → Option (KeptApplication A) → Option (KeptApplication A)
  kept_with takes stamp tick gain None kept = kept
  kept_with takes stamp tick gain (Some slot) kept = cond (takes slot.protocol) (Some (taken slot stamp tick gain kept)) kept

  abbrev pub all_with : (ℕ → Bool) → ℕ → ℕ → N → List (Option Slot) → List (Option (KeptApplication A)) → List (Option (KeptApplication A))
  all_with takes stamp tick gain [] applications = []
  all_with takes stamp tick gain (slot ∷ slots) [] = []
  all_with takes stamp tick gain (slot ∷ slots) (kept ∷ applications) = kept_with takes stamp tick gain slot kept ∷ all_with takes stamp tick gain slots applications

-- the protocols on a path
abbrev pub is_among : List ℕ → ℕ → Bool
is_among path protocol = list_any (λ other. nat_eq other protocol) path

module _ {A : Type 0} where
  -- a contribution makes an application row in a slot
  abbrev pub is_made : Slot → Option (KeptApplication A) → Bool
  is_made slot None = true
  is_made slot (Some kept) = nat_lt kept.stamp slot.since

  -- how many a contribution that comes to some protocols makes
  abbrev pub makes_here : (ℕ → Bool) → Option Slot → Option (KeptApplication A) → Bool
  makes_here takes None kept = false
  makes_here takes (Some slot) kept = takes slot.protocol && is_made slot kept

  abbrev pub all_made : (ℕ → Bool) → List (Option Slot) → List (Option (KeptApplication A)) → ℕ
  all_made takes [] applications = 0
  all_made takes (slot ∷ slots) [] = 0
  all_made takes (slot ∷ slots) (kept ∷ applications) = all_made takes slots applications + cond (makes_here takes slot kept) 1 0
