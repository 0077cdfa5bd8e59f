-- Slot by slot.
use Rattle.std.proofs.Common.{◌≡◌, ℕ, ◌+◌, ◌<◌, zero, suc, List, [], ◌∷◌, ◌++◌, take, drop, length, get_or, slice_set, Option, None, refl, ap, ◌∙◌, arith}
use Rattle.rm_upper.specs.declared.slots.Slot.{Slot}
use Rattle.rm_upper.specs.Standing.{slot_after, slots_after}

module _ (stamp : ℕ) where
  abbrev after_so_far : ℕ → List (Option Slot) → List (Option ℕ) → List (Option Slot)
  after_so_far i old now = slots_after stamp (take i old) (take i now) ++ drop i old

  next_after : (i : ℕ) (old : List (Option Slot)) (now : List (Option ℕ)) → i < length old → i < length now → slice_set (after_so_far i old now) i (slot_after stamp (get_or (after_so_far i old now) i None) (get_or now i None)) ≡ after_so_far (suc i) old now
  next_after i [] now lt below = absurd (omega arith)
  next_after i (slot ∷ old) [] lt below = absurd (omega arith)
  next_after zero (slot ∷ old) (p ∷ now) lt below = refl
  next_after (suc i) (slot ∷ old) (p ∷ now) lt below = ap (λ l. slot_after stamp slot p ∷ l) (next_after i old now (omega arith) (omega arith))

  pub next_slots : (i : ℕ) (old : List (Option Slot)) (now : List (Option ℕ)) (slots : List (Option Slot)) → i < length old → length now ≡ length old → slots ≡ after_so_far i old now → slice_set slots i (slot_after stamp (get_or slots i None) (get_or now i None)) ≡ after_so_far (i + 1) old now
  next_slots i old now slots below same is = rw is (next_after i old now below (omega arith) ∙ ap (λ m. after_so_far m old now) (let e : suc i ≡ i + 1 = omega arith in e))
