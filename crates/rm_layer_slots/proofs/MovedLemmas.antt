-- A slot that has another protocol than before has one that was turned.
use Rattle.std.proofs.Common.{◌≡◌, ℕ, Bool, true, false, [], ◌∷◌, Some, None, ◌||◌, refl, arith, nat_eq}
use Rattle.std.proofs.lemmas.Bool.Decides.{nat_tests}
use Rattle.rm_model.specs.Journal.{Act, Journal}
use Rattle.rm_layers.specs.Applications.{Slots, has_slot, is_in}
use Rattle.rm_layers.specs.Turning.{AreNew}
use Rattle.rm_layer_events.specs.Side.{Side, IsSide, turned}
use Rattle.rm_layer_events.proofs.SideLemmas.{turned_on}
use Rattle.rm_layer_slots.specs.Settled.{AreSettledBy}

module _ {K G : Type 0} (side : Side K G) (is : IsSide side) (act : Act) (earlier : Journal) (had : ℕ → Bool) (was_off : (p : ℕ) → had p ≡ false → side.is_on p earlier ≡ false) where
  pub all_new : (old slots : Slots) → AreSettledBy had old slots → ((p : ℕ) → has_slot p slots ≡ true → side.is_on p (act ∷ earlier) ≡ true) → AreNew (turned side act earlier) old slots
  all_new [] [] settled on = tt
  all_new [] (slot ∷ slots) settled on = absurd settled
  all_new (was ∷ old) [] settled on = absurd settled
  all_new (was ∷ old) (None ∷ slots) settled on = all_new old slots settled.1 on
  all_new (was ∷ old) (Some p ∷ slots) settled on = (
    λ other. turned_on side is p act earlier (on p (rw itself refl)) (was_off p (settled.0 other)),
    all_new old slots settled.1 (λ q i. on q (later (is_in q (Some p)) i)),
  )
    where
      itself : nat_eq p p ≡ true
      itself = grind (arith, nat_tests)

      later : (a : Bool) → {b : Bool} → b ≡ true → (a || b) ≡ true
      later true e = refl
      later false e = e
