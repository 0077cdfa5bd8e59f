-- Turnings of protocols, by the stamps from which they are on.
use Rattle.std.proofs.Common.{◌≡◌, ℕ, ◌<◌, Bool, true, false, cond, not, ◌||◌, List, [], ◌∷◌, ◌++◌, filter, nat_eq, Option, Some, None, refl, sym, ap, ◌∙◌, arith, inl, inr}
use Rattle.std.proofs.lemmas.Bool.{cases_Bool, true≢false, le-leb}
use Rattle.std.proofs.lemmas.Bool.Decides.{nat_tests}
use Rattle.rm_evicting.specs.Mention.{keys}
use Rattle.rm_evicting.specs.Held.{is_arrival}
use Rattle.rm_layers.specs.Event.{Event, names, turns, turns_ip, begins, is_ip_on, on_since, span, AreRising}
use Rattle.rm_layers.specs.Network.{is_on_path, counts_for, contributions}
use Rattle.std.specs.Option.{is_some}
use Rattle.rm_layers.specs.Applications.{Slots, is_in, has_slot, is_same}
use Rattle.rm_layers.specs.Upper.{AreTuned, AreRetuned, AreTurnings}
use Rattle.rm_layers.specs.Turning.{is_turned, AreNew, IsChange, contributions_by_place}
use Rattle.rm_layers.proofs.Spans.{on_up_to, each-shares, contributions_below}
use Rattle.rm_layers.proofs.Values.{none_since}

module _ {K G : Type 0} (s : ℕ) (r : List (Event K G)) where
  unturned : (p : ℕ) (ts : List (Event K G)) → AreTurnings s ts → is_turned p ts ≡ false → on_since p (ts ++ r) ≡ on_since p r
  unturned p [] t o = refl
  unturned p (names k c ∷ ts) t o = absurd t
  unturned p (turns q n on ∷ ts) t o = elim (cases_Bool (nat_eq p q)) [
    | inl e ↦ absurd (true≢false (rw e at o))
    | inr e ↦ rw e (unturned p ts t.1 (rw e at o))
  ]
  unturned p (turns_ip on ∷ ts) t o = absurd t
  unturned p (begins ∷ ts) t o = absurd t

  turned_now : (p : ℕ) (ts : List (Event K G)) → AreTurnings s ts → is_turned p ts ≡ true → is_some (on_since p (ts ++ r)) ≡ true → on_since p (ts ++ r) ≡ Some s
  turned_now p [] t i on = absurd (true≢false (sym i))
  turned_now p (names k c ∷ ts) t i on = absurd t
  turned_now p (turns q n now ∷ ts) t i on = elim (cases_Bool (nat_eq p q)) [
    | inl e ↦ rw e (by now (rw e at on))
    | inr e ↦ rw e (turned_now p ts t.1 (rw e at i) (rw e at on))
  ]
    where
      by : (b : Bool) → is_some (cond b (Some n) None) ≡ true → cond b (Some n) None ≡ Some s
      by true y = ap (λ m. Some m) t.0
      by false y = absurd (true≢false (sym y))
  turned_now p (turns_ip now ∷ ts) t i on = absurd t
  turned_now p (begins ∷ ts) t i on = absurd t

  module _ (ts : List (Event K G)) (turnings : AreTurnings s ts) (changes : (p : ℕ) → is_turned p ts ≡ true → is_some (on_since p (ts ++ r)) ≡ not (is_some (on_since p r))) where
    one : (was : Option ℕ) (p : ℕ) → ((p : ℕ) → is_in p was ≡ true → is_some (on_since p r) ≡ true) → is_some (on_since p (ts ++ r)) ≡ true → (is_same was (Some p) ≡ false → is_turned p ts ≡ true) → on_since p (ts ++ r) ≡ cond (is_same was (Some p)) (on_since p r) (Some s)
    one None p before after new = turned_now p ts turnings (new refl) after
    one (Some q) p before after new = elim (cases_Bool (nat_eq q p)) [
      | inl e ↦ rw e (elim (cases_Bool (is_turned p ts)) [
        | inl i ↦
            let same : nat_eq p q ≡ true = grind (arith, nat_tests, e) in
            let was_on : is_some (on_since p r) ≡ true = before p same in
            let off : is_some (on_since p (ts ++ r)) ≡ false = changes p i ∙ ap not was_on in
            absurd (true≢false (sym after ∙ off))
        | inr o ↦ unturned p ts turnings o
      ])
      | inr e ↦ rw e (turned_now p ts turnings (new e) after)
    ]

    all : (old slots : Slots) → ((p : ℕ) → has_slot p old ≡ true → is_some (on_since p r) ≡ true) → ((p : ℕ) → has_slot p slots ≡ true → is_some (on_since p (ts ++ r)) ≡ true) → AreNew ts old slots → AreRetuned s (λ p. on_since p r) (λ p. on_since p (ts ++ r)) old slots
    all [] [] before after new = tt
    all [] (slot ∷ slots) before after new = absurd new
    all (was ∷ old) [] before after new = absurd new
    all (was ∷ old) (None ∷ slots) before after new = (tt, all old slots (λ p i. before p (later (is_in p was) i)) after new)
      where
        later : {b : Bool} (a : Bool) → b ≡ true → (a || b) ≡ true
        later true e = refl
        later false e = e
    all (was ∷ old) (Some q ∷ slots) before after new = (one was q (λ p i. before p (rw i refl)) (after q (first q)) new.0, all old slots (λ p i. before p (later (is_in p was) i)) (λ p i. after p (later (nat_eq p q) i)) new.1)
      where
        later : {b : Bool} (a : Bool) → b ≡ true → (a || b) ≡ true
        later true e = refl
        later false e = e

        first : (p : ℕ) → has_slot p (Some p ∷ slots) ≡ true
        first p = let e : nat_eq p p ≡ true = grind (arith, nat_tests) in rw e refl

  -- what one change leaves in slots is on from where it was, or from the change on
  pub change-retunes : (ts : List (Event K G)) (old slots : Slots) → AreTuned old r → AreTuned slots (ts ++ r) → IsChange s ts r old slots → AreRetuned s (λ p. on_since p r) (λ p. on_since p (ts ++ r)) old slots
  change-retunes ts old slots before after is = all ts is.alone is.changes old slots (λ p i. sym (before.tuned p) ∙ i) (λ p i. sym (after.tuned p) ∙ i) is.moved

module _ {K G : Type 0} (eq : K → K → Bool) (cap : ℕ) where
  -- what counts by stamps is what counts by places
  pub contributions_by_place-are : (h : K) (p s : ℕ) (r : List (Event K G)) → AreRising r → on_since p r ≡ Some s → contributions_by_place eq cap h p r ≡ filter (counts_for p (Some s)) (contributions eq cap h r)
  contributions_by_place-are h p s [] a e = cc
  contributions_by_place-are h p s (names k c ∷ r) a e = elim (cases_Bool (is_ip_on r)) [
    | inl on ↦ rw on (
        let counts : counts_for p (Some s) c ≡ is_on_path p c = rw (le-leb s c.stamp (on_up_to c.stamp p s r a.0 e)) refl in
        let rest = contributions_by_place-are h p s r a.1 e in
        elim (cases_Bool (eq h k)) [
          | inl y ↦ elim (cases_Bool (is_arrival eq cap h (keys (span r)))) [
            | inl t ↦ rw (y, t, counts) (elim (cases_Bool (is_on_path p c)) [ inl i ↦ rw i refl | inr i ↦ rw i refl ])
            | inr t ↦ rw (y, t, counts, rest) (elim (cases_Bool (is_on_path p c)) [ inl i ↦ rw i refl | inr i ↦ rw i refl ])
          ]
          | inr y ↦ rw y rest
        ])
    | inr off ↦ rw off (contributions_by_place-are h p s r a.1 e)
  ]
  contributions_by_place-are h p s (turns q n now ∷ r) a e = elim (cases_Bool (nat_eq p q)) [
    | inl y ↦ rw y (by now (rw y at e))
    | inr y ↦ rw y (contributions_by_place-are h p s r a.1 (rw y at e))
  ]
    where
      by : (b : Bool) → cond b (Some n) None ≡ Some s → [] ≡ filter (counts_for p (Some s)) (contributions eq cap h r)
      by true f = let same : n ≡ s = cc in rw (← same) (sym (none_since n p (contributions eq cap h r) (each-shares eq cap (λ c. c.stamp < n) h (span r) (contributions_below n r a.0))))
      by false f = cc
  contributions_by_place-are h p s (turns_ip on ∷ r) a e = refl
  contributions_by_place-are h p s (begins ∷ r) a e = refl
