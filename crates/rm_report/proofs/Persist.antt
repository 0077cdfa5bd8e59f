-- A key that is held has been so since before some mentions, or was entered by one of them.
use Rattle.std.proofs.Common.{◌≡◌, ℕ, ◌≤◌, zero, suc, Bool, true, false, ◌&&◌, ◌||◌, ◌⊎◌, List, [], ◌∷◌, ◌++◌, length, take, refl, sym, ap, ◌∙◌, arith, inl, inr}
use Rattle.std.specs.List.{list_any}
use Rattle.std.proofs.lemmas.Bool.{cases_Bool, true≢false}
use Rattle.rm_evicting.specs.Mention.{Mention, refers, strays, keys}
use Rattle.rm_evicting.specs.Held.{IsExact, distinct, held, is_arrival, entry, since_entry, AllStamps}
use Rattle.rm_evicting.proofs.Recency.{held_first, absent_sooner, distinct-apart, first-out, first-in}

module _ {K C : Type 0} where
  -- no stamp is below this one
  abbrev pub AllFrom : ℕ → List (Mention K C) → Type 0
  AllFrom least = AllStamps (λ stamp. least ≤ stamp)

module _ {K : Type 0} (eq : K → K → Bool) (exact : IsExact eq) where
  -- what is among the first keys is among more of them
  among_more : (key : K) (n : ℕ) (xs : List K) → list_any (eq key) (take n xs) ≡ true → list_any (eq key) (take (suc n) xs) ≡ true
  among_more key n xs is = elim (cases_Bool (list_any (eq key) (take (suc n) xs))) [
    | inl more ↦ more
    | inr none ↦ absurd (true≢false (sym is ∙ absent_sooner eq exact key n xs none))
  ]

  first_sooner : (key newest : K) (room : ℕ) (ks : List K) → eq key newest ≡ false → list_any (eq key) (take room (distinct eq (newest ∷ ks))) ≡ true → list_any (eq key) (take room (distinct eq ks)) ≡ true
  first_sooner key newest zero ks other is = is
  first_sooner key newest (suc room) ks other is = elim (cases_Bool (list_any (eq newest) (take (suc room) (distinct eq ks)))) [
    | inl in_front ↦ sym (first-in eq exact newest (suc room) (distinct eq ks) (distinct-apart eq exact ks) in_front key) ∙ is
    | inr behind ↦
        let out = first-out eq exact newest room (distinct eq ks) (absent_sooner eq exact newest room (distinct eq ks) behind) key in
        among_more key room (distinct eq ks) (ap (λ t. t || list_any (eq key) (take room (distinct eq ks))) (sym other) ∙ sym out ∙ is)
  ]

  -- a key that is held after a reference to another was held before it
  pub held_sooner : (capacity : ℕ) (key newest : K) (ks : List K) → eq key newest ≡ false → held eq capacity key (newest ∷ ks) ≡ true → held eq capacity key ks ≡ true
  held_sooner capacity key newest ks other later =
      held_first eq exact capacity key ks ∙ first_sooner key newest capacity ks other (sym (held_first eq exact capacity key (newest ∷ ks)) ∙ later)

module _ {K C : Type 0} (eq : K → K → Bool) (exact : IsExact eq) (capacity : ℕ) where
  -- it has been held since before the later mentions
  pub record IsOld (key : K) (later early : List (Mention K C)) : Type 0 where
    pub since : since_entry eq capacity key (later ++ early) ≡ later ++ since_entry eq capacity key early
    pub entry : entry eq capacity key (later ++ early) ≡ entry eq capacity key early
    pub held : held eq capacity key (keys early) ≡ true

  -- it was entered by one of these
  pub record IsNew (least : ℕ) (key : K) (later early : List (Mention K C)) : Type 0 where
    pub since : length (since_entry eq capacity key (later ++ early)) ≤ length later
    pub entry : least ≤ entry eq capacity key (later ++ early)

  abbrev OldOrNew : ℕ → K → List (Mention K C) → List (Mention K C) → Type 0
  OldOrNew least key later early = IsOld key later early ⊎ IsNew least key later early

  module _ (least : ℕ) (key newest : K) (stamp tick : ℕ) (gain : C) (later early : List (Mention K C)) where
    -- a reference by which the key doesn't come in
    goes_on : (eq key newest && is_arrival eq capacity key (keys (later ++ early))) ≡ false → OldOrNew least key later early → OldOrNew least key (refers newest stamp tick gain ∷ later) early
    goes_on stays (inl old) = inl (record {
      since = rw stays (ap (λ (ms : List (Mention K C)). refers newest stamp tick gain ∷ ms) old.since);
      entry = rw stays old.entry;
      held = old.held;
    })
    goes_on stays (inr new) = inr (record { since = rw stays (omega (arith, new.since)); entry = rw stays new.entry })

    refers_once : least ≤ stamp → held eq capacity key (newest ∷ keys (later ++ early)) ≡ true → (held eq capacity key (keys (later ++ early)) ≡ true → OldOrNew least key later early)
        → (e h : Bool) → eq key newest ≡ e → held eq capacity key (keys (later ++ early)) ≡ h → OldOrNew least key (refers newest stamp tick gain ∷ later) early
    refers_once from is more true true same before = goes_on (rw (same, before) refl) (more before)
    refers_once from is more true false same before = inr (record { since = rw (same, before) (omega arith); entry = rw (same, before) from })
    refers_once from is more false h other before = goes_on (rw other refl) (more (held_sooner eq exact capacity key newest (keys (later ++ early)) other is))

  pub old_or_new : (least : ℕ) (key : K) (later early : List (Mention K C)) → AllFrom least later → held eq capacity key (keys (later ++ early)) ≡ true → OldOrNew least key later early
  old_or_new least key [] early from is = inl (record { since = refl; entry = refl; held = is })
  old_or_new least key (strays newest gain ∷ later) early from is = strays_once (old_or_new least key later early from is)
    where
      strays_once : OldOrNew least key later early → OldOrNew least key (strays newest gain ∷ later) early
      strays_once (inl old) = inl (record { since = ap (λ (ms : List (Mention K C)). strays newest gain ∷ ms) old.since; entry = old.entry; held = old.held })
      strays_once (inr new) = inr (record { since = omega (arith, new.since); entry = new.entry })
  old_or_new least key (refers newest stamp tick gain ∷ later) early from is =
      refers_once least key newest stamp tick gain later early from.0 is (λ before. old_or_new least key later early from.1 before)
      (eq key newest) (held eq capacity key (keys (later ++ early))) refl refl
