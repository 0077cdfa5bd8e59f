-- An application row lasts no longer than its network row; and no reference makes a row of a protocol that isn't on its path.
use Rattle.std.proofs.Common.{◌≡◌, ℕ, ◌≤◌, Bool, true, false, not, ◌&&◌, List, [], ◌∷◌, filter, nat_le, nat_lt, Option, Some, None, refl, sym, ap, ◌∙◌, arith, inl, inr}
use Rattle.std.specs.List.{list_any, AllByRecursion}
use Rattle.std.proofs.lemmas.Bool.{cases_Bool, true≢false}
use Rattle.rm_evicting.specs.Mention.{keys}
use Rattle.rm_evicting.specs.Held.{IsExact, held, is_arrival, last_tick}
use Rattle.rm_layers.specs.Event.{Contribution, Event, names, turns, turns_ip, begins, is_ip_on, on_since, span, AreInTime, AreTimed}
use Rattle.rm_layers.specs.Network.{is_on_path, counts_for, is_some_list, contributions, application_contributions, exists, entry_tick, first_tick, newest_tick}
use Rattle.rm_layers.specs.Applications.{created_of}
use Rattle.rm_layers.specs.Marks.{NetworkLasts, ApplicationLasts}
use Rattle.rm_layers.proofs.Spans.{EachGain, each-shares}

module _ {G : Type 0} (t : ℕ) where
  newest-within : (f : Contribution G → Bool) (cs : List (Contribution G)) → AllByRecursion (λ c. c.tick ≤ t) cs → newest_tick (filter f cs) ≤ t
  newest-within f [] a = omega arith
  newest-within f (c ∷ cs) a = elim (cases_Bool (f c)) [ inl e ↦ rw e a.0 | inr e ↦ rw e (newest-within f cs a.1) ]

module _ {K G : Type 0} where
  contributions_in_time : (t : ℕ) (r : List (Event K G)) → AreInTime t r → EachGain (λ (c : Contribution G). c.tick ≤ t) (span r)
  contributions_in_time t [] a = tt
  contributions_in_time t (names k c ∷ r) a = elim (cases_Bool (is_ip_on r)) [ inl e ↦ rw e (a.0, contributions_in_time t r a.1) | inr e ↦ rw e (contributions_in_time t r a.1) ]
  contributions_in_time t (turns p n on ∷ r) a = contributions_in_time t r a
  contributions_in_time t (turns_ip on ∷ r) a = tt
  contributions_in_time t (begins ∷ r) a = tt

module _ {K G : Type 0} (eq : K → K → Bool) (cap : ℕ) where
  -- each contribution of a row came by the tick of its last reference
  by_last : (h : K) (r : List (Event K G)) → AreTimed r → AllByRecursion (λ c. c.tick ≤ last_tick eq h (span r)) (contributions eq cap h r)
  by_last h [] a = tt
  by_last h (names k c ∷ r) a = elim (cases_Bool (is_ip_on r)) [
    | inl on ↦ rw on (elim (cases_Bool (eq h k)) [
      | inl e ↦ elim (cases_Bool (is_arrival eq cap h (keys (span r)))) [
        | inl y ↦ rw (e, y) (omega arith, tt)
        | inr y ↦ rw (e, y) (omega arith, each-shares eq cap (λ d. d.tick ≤ c.tick) h (span r) (contributions_in_time c.tick r a.0))
      ]
      | inr e ↦ rw e (by_last h r a.1)
    ])
    | inr off ↦ rw off (by_last h r a.1)
  ]
  by_last h (turns p n on ∷ r) a = by_last h r a
  by_last h (turns_ip on ∷ r) a = tt
  by_last h (begins ∷ r) a = tt

  pub lasts-within : (h : K) (p u v : ℕ) (r : List (Event K G)) → AreTimed r → ApplicationLasts eq cap r (h, p) u → NetworkLasts eq cap r h v → u ≤ v
  lasts-within h p u v r a application key =
      let its : u ≡ newest_tick (application_contributions eq cap h p r) = application.1 in
      let last : v ≡ last_tick eq h (span r) = key.1 in
      let within : newest_tick (application_contributions eq cap h p r) ≤ last_tick eq h (span r) = newest-within (last_tick eq h (span r)) (counts_for p (on_since p r)) (contributions eq cap h r) (by_last h r a) in
      omega arith

right : (a b : Bool) → (a && b) ≡ true → b ≡ true
right true b e = e
right false b e = absurd (true≢false (sym e))

module _ {K G : Type 0} (eq : K → K → Bool) (exact : IsExact eq) (cap : ℕ) where
  uncounted : (p : ℕ) (o : Option ℕ) (c : Contribution G) → is_on_path p c ≡ false → counts_for p o c ≡ false
  uncounted p None c e = refl
  uncounted p (Some s) c e = rw e (off (nat_le s c.stamp))
    where
      off : (b : Bool) → (b && false) ≡ false
      off true = refl
      off false = refl

  -- a row of a protocol that isn't on the path of a reference isn't made by it
  pub made_by_path : (k : K) (p : ℕ) (c : Contribution G) (r : List (Event K G)) → is_on_path p c ≡ false → exists eq cap k p (names k c ∷ r) ≡ true → exists eq cap k p r ≡ true
  made_by_path k p c r off new = elim (cases_Bool (is_ip_on r)) [
    | inl on ↦ elim (cases_Bool (held eq cap k (keys (span r)))) [
      | inl e ↦
          let h : (nat_lt 0 cap && is_some_list (application_contributions eq cap k p r)) ≡ true = rw (on, exact.itself k, e, uncounted p (on_since p r) c off) at new in
          rw e (right (nat_lt 0 cap) (is_some_list (application_contributions eq cap k p r)) h)
      | inr e ↦
          let h : (nat_lt 0 cap && false) ≡ true = rw (on, exact.itself k, e, uncounted p (on_since p r) c off) at new in
          absurd (true≢false (sym (right (nat_lt 0 cap) false h)))
    ]
    | inr o ↦ rw o at new
  ]

module _ {K G : Type 0} (eq : K → K → Bool) (cap : ℕ) where
  some_contribution : (h : K) (r : List (Event K G)) → list_any (eq h) (keys (span r)) ≡ true → is_some_list (contributions eq cap h r) ≡ true
  some_contribution h [] i = absurd (true≢false (sym i))
  some_contribution h (names k c ∷ r) i = elim (cases_Bool (is_ip_on r)) [
    | inl on ↦ elim (cases_Bool (eq h k)) [
      | inl e ↦ rw (on, e) refl
      | inr e ↦ rw (on, e) (some_contribution h r (rw (on, e) at i))
    ]
    | inr off ↦ rw off (some_contribution h r (rw off at i))
  ]
  some_contribution h (turns p s on ∷ r) i = some_contribution h r i
  some_contribution h (turns_ip on ∷ r) i = absurd (true≢false (sym i))
  some_contribution h (begins ∷ r) i = absurd (true≢false (sym i))

  first_later : (c : Contribution G) (cs : List (Contribution G)) → is_some_list cs ≡ true → first_tick (c ∷ cs) ≡ first_tick cs
  first_later c [] i = absurd (true≢false (sym i))
  first_later c (d ∷ cs) i = refl

  -- the first contribution to a row is its entry
  pub created_at_entry : (h : K) (r : List (Event K G)) → list_any (eq h) (keys (span r)) ≡ true → entry_tick eq cap h r ≡ first_tick (contributions eq cap h r)
  created_at_entry h [] i = absurd (true≢false (sym i))
  created_at_entry h (names k c ∷ r) i = elim (cases_Bool (is_ip_on r)) [
    | inl on ↦ elim (cases_Bool (eq h k)) [
      | inl e ↦ elim (cases_Bool (is_arrival eq cap h (keys (span r)))) [
        | inl y ↦ rw (on, e, y) refl
        | inr y ↦
            let among : list_any (eq h) (keys (span r)) ≡ true = not_new (list_any (eq h) (keys (span r))) _ y in
            rw (on, e, y) (created_at_entry h r among ∙ sym (first_later c (contributions eq cap h r) (some_contribution h r among)))
      ]
      | inr e ↦ rw (on, e) (created_at_entry h r (rw (on, e) at i))
    ]
    | inr off ↦ rw off (created_at_entry h r (rw off at i))
  ]
    where
      not_new : (a b : Bool) → not (a && b) ≡ false → a ≡ true
      not_new true b e = refl
      not_new false b e = absurd (true≢false e)
  created_at_entry h (turns p s on ∷ r) i = created_at_entry h r i
  created_at_entry h (turns_ip on ∷ r) i = absurd (true≢false (sym i))
  created_at_entry h (begins ∷ r) i = absurd (true≢false (sym i))

  created_first : (cs : List (Contribution G)) → is_some_list cs ≡ true → created_of cs ≡ Some (first_tick cs)
  created_first [] i = absurd (true≢false (sym i))
  created_first (c ∷ cs) i = refl

  -- so the tick of a row's first contribution is that of its entry
  pub created-shown : (h : K) (r : List (Event K G)) → list_any (eq h) (keys (span r)) ≡ true → created_of (contributions eq cap h r) ≡ Some (entry_tick eq cap h r)
  created-shown h r i = created_first (contributions eq cap h r) (some_contribution h r i) ∙ ap (λ t. Some t) (sym (created_at_entry h r i))
