-- A table that stands for the mentions so far stands for one more after it.
use Rattle.std.proofs.Common.{map, ◌≡◌, ℕ, ◌<◌, ◌+◌, suc, Bool, true, false, cond, not, ◌&&◌, ◌||◌, List, [], ◌∷◌, ◌++◌, length, take, min, refl, sym, ap, ◌∙◌, arith, subst, inl, inr, length-append}
use Rattle.std.specs.List.{list_any, AllByRecursion}
use Rattle.std.proofs.lemmas.Bool.{cases_Bool, both_ways}
use Rattle.std.proofs.lemmas.List.{length-take, length-map}
use Rattle.std.proofs.lemmas.List.Folds.{list_any-append}
use Rattle.std.proofs.Math.Bool.{or_comm}
use Rattle.rm_evicting.specs.Mention.{Mention, refers, strays, keys}
use Rattle.rm_evicting.specs.Held.{IsExact, without, distinct, held, is_arrival, last_stamp, last_tick, entry, gains, since_entry, shares, AllBefore, Rising}
use Rattle.rm_evicting.specs.declared.Row.{Row}
use Rattle.rm_evicting.specs.Row.{holds, renewed, room_made, credited, after, table}
use Rattle.rm_evicting.specs.Stands.{IsMeaning, IsRow, Stands}
use Rattle.rm_evicting.proofs.Recency.{IsApart, take_absent, back, any-distinct, held_first, first-in, first-out, absent_sooner, distinct-apart, length-without, take-without_out}
use Rattle.rm_evicting.proofs.Stamps.{entry_before, held_among}
use Rattle.rm_evicting.proofs.RowLemmas.{row_keys, apart_by_entry, at_first-map, each-map, each-push, each-both, each-weaker, holds-keys, each_held, each_other, keys-map, by_entry-map, by_entry-push}
use Rattle.rm_evicting.proofs.Evicting.{Kept, kept}

module _ {K C V : Type 0} (eq : K → K → Bool) (exact : IsExact eq) (means : List C → V → Type 0) (blank : V) (add : V → C → V) (sense : IsMeaning means blank add) where
  symm : (h k : K) → eq h k ≡ eq k h
  symm h k = elim (cases_Bool (eq h k)) [
    | inl e ↦ e ∙ sym (subst (λ j. eq j h ≡ true) (exact.same h k e) (exact.itself h))
    | inr e ↦ e ∙ sym (back eq exact h k e)
  ]

  abbrev credit : K → C → Row K V → Row K V
  credit h c row = cond (eq h row.key) (record row { value = add row.value c }) row

  abbrev renew : K → ℕ → ℕ → Row K V → Row K V
  renew h stamp tick row = cond (eq h row.key) (record row { last = stamp; tick = tick }) row

  credit-key : (h : K) (c : C) (row : Row K V) → (credit h c row).key ≡ row.key
  credit-key h c row = elim (cases_Bool (eq h row.key)) [ inl e ↦ rw e refl | inr e ↦ rw e refl ]

  credit-entry : (h : K) (c : C) (row : Row K V) → (credit h c row).entry ≡ row.entry
  credit-entry h c row = elim (cases_Bool (eq h row.key)) [ inl e ↦ rw e refl | inr e ↦ rw e refl ]

  renew-key : (h : K) (s t : ℕ) (row : Row K V) → (renew h s t row).key ≡ row.key
  renew-key h s t row = elim (cases_Bool (eq h row.key)) [ inl e ↦ rw e refl | inr e ↦ rw e refl ]

  renew-entry : (h : K) (s t : ℕ) (row : Row K V) → (renew h s t row).entry ≡ row.entry
  renew-entry h s t row = elim (cases_Bool (eq h row.key)) [ inl e ↦ rw e refl | inr e ↦ rw e refl ]

  holds-credited : (h k : K) (c : C) (rows : List (Row K V)) → holds eq h (map (credit k c) rows) ≡ holds eq h rows
  holds-credited h k c rows = holds-keys eq exact h (map (credit k c) rows) ∙ ap (list_any (eq h)) (keys-map (credit k c) (credit-key k c) rows) ∙ sym (holds-keys eq exact h rows)

  holds-renewed : (h k : K) (s t : ℕ) (rows : List (Row K V)) → holds eq h (map (renew k s t) rows) ≡ holds eq h rows
  holds-renewed h k s t rows = holds-keys eq exact h (map (renew k s t) rows) ∙ ap (list_any (eq h)) (keys-map (renew k s t) (renew-key k s t) rows) ∙ sym (holds-keys eq exact h rows)

  -- a bad frame
  strays-all : (cap : ℕ) (k : K) (c : C) (r : List (Mention K C)) (rows : List (Row K V)) → Stands eq means cap r rows → Stands eq means cap (strays k c ∷ r) (map (credit k c) rows)
  strays-all cap k c r rows s = record {
    held = λ h. holds-credited h k c rows ∙ s.held h;
    size = length-map rows (credit k c) ∙ s.size;
    each = each-map (IsRow eq means cap r) (IsRow eq means cap (strays k c ∷ r)) (credit k c) each rows s.each;
    order = by_entry-map (credit k c) (credit-entry k c) rows s.order;
  }
    where
      each : (row : Row K V) → IsRow eq means cap r row → IsRow eq means cap (strays k c ∷ r) (credit k c row)
      each row is = elim (cases_Bool (eq k row.key)) [
        | inl e ↦ rw e (record { value = rw (symm row.key k, e) (sense.more (shares eq cap row.key r) c row.value is.value); entry = is.entry; last = is.last; tick = is.tick })
        | inr e ↦ rw e (record { value = rw (symm row.key k, e) is.value; entry = is.entry; last = is.last; tick = is.tick })
      ]

  apart : (cap : ℕ) (r : List (Mention K C)) (rows : List (Row K V)) → Stands eq means cap r rows → IsApart eq exact (row_keys rows)
  apart cap r rows s = apart_by_entry eq exact (λ h. entry eq cap h r) rows (each-weaker (IsRow eq means cap r) (λ row. row.entry ≡ entry eq cap row.key r) (λ row is. is.entry) rows s.each) s.order

  pub stands-strays : (cap : ℕ) (k : K) (c : C) (r : List (Mention K C)) (rows : List (Row K V)) → Stands eq means cap r rows → Stands eq means cap (strays k c ∷ r) (credited eq add k c rows)
  stands-strays cap k c r rows s = subst (Stands eq means cap (strays k c ∷ r)) (sym (at_first-map eq exact k (λ row. record row { value = add row.value c }) rows (apart cap r rows s))) (strays-all cap k c r rows s)

  module _ (n : ℕ) (k : K) (s t : ℕ) (c : C) (r : List (Mention K C)) where
    -- a row after the reference and before what it adds
    record IsTouched (row : Row K V) : Type 0 where
      value : means (gains eq row.key (cond (eq row.key k && is_arrival eq (suc n) row.key (keys r)) [] (since_entry eq (suc n) row.key r))) row.value
      entry : row.entry ≡ cond (eq row.key k && is_arrival eq (suc n) row.key (keys r)) s (entry eq (suc n) row.key r)
      last : row.last ≡ cond (eq row.key k) s (last_stamp eq row.key r)
      tick : row.tick ≡ cond (eq row.key k) t (last_tick eq row.key r)

    credit-touched : (row : Row K V) → IsTouched row → IsRow eq means (suc n) (refers k s t c ∷ r) (credit k c row)
    credit-touched row is = elim (cases_Bool (eq k row.key)) [
      | inl e ↦ rw e (record { value = let y : eq row.key k ≡ true = symm row.key k ∙ e in rw y (sense.more _ c row.value (rw y at is.value)); entry = is.entry; last = is.last; tick = is.tick })
      | inr e ↦ rw e (record { value = let y : eq row.key k ≡ false = symm row.key k ∙ e in rw y (rw y at is.value); entry = is.entry; last = is.last; tick = is.tick })
    ]

    renew-touched : held eq (suc n) k (keys r) ≡ true → (row : Row K V) → IsRow eq means (suc n) r row → IsTouched (renew k s t row)
    renew-touched i row is = elim (cases_Bool (eq k row.key)) [
      | inl e ↦
          let y : eq row.key k ≡ true = symm row.key k ∙ e in
          let a : is_arrival eq (suc n) row.key (keys r) ≡ false = ap not (ap (λ j. held eq (suc n) j (keys r)) (sym (exact.same k row.key e)) ∙ i) in
          rw e (record { value = rw (y, a) is.value; entry = rw (y, a) is.entry; last = rw y refl; tick = rw y refl })
      | inr e ↦
          let y : eq row.key k ≡ false = symm row.key k ∙ e in
          rw e (record { value = rw y is.value; entry = rw y is.entry; last = rw y is.last; tick = rw y is.tick })
    ]

    other-touched : (row : Row K V) → IsRow eq means (suc n) r row → eq k row.key ≡ false → IsTouched row
    other-touched row is e =
        let y : eq row.key k ≡ false = symm row.key k ∙ e in
        record { value = rw y is.value; entry = rw y is.entry; last = rw y is.last; tick = rw y is.tick }

    abbrev entered : Row K V
    entered = record { key = k; value = blank; entry = s; last = s; tick = t }

    entered-touched : held eq (suc n) k (keys r) ≡ false → IsTouched entered
    entered-touched o =
        let y : eq k k ≡ true = exact.itself k in
        let a : is_arrival eq (suc n) k (keys r) ≡ true = ap not o in
        record { value = rw (y, a) sense.nothing; entry = rw (y, a) refl; last = rw y refl; tick = rw y refl }

    abbrev recent : List K
    recent = distinct eq (keys r)

    module _ (rows : List (Row K V)) (stands : Stands eq means (suc n) r rows) where
      stands-held : holds eq k rows ≡ true → Stands eq means (suc n) (refers k s t c ∷ r) (map (credit k c) (map (renew k s t) rows))
      stands-held i = record {
        held = λ h. holds-credited h k c (map (renew k s t) rows) ∙ holds-renewed h k s t rows ∙ here h ∙ sym (first-in eq exact k (suc n) recent (distinct-apart eq exact (keys r)) first h) ∙ sym (held_first eq exact (suc n) h (k ∷ keys r));
        size =
            let a : length (map (credit k c) (map (renew k s t) rows)) ≡ length (map (renew k s t) rows) = length-map (map (renew k s t) rows) (credit k c) in
            let b : length (map (renew k s t) rows) ≡ length rows = length-map rows (renew k s t) in
            let d : suc (length (without eq k recent)) ≡ length recent = length-without eq exact k recent (distinct-apart eq exact (keys r)) (any-distinct eq exact k (keys r) ∙ is_among) in
            a ∙ b ∙ stands.size ∙ ap (min (suc n)) (sym d);
        each = each-map IsTouched (IsRow eq means (suc n) (refers k s t c ∷ r)) (credit k c) credit-touched (map (renew k s t) rows)
            (each-map (IsRow eq means (suc n) r) IsTouched (renew k s t) (renew-touched is_held) rows stands.each);
        order = by_entry-map (credit k c) (credit-entry k c) (map (renew k s t) rows) (by_entry-map (renew k s t) (renew-entry k s t) rows stands.order);
      }
        where
          here : (h : K) → holds eq h rows ≡ list_any (eq h) (take (suc n) recent)
          here h = stands.held h ∙ held_first eq exact (suc n) h (keys r)

          is_held : held eq (suc n) k (keys r) ≡ true
          is_held = sym (stands.held k) ∙ i

          first : list_any (eq k) (take (suc n) recent) ≡ true
          first = sym (here k) ∙ i

          is_among : list_any (eq k) (keys r) ≡ true
          is_among = held_among eq exact (suc n) k (keys r) (ap not is_held)

      stands-new : AllBefore s r → Rising r → holds eq k rows ≡ false → Stands eq means (suc n) (refers k s t c ∷ r) (map (credit k c) (room_made (suc n) rows ++ entered ∷ []))
      stands-new before rising o = record {
        held = λ h. holds-credited h k c (left ++ entered ∷ []) ∙ list_any-append (λ row. eq h row.key) left (entered ∷ []) ∙ or_comm (holds eq h left) (eq h k || false) ∙ drop_false (eq h k) (holds eq h left) ∙ ap (λ b. eq h k || b) (stay.holds h) ∙ sym (first-out eq exact k n recent sooner h) ∙ sym (held_first eq exact (suc n) h (k ∷ keys r));
        size =
            let a : length (map (credit k c) (left ++ entered ∷ [])) ≡ length (left ++ entered ∷ []) = length-map (left ++ entered ∷ []) (credit k c) in
            let b : length (left ++ entered ∷ []) ≡ length left + 1 = length-append left (entered ∷ []) in
            let d : length left ≡ length (take n recent) = stay.size in
            let e : length (take n (without eq k recent)) ≡ length (take n recent) = ap length (take-without_out eq exact k n recent sooner) in
            let f : length (take (suc n) (k ∷ without eq k recent)) ≡ min (suc n) (length (k ∷ without eq k recent)) = length-take (suc n) (k ∷ without eq k recent) in
            let g : length (left ++ entered ∷ []) ≡ length (take (suc n) (k ∷ without eq k recent)) = omega arith in
            a ∙ g ∙ f;
        each = each-map IsTouched (IsRow eq means (suc n) (refers k s t c ∷ r)) (credit k c) credit-touched (left ++ entered ∷ [])
            (each-push IsTouched left entered (each-weaker (λ row. IsRow eq means (suc n) r row × (eq k row.key ≡ false)) IsTouched (λ row b. other-touched row b.0 b.1) left others) (entered-touched (sym (stands.held k) ∙ o)));
        order = by_entry-map (credit k c) (credit-entry k c) (left ++ entered ∷ []) (by_entry-push left entered stay.order earlier);
      }
        where
          left : List (Row K V)
          left = room_made (suc n) rows

          stay : Kept eq exact means n r (room_made (suc n) rows)
          stay = kept eq exact means n r rows stands rising

          outside : list_any (eq k) (take (suc n) recent) ≡ false
          outside = sym (stands.held k ∙ held_first eq exact (suc n) k (keys r)) ∙ o

          sooner : list_any (eq k) (take n recent) ≡ false
          sooner = absent_sooner eq exact k n recent outside

          drop_false : (a b : Bool) → ((a || false) || b) ≡ (a || b)
          drop_false true b = refl
          drop_false false b = refl

          others : AllByRecursion (λ row. IsRow eq means (suc n) r row × (eq k row.key ≡ false)) (room_made (suc n) rows)
          others = each-both (IsRow eq means (suc n) r) (λ row. eq k row.key ≡ false) (room_made (suc n) rows) stay.each (each_other eq exact k (room_made (suc n) rows) (stay.holds k ∙ sooner))

          earlier : AllByRecursion (λ other. other.entry < s) (room_made (suc n) rows)
          earlier = each-weaker (λ row. IsRow eq means (suc n) r row × (holds eq row.key (room_made (suc n) rows) ≡ true)) (λ other. other.entry < s)
              (λ row b. subst (λ e. e < s) (sym (b.0).entry) (entry_before eq exact (suc n) s r before row.key (referred row.key (sym (stay.holds row.key) ∙ b.1))))
              (room_made (suc n) rows) (each-both (IsRow eq means (suc n) r) (λ row. holds eq row.key (room_made (suc n) rows) ≡ true) (room_made (suc n) rows) stay.each (each_held eq exact (room_made (suc n) rows)))
            where
              referred : (h : K) → list_any (eq h) (take n recent) ≡ true → list_any (eq h) (keys r) ≡ true
              referred h i = elim (cases_Bool (list_any (eq h) recent)) [
                | inl e ↦ sym (any-distinct eq exact h (keys r)) ∙ e
                | inr e ↦ absurd (both_ways (list_any (eq h) (take n recent)) (take_absent eq exact h n recent e) i)
              ]

      new_apart : AllBefore s r → Rising r → holds eq k rows ≡ false → IsApart eq exact (row_keys (room_made (suc n) rows ++ entered ∷ []))
      new_apart before rising o = subst (IsApart eq exact) (keys-map (credit k c) (credit-key k c) (room_made (suc n) rows ++ entered ∷ [])) (apart (suc n) (refers k s t c ∷ r) (map (credit k c) (room_made (suc n) rows ++ entered ∷ [])) (stands-new before rising o))

      held-first : holds eq k rows ≡ true → credited eq add k c (renewed eq k s t rows) ≡ map (credit k c) (map (renew k s t) rows)
      held-first i =
          let alone : IsApart eq exact (row_keys rows) = apart (suc n) r rows stands in
          ap (credited eq add k c) (at_first-map eq exact k (λ row. record row { last = s; tick = t }) rows alone)
          ∙ at_first-map eq exact k (λ row. record row { value = add row.value c }) (map (renew k s t) rows) (subst (IsApart eq exact) (sym (keys-map (renew k s t) (renew-key k s t) rows)) alone)

      pub stands-refers : AllBefore s r → Rising r → Stands eq means (suc n) (refers k s t c ∷ r) (after eq blank add (suc n) rows (refers k s t c))
      stands-refers before rising = elim (cases_Bool (holds eq k rows)) [
        | inl e ↦ rw e (subst (Stands eq means (suc n) (refers k s t c ∷ r)) (sym (held-first e)) (stands-held e))
        | inr e ↦ rw e (subst (Stands eq means (suc n) (refers k s t c ∷ r)) (sym (at_first-map eq exact k (λ row. record row { value = add row.value c }) (room_made (suc n) rows ++ entered ∷ []) (new_apart before rising e))) (stands-new before rising e))
      ]

  pub stands_nothing : (cap : ℕ) → Stands eq means cap (let none : List (Mention K C) = [] in none) []
  stands_nothing cap = record { held = λ h. refl; size = omega arith; each = tt; order = tt }

  pub stands-table : (n : ℕ) (r : List (Mention K C)) → Rising r → Stands eq means (suc n) r (table eq blank add (suc n) r)
  stands-table n [] rising = stands_nothing (suc n)
  stands-table n (refers k s t c ∷ r) rising = stands-refers n k s t c r (table eq blank add (suc n) r) (stands-table n r rising.1) rising.0 rising.1
  stands-table n (strays k c ∷ r) rising = stands-strays (suc n) k c r (table eq blank add (suc n) r) (stands-table n r rising)
