-- What rows show, and how many there are.
use Rattle.std.proofs.Common.{◌≡◌, ℕ, ◌+◌, Bool, true, false, cond, not, ◌&&◌, ◌||◌, List, [], ◌∷◌, map, filter, length, nat_eq, nat_le, Option, Some, None, refl, sym, ap, ◌∙◌, arith, inl, inr}
use Rattle.std.specs.List.{list_any, AllByRecursion, sum_by, flat_map}
use Rattle.std.proofs.lemmas.Bool.{cases_Bool, true≢false}
use Rattle.std.proofs.lemmas.Bool.Decides.{nat_tests}
use Rattle.std.proofs.lemmas.List.Sums.{sum_by-cons}
use Rattle.std.proofs.lemmas.List.Folds.{list_any-append}
use Rattle.rm_evicting.specs.Mention.{keys}
use Rattle.rm_evicting.specs.Held.{IsExact, without, distinct, held, held_keys, entry}
use Rattle.rm_evicting.specs.declared.Row.{Row}
use Rattle.rm_evicting.specs.Row.{holds}
use Rattle.rm_evicting.specs.Stands.{IsRow, Stands}
use Rattle.rm_evicting.proofs.Recency.{IsApart, any-distinct, distinct-apart}
use Rattle.rm_evicting.proofs.RowLemmas.{row_keys, each-weaker, each_held, each-both, apart_by_entry}
use Rattle.rm_evicting.proofs.RankLemmas.{any-filter, apart-filter, same_length, members}
use Rattle.rm_layers.specs.Event.{Contribution, Event, on_since, span}
use Rattle.rm_layers.specs.Network.{is_on_path, counts_for, is_some_list, contributions, application_contributions, exists, is_held, entry_tick, first_tick, newest_tick, applications_of, application_rows}
use Rattle.rm_evicting.specs.Stands.{total}
use Rattle.rm_layers.specs.Marks.{ApplicationLasts}
use Rattle.std.specs.Option.{is_some}
use Rattle.rm_layers.specs.Applications.{Application, Value, Slots, has_slot, in_slots, application_of, application_in, application_at, used}
use Rattle.rm_layers.specs.Upper.{IsValue, AreTuned, applications_held}
use Rattle.rm_layers.proofs.Ticks.{created-shown}
use Rattle.rm_layers.proofs.Made.{nat_exact, slots-any, slots-apart, filter_off, some_application}

module _ {K N A G : Type 0} (eq : K → K → Bool) (exact : IsExact eq) (blank : N) (add : N → G → N) (none : A) (more : A → G → A) (cap : ℕ) (slots : Slots) (r : List (Event K G)) where
  -- the tick of a row's entry, and its sums
  pub network-shown : (row : Row K (Value N A)) → IsRow eq (IsValue blank add none more slots (λ p. on_since p r)) cap (span r) row → held eq cap row.key (keys (span r)) ≡ true
      → (row.value.created ≡ Some (entry_tick eq cap row.key r)) × (row.value.sums ≡ total blank (λ a c. add a c.gain) (contributions eq cap row.key r))
  network-shown row is there =
      (ap (λ (v : Value N A). v.created) is.value ∙ created-shown eq cap row.key r (left _ _ there), ap (λ (v : Value N A). v.sums) is.value)
    where
      left : (a b : Bool) → (a && b) ≡ true → a ≡ true
      left true b e = refl
      left false b e = absurd (true≢false (sym e))

module _ {A G : Type 0} (none : A) (more : A → G → A) (since : ℕ → Option ℕ) (cs : List (Contribution G)) where
  abbrev seen : Slots → List (Option (Application A))
  seen slots = map (λ slot. application_in none more since slot cs) slots

  abbrev application : ℕ → Option (Application A)
  application p = application_of none more (filter (counts_for p (since p)) cs)

  in_its_slot : (p : ℕ) (slots : Slots) → has_slot p slots ≡ true → application_at p slots (seen slots) ≡ application p
  in_its_slot p [] i = absurd (true≢false (sym i))
  in_its_slot p (None ∷ slots) i = in_its_slot p slots i
  in_its_slot p (Some q ∷ slots) i = elim (cases_Bool (nat_eq p q)) [
    | inl e ↦ let same : p ≡ q = grind (arith, nat_tests, e) in rw e (ap application (sym same))
    | inr e ↦ rw e (in_its_slot p slots (rw e at i))
  ]

  in_none : (p : ℕ) (slots : Slots) → has_slot p slots ≡ false → application_at p slots (seen slots) ≡ None
  in_none p [] o = refl
  in_none p (None ∷ slots) o = in_none p slots o
  in_none p (Some q ∷ slots) o = elim (cases_Bool (nat_eq p q)) [
    | inl e ↦ absurd (true≢false (rw e at o))
    | inr e ↦ rw e (in_none p slots (rw e at o))
  ]

  pub application_at-is : (p : ℕ) (slots : Slots) → has_slot p slots ≡ is_some (since p) → application_at p slots (seen slots) ≡ application p
  application_at-is p slots tuned = elim (cases_Bool (has_slot p slots)) [
    | inl i ↦ in_its_slot p slots i
    | inr o ↦ in_none p slots o ∙ off (since p) (sym (sym tuned ∙ o))
  ]
    where
      off : (o : Option ℕ) → false ≡ is_some o → None ≡ application_of none more (filter (counts_for p o) cs)
      off None e = rw (filter_off p cs) refl
      off (Some m) e = absurd (true≢false (sym e))

  abbrev has : ℕ → Bool
  has p = is_some_list (filter (counts_for p (since p)) cs)

  pub used-is : (slots : Slots) → used (seen slots) ≡ length (filter has (in_slots slots))
  used-is [] = refl
  used-is (None ∷ slots) = sum_by-cons (λ a. cond (is_some a) 1 0) None (seen slots) ∙ (let rest : used (seen slots) ≡ length (filter has (in_slots slots)) = used-is slots in omega arith)
  used-is (Some p ∷ slots) = sum_by-cons (λ a. cond (is_some a) 1 0) (application p) (seen slots) ∙ ap (λ b. cond b 1 0 + used (seen slots)) (some_application none more (filter (counts_for p (since p)) cs)) ∙ elim (cases_Bool (has p)) [
    | inl e ↦ rw e (let rest : used (seen slots) ≡ length (filter has (in_slots slots)) = used-is slots in omega arith)
    | inr e ↦ rw e (let rest : used (seen slots) ≡ length (filter has (in_slots slots)) = used-is slots in omega arith)
  ]

-- a protocol of which something counts is on a path
on_some_path : {G : Type 0} (p : ℕ) (o : Option ℕ) (cs : List (Contribution G)) → is_some_list (filter (counts_for p o) cs) ≡ true → list_any (nat_eq p) (flat_map (λ c. c.path) cs) ≡ true
on_some_path p None cs i = absurd (true≢false (sym i ∙ ap is_some_list (filter_off p cs)))
on_some_path p (Some m) [] i = absurd (true≢false (sym i))
on_some_path p (Some m) (c ∷ cs) i = list_any-append (nat_eq p) c.path (flat_map (λ d. d.path) cs) ∙ elim (cases_Bool (is_on_path p c)) [
  | inl e ↦ rw e refl
  | inr e ↦ rw e (on_some_path p (Some m) cs (later (nat_le m c.stamp) e))
]
  where
    later : (b : Bool) → is_on_path p c ≡ false → is_some_list (filter (counts_for p (Some m)) cs) ≡ true
    later b e = elim (cases_Bool (nat_le m c.stamp)) [ inl y ↦ rw (y, e) at i | inr y ↦ rw y at i ]

some_since : {G : Type 0} (p : ℕ) (o : Option ℕ) (cs : List (Contribution G)) → is_some_list (filter (counts_for p o) cs) ≡ true → is_some o ≡ true
some_since p None cs i = absurd (true≢false (sym i ∙ ap is_some_list (filter_off p cs)))
some_since p (Some m) cs i = refl

module _ {K : Type 0} (eq : K → K → Bool) (exact : IsExact eq) (f : K → ℕ) where
  without_none : (k : K) (xs : List K) → list_any (eq k) xs ≡ false → without eq k xs ≡ xs
  without_none k [] o = refl
  without_none k (x ∷ xs) o = elim (cases_Bool (eq k x)) [
    | inl e ↦ absurd (true≢false (rw e at o))
    | inr e ↦ rw e (ap (λ l. x ∷ l) (without_none k xs (rw e at o)))
  ]

  sum-without : (k : K) (xs : List K) → IsApart eq exact xs → list_any (eq k) xs ≡ true → f k + sum_by f (without eq k xs) ≡ sum_by f xs
  sum-without k [] a i = absurd (true≢false (sym i))
  sum-without k (x ∷ xs) a i = elim (cases_Bool (eq k x)) [
    | inl e ↦
        let off : list_any (eq k) xs ≡ false = ap (λ j. list_any (eq j) xs) (exact.same k x e) ∙ a.0 in
        rw (e, without_none k xs off) (ap (λ j. f j + sum_by f xs) (exact.same k x e) ∙ sym (sum_by-cons f x xs))
    | inr e ↦
        let rest : f k + sum_by f (without eq k xs) ≡ sum_by f xs = sum-without k xs a.1 (rw e at i) in
        let here : sum_by f (x ∷ without eq k xs) ≡ f x + sum_by f (without eq k xs) = sum_by-cons f x (without eq k xs) in
        let whole : sum_by f (x ∷ xs) ≡ f x + sum_by f xs = sum_by-cons f x xs in
        rw e (omega arith)
  ]

  and_off : (b : Bool) → (b && false) ≡ false
  and_off true = refl
  and_off false = refl

  -- keys apart with the same members have the same sum
  pub same_sum : (xs ys : List K) → IsApart eq exact xs → IsApart eq exact ys → ((h : K) → list_any (eq h) xs ≡ list_any (eq h) ys) → sum_by f xs ≡ sum_by f ys
  same_sum [] [] a b same = refl
  same_sum [] (y ∷ ys) a b same = absurd (true≢false (sym (same y ∙ ap (λ t. t || list_any (eq y) ys) (exact.itself y))))
  same_sum (x ∷ xs) ys a b same =
      let here : list_any (eq x) ys ≡ true = sym (same x) ∙ ap (λ t. t || list_any (eq x) xs) (exact.itself x) in
      sum_by-cons f x xs ∙ ap (λ m. f x + m) (same_sum xs (without eq x ys) a.1 (apart-filter eq exact (λ j. not (eq x j)) ys b) (λ h. rest h ∙ sym (any-filter eq exact (λ j. not (eq x j)) h ys))) ∙ sum-without x ys b here
    where
      rest : (h : K) → list_any (eq h) xs ≡ (list_any (eq h) ys && not (eq x h))
      rest h = elim (cases_Bool (eq x h)) [
        | inl e ↦ rw e (ap (λ j. list_any (eq j) xs) (sym (exact.same x h e)) ∙ a.0 ∙ sym (and_off (list_any (eq h) ys)))
        | inr e ↦ rw e (others e (eq h x) refl (same h) ∙ sym (and_on (list_any (eq h) ys)))
      ]
        where
          and_on : (b : Bool) → (b && true) ≡ b
          and_on true = refl
          and_on false = refl

          others : eq x h ≡ false → (b : Bool) → eq h x ≡ b → (b || list_any (eq h) xs) ≡ list_any (eq h) ys → list_any (eq h) xs ≡ list_any (eq h) ys
          others e true y s = absurd (true≢false (sym (exact.itself x) ∙ ap (eq x) (sym (exact.same h x y)) ∙ e))
          others e false y s = s

module _ {K N A G : Type 0} (eq : K → K → Bool) (exact : IsExact eq) (blank : N) (add : N → G → N) (none : A) (more : A → G → A) (cap : ℕ) (slots : Slots) (r : List (Event K G)) (tuned : AreTuned slots r) where
  abbrev Means : List (Contribution G) → Value N A → Type 0
  Means = IsValue blank add none more slots (λ p. on_since p r)

  -- the application row of a protocol, in the row of its key
  pub application-shown : (row : Row K (Value N A)) → IsRow eq Means cap (span r) row → (p : ℕ) → application_at p slots row.value.applications ≡ application_of none more (application_contributions eq cap row.key p r)
  application-shown row is p = ap (λ (v : Value N A). application_at p slots v.applications) is.value ∙ application_at-is none more (λ q. on_since q r) (contributions eq cap row.key r) p slots (tuned.tuned p)

  -- it is there where it exists
  pub application-exists : (row : Row K (Value N A)) → IsRow eq Means cap (span r) row → held eq cap row.key (keys (span r)) ≡ true → (p : ℕ) → is_some (application_at p slots row.value.applications) ≡ exists eq cap row.key p r
  application-exists row is held p = ap is_some (application-shown row is p) ∙ some_application none more (application_contributions eq cap row.key p r) ∙ ap (λ b. b && is_some_list (application_contributions eq cap row.key p r)) (sym held)

  used-row : (row : Row K (Value N A)) → IsRow eq Means cap (span r) row → held eq cap row.key (keys (span r)) ≡ true → used row.value.applications ≡ length (applications_of eq cap row.key r)
  used-row row is held =
      ap (λ (v : Value N A). used v.applications) is.value ∙ used-is none more (λ q. on_since q r) (contributions eq cap row.key r) slots
      ∙ same_length nat_eq nat_exact (filter there (in_slots slots)) (applications_of eq cap row.key r)
      (apart-filter nat_eq nat_exact there (in_slots slots) (slots-apart slots tuned.apart))
      (apart-filter nat_eq nat_exact (λ p. exists eq cap row.key p r) (distinct nat_eq (flat_map (λ c. c.path) (contributions eq cap row.key r))) (distinct-apart nat_eq nat_exact (flat_map (λ c. c.path) (contributions eq cap row.key r))))
      (λ p. any-filter nat_eq nat_exact there p (in_slots slots) ∙ ap (λ b. b && there p) (sym (slots-any p slots) ∙ tuned.tuned p) ∙ by_there p ∙ ap (λ b. b && exists eq cap row.key p r) (sym (any-distinct nat_eq nat_exact p (flat_map (λ c. c.path) (contributions eq cap row.key r)))) ∙ sym (any-filter nat_eq nat_exact (λ p. exists eq cap row.key p r) p (distinct nat_eq (flat_map (λ c. c.path) (contributions eq cap row.key r)))))
    where
      there : ℕ → Bool
      there p = is_some_list (filter (counts_for p (on_since p r)) (contributions eq cap row.key r))

      by_there : (p : ℕ) → (is_some (on_since p r) && there p) ≡ (list_any (nat_eq p) (flat_map (λ c. c.path) (contributions eq cap row.key r)) && exists eq cap row.key p r)
      by_there p = elim (cases_Bool (there p)) [
        | inl e ↦ rw (e, some_since p (on_since p r) (contributions eq cap row.key r) e, on_some_path p (on_since p r) (contributions eq cap row.key r) e, held) refl
        | inr e ↦ rw (e, held) (off (is_some (on_since p r)) ∙ sym (off (list_any (nat_eq p) (flat_map (λ c. c.path) (contributions eq cap row.key r)))))
      ]
        where
          off : (b : Bool) → (b && false) ≡ false
          off true = refl
          off false = refl

  sum-rows : (f : K → ℕ) (rows : List (Row K (Value N A))) → AllByRecursion (λ row. used row.value.applications ≡ f row.key) rows → applications_held rows ≡ sum_by f (row_keys rows)
  sum-rows f [] a = refl
  sum-rows f (row ∷ rows) a = sum_by-cons (λ (x : Row K (Value N A)). used x.value.applications) row rows ∙ (let here : used row.value.applications ≡ f row.key = a.0 in let rest : applications_held rows ≡ sum_by f (row_keys rows) = sum-rows f rows a.1 in omega arith) ∙ sym (sum_by-cons f row.key (row_keys rows))

  -- as many application rows are held as exist
  pub applications_held-is : (rows : List (Row K (Value N A))) → Stands eq Means cap (span r) rows → applications_held rows ≡ application_rows eq cap r
  applications_held-is rows s =
      sum-rows (λ h. length (applications_of eq cap h r)) rows
      (each-weaker (λ row. IsRow eq Means cap (span r) row × (holds eq row.key rows ≡ true)) (λ row. used row.value.applications ≡ length (applications_of eq cap row.key r)) (λ row b. used-row row b.0 (sym (s.held row.key) ∙ b.1)) rows
      (each-both (IsRow eq Means cap (span r)) (λ row. holds eq row.key rows ≡ true) rows s.each (each_held eq exact rows)))
      ∙ same_sum eq exact (λ h. length (applications_of eq cap h r)) (row_keys rows) (held_keys eq cap (keys (span r)))
      (apart_by_entry eq exact (λ h. entry eq cap h (span r)) rows (each-weaker (IsRow eq Means cap (span r)) (λ row. row.entry ≡ entry eq cap row.key (span r)) (λ row is. is.entry) rows s.each) s.order)
      (apart-filter eq exact (λ k. held eq cap k (keys (span r))) (distinct eq (keys (span r))) (distinct-apart eq exact (keys (span r))))
      (λ h. sym (members eq exact Means cap (span r) rows s h))

module _ {K N A G : Type 0} (eq : K → K → Bool) (exact : IsExact eq) (blank : N) (add : N → G → N) (none : A) (more : A → G → A) (cap : ℕ) (slots : Slots) (r : List (Event K G)) (tuned : AreTuned slots r) where
  shown-tick : (cs : List (Contribution G)) (application : Application A) → application_of none more cs ≡ Some application → (is_some_list cs ≡ true) × (application.tick ≡ newest_tick cs)
  shown-tick [] application e = cc
  shown-tick (c ∷ cs) application e = (refl, cc)

  some_tick : (cs : List (Contribution G)) → is_some_list cs ≡ true → (application : Application A) × (application_of none more cs ≡ Some application) × (application.tick ≡ newest_tick cs)
  some_tick [] i = absurd (true≢false (sym i))
  some_tick (c ∷ cs) i = (record { created = first_tick (c ∷ cs); tick = c.tick; sums = total none (λ a d. more a d.gain) (c ∷ cs) }, refl, refl)

  -- what a row shows of a protocol is its application row, with the tick of its last contribution
  pub shows-lasts : (row : Row K (Value N A)) → IsRow eq (IsValue blank add none more slots (λ p. on_since p r)) cap (span r) row → is_held eq cap row.key r ≡ true → (p : ℕ) (application : Application A) → application_at p slots row.value.applications ≡ Some application → ApplicationLasts eq cap r (row.key, p) application.tick
  shows-lasts row is held p application e =
      let t = shown-tick (application_contributions eq cap row.key p r) application (sym (application-shown eq exact blank add none more cap slots r tuned row is p) ∙ e) in
      (rw held t.0, t.1)

  pub lasts-shows : (row : Row K (Value N A)) → IsRow eq (IsValue blank add none more slots (λ p. on_since p r)) cap (span r) row → (p u : ℕ) → ApplicationLasts eq cap r (row.key, p) u → (application : Application A) × (application_at p slots row.value.applications ≡ Some application) × (u ≡ application.tick)
  lasts-shows row is p u l =
      let some : is_some_list (application_contributions eq cap row.key p r) ≡ true = both (is_held eq cap row.key r) (is_some_list (application_contributions eq cap row.key p r)) l.0 in
      let t = some_tick (application_contributions eq cap row.key p r) some in
      (t.0, application-shown eq exact blank add none more cap slots r tuned row is p ∙ t.1, l.1 ∙ sym t.2)
    where
      both : (a b : Bool) → (a && b) ≡ true → b ≡ true
      both true b e = e
      both false b e = absurd (true≢false (sym e))
