-- How many application rows a reference makes.
use Rattle.std.proofs.Common.{◌≡◌, ℕ, suc, Bool, true, false, cond, not, ◌&&◌, ◌||◌, List, [], ◌∷◌, map, filter, length, nat_eq, nat_lt, Option, Some, None, refl, sym, ap, ◌∙◌, arith, inl, inr}
use Rattle.std.specs.List.{list_any, AllByRecursion, count_by}
use Rattle.std.proofs.lemmas.Bool.{cases_Bool, true≢false, le-leb}
use Rattle.std.proofs.lemmas.Bool.Decides.{nat_tests}
use Rattle.std.proofs.lemmas.List.Sums.{length-filter}
use Rattle.rm_evicting.specs.Mention.{Mention, keys, refers}
use Rattle.rm_evicting.specs.Held.{IsExact, distinct, held, is_arrival, gains, since_entry, shares}
use Rattle.rm_evicting.specs.declared.Row.{Row}
use Rattle.rm_evicting.specs.Row.{holds}
use Rattle.rm_evicting.specs.Stands.{IsRow, Stands}
use Rattle.rm_evicting.proofs.Recency.{IsApart, any-distinct, distinct-apart}
use Rattle.rm_evicting.proofs.RankLemmas.{any-filter, apart-filter, same_length}
use Rattle.rm_layers.specs.Event.{Contribution, Event, names, is_ip_on, on_since, span, AreUpTo}
use Rattle.rm_layers.specs.Network.{is_on_path, counts_for, is_some_list, exists}
use Rattle.std.specs.Option.{is_some}
use Rattle.rm_layers.specs.Applications.{Application, Value, Slots, has_slot, AreApart, in_slots, application_of, application_in, made_by, no_applications, value_of}
use Rattle.rm_layers.specs.Upper.{IsValue, AreTuned, applications_before}
use Rattle.rm_layers.proofs.Spans.{on_up_to}

pub nat_exact : IsExact nat_eq
nat_exact = record { itself = λ k. grind (arith, nat_tests); same = λ j k e. grind (arith, nat_tests, e) }

pub slots-any : (p : ℕ) (slots : Slots) → has_slot p slots ≡ list_any (nat_eq p) (in_slots slots)
slots-any p [] = refl
slots-any p (None ∷ slots) = slots-any p slots
slots-any p (Some q ∷ slots) = ap (λ b. nat_eq p q || b) (slots-any p slots)

pub slots-apart : (slots : Slots) → AreApart slots → IsApart nat_eq nat_exact (in_slots slots)
slots-apart [] a = tt
slots-apart (None ∷ slots) a = slots-apart slots a
slots-apart (Some p ∷ slots) a = (sym (slots-any p slots) ∙ a.0, slots-apart slots a.1)

module _ {A G : Type 0} (none : A) (more : A → G → A) where
  pub some_application : (cs : List (Contribution G)) → is_some (application_of none more cs) ≡ is_some_list cs
  some_application [] = refl
  some_application (c ∷ cs) = refl

  pub made-is : (f : ℕ → Bool) (since : ℕ → Option ℕ) (cs : List (Contribution G)) (slots : Slots) → made_by f slots (map (λ slot. application_in none more since slot cs) slots) ≡ length (filter (λ p. f p && not (is_some_list (filter (counts_for p (since p)) cs))) (in_slots slots))
  made-is f since cs [] = refl
  made-is f since cs (None ∷ slots) = made-is f since cs slots
  made-is f since cs (Some p ∷ slots) = rw (made-is f since cs slots, some_application (filter (counts_for p (since p)) cs)) (elim (cases_Bool (f p && not (is_some_list (filter (counts_for p (since p)) cs)))) [
    | inl e ↦ rw e (omega arith)
    | inr e ↦ rw e (omega arith)
  ])

zero_lt : (n : ℕ) → nat_lt 0 (suc n) ≡ true
zero_lt n = grind (arith, nat_tests)

pub filter_off : {G : Type 0} (p : ℕ) (cs : List (Contribution G)) → filter (counts_for p None) cs ≡ []
filter_off p [] = refl
filter_off p (c ∷ cs) = filter_off p cs

-- what the row of k has before a reference to it is counted
abbrev pub so_far : {K G : Type 0} → (K → K → Bool) → ℕ → K → List (Mention K (Contribution G)) → List (Contribution G)
so_far eq cap k r = gains eq k (cond (is_arrival eq cap k (keys r)) [] (since_entry eq cap k r))

module _ {K N A G : Type 0} (eq : K → K → Bool) (exact : IsExact eq) (blank : N) (add : N → G → N) (none : A) (more : A → G → A) where
  module _ (slots : Slots) (since : ℕ → Option ℕ) (cap : ℕ) (r : List (Mention K (Contribution G))) where
    abbrev seen : List (Contribution G) → List (Option (Application A))
    seen cs = map (λ slot. application_in none more since slot cs) slots

    held_before : (k : K) (rows : List (Row K (Value N A))) → AllByRecursion (IsRow eq (IsValue blank add none more slots since) cap r) rows → holds eq k rows ≡ true → applications_before eq blank add none more cap slots k rows ≡ seen (shares eq cap k r)
    held_before k [] each i = absurd (true≢false (sym i))
    held_before k (row ∷ rows) each i = elim (cases_Bool (eq k row.key)) [
      | inl e ↦
          let its : row.value ≡ value_of blank add none more slots since (shares eq cap row.key r) = each.0.value in
          rw e (ap (λ (v : Value N A). v.applications) its ∙ ap (λ j. seen (shares eq cap j r)) (sym (exact.same k row.key e)))
      | inr e ↦ rw e (held_before k rows each.1 (rw e at i))
    ]

    absent_before : (k : K) (rows : List (Row K (Value N A))) → holds eq k rows ≡ false → applications_before eq blank add none more cap slots k rows ≡ no_applications slots
    absent_before k [] o = refl
    absent_before k (row ∷ rows) o = elim (cases_Bool (eq k row.key)) [
      | inl e ↦ absurd (true≢false (rw e at o))
      | inr e ↦ rw e (absent_before k rows (rw e at o))
    ]

    nothing_seen : (some : Slots) → no_applications some ≡ map (λ slot. application_in none more since slot (let nothing : List (Contribution G) = [] in nothing)) some
    nothing_seen [] = refl
    nothing_seen (None ∷ some) = ap (λ l. None ∷ l) (nothing_seen some)
    nothing_seen (Some p ∷ some) = ap (λ l. None ∷ l) (nothing_seen some)

    pub before-is : (k : K) (rows : List (Row K (Value N A))) → Stands eq (IsValue blank add none more slots since) cap r rows → applications_before eq blank add none more cap slots k rows ≡ seen (so_far eq cap k r)
    before-is k rows stands = elim (cases_Bool (holds eq k rows)) [
      | inl i ↦
          let a : is_arrival eq cap k (keys r) ≡ false = ap not (sym (stands.held k) ∙ i) in
          held_before k rows stands.each i ∙ ap (λ b. seen (gains eq k (cond b [] (since_entry eq cap k r)))) (sym a)
      | inr o ↦
          let a : is_arrival eq cap k (keys r) ≡ true = ap not (sym (stands.held k) ∙ o) in
          absent_before k rows o ∙ nothing_seen slots ∙ ap (λ b. seen (gains eq k (cond b [] (since_entry eq cap k r)))) (sym a)
    ]

module _ {K G : Type 0} (eq : K → K → Bool) (exact : IsExact eq) (n : ℕ) (k : K) (c : Contribution G) (r : List (Event K G)) (on : is_ip_on r ≡ true) (up : AreUpTo c.stamp r) where
  abbrev cs : List (Contribution G)
  cs = so_far eq (suc n) k (span r)

  abbrev here : ℕ → Bool
  here p = is_some_list (filter (counts_for p (on_since p r)) cs)

  before_it : (p : ℕ) → exists eq (suc n) k p r ≡ here p
  before_it p = elim (cases_Bool (held eq (suc n) k (keys (span r)))) [
    | inl e ↦ rw e refl
    | inr e ↦ rw e refl
  ]

  held_now : held eq (suc n) k (k ∷ keys (span r)) ≡ true
  held_now = rw (exact.itself k) (zero_lt n)

  gained_now : (r' : List (Mention K (Contribution G))) → gains eq k (refers k c.stamp c.tick c ∷ r') ≡ c ∷ gains eq k r'
  gained_now r' = rw (exact.itself k) refl

  shares_now : shares eq (suc n) k (span (names k c ∷ r)) ≡ c ∷ cs
  shares_now = rw (on, exact.itself k) refl

  keys_now : keys (span (names k c ∷ r)) ≡ k ∷ keys (span r)
  keys_now = rw on refl

  with_it : (p : ℕ) → is_on_path p c ≡ true → exists eq (suc n) k p (names k c ∷ r) ≡ is_some (on_since p r)
  with_it p i = rw (keys_now, held_now, shares_now) (by_since (on_since p r) refl)
    where
      by_since : (o : Option ℕ) → on_since p r ≡ o → is_some_list (filter (counts_for p o) (c ∷ cs)) ≡ is_some o
      by_since None e = rw (filter_off p cs) refl
      by_since (Some m) e = rw (le-leb m c.stamp (on_up_to c.stamp p m r up e), i) refl

  -- those that a reference makes are the protocols on its path that are on and of which there was none
  count_is : (p : ℕ) → (is_on_path p c && (exists eq (suc n) k p (names k c ∷ r) && not (exists eq (suc n) k p r))) ≡ (is_some (on_since p r) && (is_on_path p c && not (here p)))
  count_is p = elim (cases_Bool (is_on_path p c)) [
    | inl i ↦ rw (i, with_it p i, before_it p) refl
    | inr o ↦ rw o (sym (and_off (is_some (on_since p r))))
  ]
    where
      and_off : (b : Bool) → (b && false) ≡ false
      and_off true = refl
      and_off false = refl

  pub made_now : (slots : Slots) → AreTuned slots r → length (filter (λ p. is_on_path p c && not (here p)) (in_slots slots)) ≡ count_by (λ p. exists eq (suc n) k p (names k c ∷ r) && not (exists eq (suc n) k p r)) (distinct nat_eq c.path)
  made_now slots tuned =
      let P : ℕ → Bool = λ p. exists eq (suc n) k p (names k c ∷ r) && not (exists eq (suc n) k p r) in
      let Q : ℕ → Bool = λ p. is_on_path p c && not (here p) in
      same_length nat_eq nat_exact (filter Q (in_slots slots)) (filter P (distinct nat_eq c.path))
      (apart-filter nat_eq nat_exact Q (in_slots slots) (slots-apart slots tuned.apart))
      (apart-filter nat_eq nat_exact P (distinct nat_eq c.path) (distinct-apart nat_eq nat_exact c.path))
      (λ p. any-filter nat_eq nat_exact Q p (in_slots slots) ∙ ap (λ b. b && Q p) (sym (slots-any p slots) ∙ tuned.tuned p) ∙ sym (count_is p)
      ∙ ap (λ b. b && P p) (sym (any-distinct nat_eq nat_exact p c.path)) ∙ sym (any-filter nat_eq nat_exact P p (distinct nat_eq c.path)))
      ∙ length-filter P (distinct nat_eq c.path)
