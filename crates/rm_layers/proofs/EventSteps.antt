-- Rows and counts that stand for the events so far stand for one more after it.
use Rattle.std.proofs.Common.{◌≡◌, ℕ, ◌+◌, ◌<◌, zero, suc, Bool, true, false, cond, not, ◌&&◌, List, [], ◌∷◌, ◌++◌, map, nat_eq, Option, Some, None, refl, sym, ap, ◌∙◌, arith, subst, inl, inr}
use Rattle.std.specs.List.{list_any, AllByRecursion, count_by}
use Rattle.std.proofs.lemmas.List.Sums.{sum_by-cons}
use Rattle.std.proofs.lemmas.Bool.{cases_Bool, true≢false, le-leb}
use Rattle.std.proofs.lemmas.List.{length-map}
use Rattle.rm_evicting.specs.Mention.{Mention, keys, refers}
use Rattle.rm_evicting.specs.Held.{IsExact, distinct, held, shares}
use Rattle.rm_evicting.specs.declared.Row.{Row}
use Rattle.rm_evicting.specs.Row.{touched, credited, after}
use Rattle.rm_evicting.specs.Stands.{IsMeaning, IsRow, Stands}
use Rattle.rm_evicting.proofs.RowLemmas.{each-map, by_entry-map, keys-map, holds-keys}
use Rattle.rm_evicting.proofs.Steps.{stands-refers, stands_nothing}
use Rattle.rm_layers.specs.Event.{Contribution, Event, names, turns, turns_ip, begins, is_ip_on, on_since, span, AreUpTo, AreRising}
use Rattle.rm_layers.specs.Network.{is_on_path, counts_for, exists, network_inserts, application_inserts}
use Rattle.std.specs.Option.{is_some}
use Rattle.rm_layers.specs.Applications.{Value, Slots, is_in, has_slot, created_of, created_with, applications_with, value_of, blank_value, gained, retuned_value, made_by}
use Rattle.rm_layers.specs.Upper.{Upper, IsValue, AreTuned, IsOf, named, with_value, retuned, emptied, begun, AreRetuned, AreTurnings}
use Rattle.rm_layers.proofs.Spans.{before, rising, on_up_to, each-shares, contributions_below}
use Rattle.rm_layers.proofs.Values.{created-more, applications-more, applications_with-same, blank-is, retuned-is}
use Rattle.rm_layers.proofs.Made.{so_far, made-is, before-is, made_now}

module _ {K V C : Type 0} (eq : K → K → Bool) where
  -- what adds the same gives the same rows
  pub credited-same : (add other : V → C → V) (k : K) (c : C) → ((v : V) → add v c ≡ other v c) → (rows : List (Row K V)) → credited eq add k c rows ≡ credited eq other k c rows
  credited-same add other k c same [] = refl
  credited-same add other k c same (row ∷ rows) = elim (cases_Bool (eq k row.key)) [
    | inl e ↦ rw (e, same row.value) refl
    | inr e ↦ rw (e, credited-same add other k c same rows) refl
  ]

module _ {K V C : Type 0} (eq : K → K → Bool) (exact : IsExact eq) (cap : ℕ) (r : List (Mention K C)) where
  -- other values that mean the same gains otherwise
  pub stands-values : (means other : List C → V → Type 0) (f : V → V) → ((h : K) (v : V) → means (shares eq cap h r) v → other (shares eq cap h r) (f v)) → (rows : List (Row K V)) → Stands eq means cap r rows → Stands eq other cap r (map (with_value f) rows)
  stands-values means other f h rows s = record {
    held = λ k. holds-keys eq exact k (map (with_value f) rows) ∙ ap (list_any (eq k)) (keys-map (with_value f) (λ row. refl) rows) ∙ sym (holds-keys eq exact k rows) ∙ s.held k;
    size = length-map rows (with_value f) ∙ s.size;
    each = each-map (IsRow eq means cap r) (IsRow eq other cap r) (with_value f) (λ row is. record { value = h row.key row.value is.value; entry = is.entry; last = is.last; tick = is.tick }) rows s.each;
    order = by_entry-map (with_value f) (λ row. refl) rows s.order;
  }

count-none : (f : ℕ → Bool) → ((p : ℕ) → f p ≡ false) → (ps : List ℕ) → count_by f ps ≡ 0
count-none f off [] = refl
count-none f off (p ∷ ps) = sum_by-cons (λ q. cond (f q) 1 0) p ps ∙ ap (λ b. cond b 1 0 + count_by f ps) (off p) ∙ (let rest : count_by f ps ≡ 0 = count-none f off ps in omega arith)

module _ {K N A G : Type 0} (eq : K → K → Bool) (exact : IsExact eq) (blank : N) (add : N → G → N) (none : A) (more : A → G → A) where
  abbrev means : Slots → (ℕ → Option ℕ) → List (Contribution G) → Value N A → Type 0
  means slots since = IsValue blank add none more slots since

  -- the contributions that count come to their slots
  abbrev gained_since : Slots → (ℕ → Option ℕ) → Value N A → Contribution G → Value N A
  gained_since slots since v c = record { created = created_with v.created c; sums = add v.sums c.gain; applications = applications_with none more (λ p. counts_for p (since p) c) slots c v.applications }

  sense : (slots : Slots) (since : ℕ → Option ℕ) → IsMeaning (means slots since) (blank_value blank slots) (gained_since slots since)
  sense slots since = record {
    nothing = blank-is blank add none more slots since;
    more = λ cs c v h. ap (λ w. gained_since slots since w c) h ∙ ap (λ applications. record { created = created_with (created_of cs) c; sums = add (value_of blank add none more slots since cs).sums c.gain; applications = applications }) (applications-more none more since c cs slots)
        ∙ ap (λ created. record { created = created; sums = add (value_of blank add none more slots since cs).sums c.gain; applications = (value_of blank add none more slots since (c ∷ cs)).applications }) (created-more c cs);
  }

  module _ (n : ℕ) (r : List (Event K G)) where
    abbrev since : ℕ → Option ℕ
    since p = on_since p r

    -- a new reference counts for each protocol on its path that is on
    takes_all : (slots : Slots) (c : Contribution G) → AreTuned slots r → AreUpTo c.stamp r → AllByRecursion (λ slot. (p : ℕ) → is_in p slot ≡ true → is_on_path p c ≡ counts_for p (on_since p r) c) slots
    takes_all slots c tuned up = go slots (λ p i. i)
      where
        one : (p : ℕ) (o : Option ℕ) → is_some o ≡ true → on_since p r ≡ o → is_on_path p c ≡ counts_for p o c
        one p None i e = absurd (true≢false (sym i))
        one p (Some m) i e = rw (le-leb m c.stamp (on_up_to c.stamp p m r up e)) refl

        go : (some : Slots) → ((p : ℕ) → has_slot p some ≡ true → has_slot p slots ≡ true) → AllByRecursion (λ slot. (p : ℕ) → is_in p slot ≡ true → is_on_path p c ≡ counts_for p (on_since p r) c) some
        go [] h = tt
        go (slot ∷ some) h = ((λ p i. one p (on_since p r) (sym (tuned.tuned p) ∙ h p (rw i refl)) refl), go some (λ p i. h p (elim (cases_Bool (is_in p slot)) [ inl e ↦ rw e refl | inr e ↦ rw (e, i) refl ])))

    -- a frame names a key while ip is on
    pub is_of-names : (slots : Slots) (k : K) (c : Contribution G) (u : Upper K N A) → is_ip_on r ≡ true → AreTuned slots r → AreUpTo c.stamp r → AreRising r → IsOf eq blank add none more (suc n) slots r u → IsOf eq blank add none more (suc n) slots (names k c ∷ r) (named eq blank add none more (suc n) slots k c u)
    is_of-names slots k c u on tuned up rises is = record {
      stands = rw on (subst (Stands eq (means slots since) (suc n) (refers k c.stamp c.tick c ∷ span r)) (credited-same eq (gained_since slots since) (gained blank add none more slots) k c plain (touched eq (blank_value blank slots) (suc n) k c.stamp c.tick u.rows)) stepped);
      network_inserts = rw (on, ← is.network_inserts, is.stands.held k) (elim (cases_Bool (held eq (suc n) k (keys (span r)))) [ inl e ↦ rw e refl | inr e ↦ rw e refl ]);
      application_inserts =
          let made = ap (λ applications. made_by (λ p. is_on_path p c) slots applications) (before-is eq exact blank add none more slots since (suc n) (span r) k u.rows is.stands) ∙ made-is none more (λ p. is_on_path p c) since (so_far eq (suc n) k (span r)) slots ∙ made_now eq exact n k c r on up slots tuned in
          rw (made, is.application_inserts) refl;
    }
      where
        plain : (v : Value N A) → gained_since slots since v c ≡ gained blank add none more slots v c
        plain v = ap (λ applications. record { created = created_with v.created c; sums = add v.sums c.gain; applications = applications }) (sym (applications_with-same none more (λ p. is_on_path p c) (λ p. counts_for p (since p) c) slots c v.applications (takes_all slots c tuned up)))

        stepped : Stands eq (means slots since) (suc n) (refers k c.stamp c.tick c ∷ span r) (after eq (blank_value blank slots) (gained_since slots since) (suc n) u.rows (refers k c.stamp c.tick c))
        stepped = stands-refers eq exact (means slots since) (blank_value blank slots) (gained_since slots since) (sense slots since) n k c.stamp c.tick c (span r) u.rows is.stands (before c.stamp r up) (rising r rises)

    -- while ip is off, nothing is a reference
    pub is_of-unnamed : (cap : ℕ) (slots : Slots) (k : K) (c : Contribution G) (u : Upper K N A) → is_ip_on r ≡ false → IsOf eq blank add none more cap slots r u → IsOf eq blank add none more cap slots (names k c ∷ r) u
    is_of-unnamed cap slots k c u off is = record {
      stands = rw off is.stands;
      network_inserts = rw off (is.network_inserts ∙ no_more (network_inserts eq cap r));
      application_inserts = is.application_inserts ∙ no_more (application_inserts eq cap r) ∙ ap (λ m. application_inserts eq cap r + m) (sym (none_made (distinct nat_eq c.path)));
    }
      where
        no_more : (m : ℕ) → m ≡ m + 0
        no_more m = omega arith

        and_not : (b : Bool) → (b && not b) ≡ false
        and_not true = refl
        and_not false = refl

        unmade : (p : ℕ) → (exists eq cap k p (names k c ∷ r) && not (exists eq cap k p r)) ≡ false
        unmade p = rw off (and_not (exists eq cap k p r))

        none_made : (ps : List ℕ) → count_by (λ p. exists eq cap k p (names k c ∷ r) && not (exists eq cap k p r)) ps ≡ 0
        none_made ps = count-none (λ p. exists eq cap k p (names k c ∷ r) && not (exists eq cap k p r)) unmade ps

  -- protocols are turned on and off, all at one stamp
  pub is_of-retuned : (cap s : ℕ) (ts r : List (Event K G)) (old slots : Slots) (u : Upper K N A) → AreTurnings s ts → AreUpTo s r → AreRetuned s (λ p. on_since p r) (λ p. on_since p (ts ++ r)) old slots → IsOf eq blank add none more cap old r u → IsOf eq blank add none more cap slots (ts ++ r) (retuned old slots u)
  is_of-retuned cap s ts r old slots u turn up re is = record {
    stands = rw (left-turned span (λ p m on earlier. refl) ts turn) (stands-values eq exact cap (span r) (means old (λ p. on_since p r)) (means slots (λ p. on_since p (ts ++ r))) (retuned_value old slots)
        (λ h v e. ap (retuned_value old slots) e ∙ retuned-is blank add none more s (λ p. on_since p r) (λ p. on_since p (ts ++ r)) old slots (shares eq cap h (span r)) (each-shares eq cap (λ c. c.stamp < s) h (span r) (contributions_below s r up)) re) u.rows is.stands);
    network_inserts = is.network_inserts ∙ sym (left-turned (network_inserts eq cap) (λ p m on earlier. refl) ts turn);
    application_inserts = is.application_inserts ∙ sym (left-turned (application_inserts eq cap) (λ p m on earlier. refl) ts turn);
  }
    where
      -- what no turning changes, all of them leave
      left-turned : {B : Type 0} (f : List (Event K G) → B) → ((p m : ℕ) (on : Bool) (earlier : List (Event K G)) → f (turns p m on ∷ earlier) ≡ f earlier)
          → (some : List (Event K G)) → AreTurnings s some → f (some ++ r) ≡ f r
      left-turned f leaves [] t = refl
      left-turned f leaves (names k c ∷ some) t = absurd t
      left-turned f leaves (turns p m on ∷ some) t = leaves p m on (some ++ r) ∙ left-turned f leaves some t.1
      left-turned f leaves (turns_ip on ∷ some) t = absurd t
      left-turned f leaves (begins ∷ some) t = absurd t

  -- ip is
  pub is_of-turned_ip : (cap : ℕ) (on : Bool) (r : List (Event K G)) (slots : Slots) (u : Upper K N A) → IsOf eq blank add none more cap slots r u → IsOf eq blank add none more cap slots (turns_ip on ∷ r) (emptied u)
  is_of-turned_ip cap on r slots u is = record {
    stands = stands_nothing eq exact (means slots (λ p. on_since p r)) (blank_value blank slots) (gained_since slots (λ p. on_since p r)) (sense slots (λ p. on_since p r)) cap;
    network_inserts = is.network_inserts;
    application_inserts = is.application_inserts;
  }

  -- the control row becomes active, with any capacity
  pub is_of-begins : (cap : ℕ) (r : List (Event K G)) (slots : Slots) → IsOf eq blank add none more cap slots (begins ∷ r) begun
  is_of-begins cap r slots = record {
    stands = stands_nothing eq exact (means slots (λ p. on_since p r)) (blank_value blank slots) (gained_since slots (λ p. on_since p r)) (sense slots (λ p. on_since p r)) cap;
    network_inserts = refl;
    application_inserts = refl;
  }

module _ {K N A G : Type 0} (eq : K → K → Bool) (exact : IsExact eq) (blank : N) (add : N → G → N) (none : A) (more : A → G → A) where
  pub is_of-named : (cap : ℕ) (slots : Slots) (r : List (Event K G)) (k : K) (c : Contribution G) (u : Upper K N A) → 0 < cap → is_ip_on r ≡ true → AreTuned slots r → AreUpTo c.stamp r → AreRising r → IsOf eq blank add none more cap slots r u → IsOf eq blank add none more cap slots (names k c ∷ r) (named eq blank add none more cap slots k c u)
  is_of-named zero slots r k c u some on tuned up rises is = absurd (omega arith)
  is_of-named (suc n) slots r k c u some on tuned up rises is = is_of-names eq exact blank add none more n r slots k c u on tuned up rises is
