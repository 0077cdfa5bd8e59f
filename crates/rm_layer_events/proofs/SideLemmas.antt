-- The events of a journal: what is on after them, and their stamps.
use Rattle.std.proofs.Common.{◌≡◌, ℕ, ◌+◌, ◌<◌, ◌≤◌, suc, Bool, true, false, cond, not, ◌&&◌, ◌||◌, List, [], ◌∷◌, ◌++◌, length, nat_eq, Some, None, refl, sym, ap, ◌∙◌, arith, subst, inl, inr}
use Rattle.std.specs.List.{list_any}
use Rattle.std.proofs.lemmas.Bool.{cases_Bool, true≢false}
use Rattle.std.proofs.lemmas.List.Folds.{list_any-append}
use Rattle.rm_evicting.specs.Held.{distinct}
use Rattle.rm_evicting.proofs.Recency.{any-distinct}
use Rattle.rm_model.specs.Journal.{Act, passes, assigns, samples, Journal}
use Rattle.rm_layers.specs.Event.{Event, names, turns, turns_ip, begins, is_ip_on, on_since, AreUpTo, AreRising}
use Rattle.std.specs.Option.{is_some}
use Rattle.rm_layers.specs.Applications.{Slots}
use Rattle.rm_layers.specs.Upper.{AreTurnings}
use Rattle.rm_layers.specs.Turning.{is_turned, AreNew, IsChange}
use Rattle.rm_layers.proofs.Made.{nat_exact}
use Rattle.rm_layer_events.specs.Side.{Reference, Side, next_stamp, is_alike, named, turned_of, turned, turned_ip, begun, first_turned, events, besides, IsSide}

alike : (a b : Bool) → is_alike a b ≡ true → b ≡ a
alike true b e = e
alike false true e = absurd (true≢false (sym e))
alike false false e = refl

unlike : (a b : Bool) → is_alike a b ≡ false → b ≡ not a
unlike true b e = e
unlike false true e = refl
unlike false false e = absurd (true≢false e)

module _ {K G : Type 0} where
  is_ip_on-named : (s : ℕ) (xs : List (Reference K G)) (r : List (Event K G)) → is_ip_on (named s xs r) ≡ is_ip_on r
  is_ip_on-named s [] r = refl
  is_ip_on-named s (x ∷ xs) r = is_ip_on-named (s + 1) xs (names x.key (record { stamp = s; tick = x.tick; path = x.path; gain = x.gain }) ∷ r)

  on_since-named : (p s : ℕ) (xs : List (Reference K G)) (r : List (Event K G)) → on_since p (named s xs r) ≡ on_since p r
  on_since-named p s [] r = refl
  on_since-named p s (x ∷ xs) r = on_since-named p (s + 1) xs (names x.key (record { stamp = s; tick = x.tick; path = x.path; gain = x.gain }) ∷ r)

  pub up_to_more : (s t : ℕ) (r : List (Event K G)) → s ≤ t → AreUpTo s r → AreUpTo t r
  up_to_more s t [] le a = tt
  up_to_more s t (names k c ∷ r) le a = (let lt : c.stamp < s = a.0 in omega arith, up_to_more s t r le a.1)
  up_to_more s t (turns p n on ∷ r) le a = (let up : n ≤ s = a.0 in omega arith, up_to_more s t r le a.1)
  up_to_more s t (turns_ip on ∷ r) le a = up_to_more s t r le a
  up_to_more s t (begins ∷ r) le a = up_to_more s t r le a

  named-rise : (s : ℕ) (xs : List (Reference K G)) (r : List (Event K G)) → AreUpTo s r → AreRising r → AreUpTo (s + length xs) (named s xs r) × AreRising (named s xs r)
  named-rise s [] r up rising = (subst (λ m. AreUpTo m r) (let e : s ≡ s + 0 = omega arith in e) up, rising)
  named-rise s (x ∷ xs) r up rising =
      let next : List (Event K G) = names x.key (record { stamp = s; tick = x.tick; path = x.path; gain = x.gain }) ∷ r in
      let one : s < s + 1 = omega arith in
      let more = named-rise (s + 1) xs (names x.key (record { stamp = s; tick = x.tick; path = x.path; gain = x.gain }) ∷ r) (one, up_to_more s (s + 1) r (omega arith) up) (up, rising) in
      (subst (λ m. AreUpTo m (named (s + 1) xs (names x.key (record { stamp = s; tick = x.tick; path = x.path; gain = x.gain }) ∷ r))) (let e : s + 1 + length xs ≡ s + suc (length xs) = omega arith in e) more.0, more.1)

module _ {K G : Type 0} (side : Side K G) (act : Act) (earlier : Journal) (r : List (Event K G)) where
  pub turnings : (ps : List ℕ) → AreTurnings (next_stamp earlier) (turned_of side ps act earlier)
  turnings [] = tt
  turnings (p ∷ ps) = elim (cases_Bool (is_alike (side.is_on p earlier) (side.is_on p (act ∷ earlier)))) [
    | inl e ↦ rw e (turnings ps)
    | inr e ↦ rw e (refl, turnings ps)
  ]

  turned-on : (p : ℕ) (ps : List ℕ) → is_some (on_since p r) ≡ side.is_on p earlier → is_some (on_since p (turned_of side ps act earlier ++ r)) ≡ cond (list_any (nat_eq p) ps) (side.is_on p (act ∷ earlier)) (side.is_on p earlier)
  turned-on p [] before = before
  turned-on p (q ∷ ps) before = elim (cases_Bool (is_alike (side.is_on q earlier) (side.is_on q (act ∷ earlier)))) [
    | inl e ↦ elim (cases_Bool (nat_eq p q)) [
      | inl y ↦
          let same : p ≡ q = nat_exact.same p q y in
          let steady : side.is_on p (act ∷ earlier) ≡ side.is_on p earlier = alike (side.is_on p earlier) (side.is_on p (act ∷ earlier)) (ap (λ x. is_alike (side.is_on x earlier) (side.is_on x (act ∷ earlier))) same ∙ e) in
          rw (e, y) (turned-on p ps before ∙ either (list_any (nat_eq p) ps) steady)
      | inr y ↦ rw (e, y) (turned-on p ps before)
    ]
    | inr e ↦ elim (cases_Bool (nat_eq p q)) [
      | inl y ↦ rw (e, y, ← nat_exact.same p q y) (now (side.is_on p (act ∷ earlier)))
      | inr y ↦ rw (e, y) (turned-on p ps before)
    ]
  ]
    where
      either : (b : Bool) → side.is_on p (act ∷ earlier) ≡ side.is_on p earlier → cond b (side.is_on p (act ∷ earlier)) (side.is_on p earlier) ≡ side.is_on p (act ∷ earlier)
      either true e = refl
      either false e = sym e

      now : (b : Bool) → is_some (cond b (Some (next_stamp earlier)) None) ≡ b
      now true = refl
      now false = refl

  turned-unlike : (p : ℕ) (ps : List ℕ) → list_any (nat_eq p) ps ≡ true → is_alike (side.is_on p earlier) (side.is_on p (act ∷ earlier)) ≡ false → is_turned p (turned_of side ps act earlier) ≡ true
  turned-unlike p [] i off = absurd (true≢false (sym i))
  turned-unlike p (q ∷ ps) i off = elim (cases_Bool (nat_eq p q)) [
    | inl y ↦
        let same : p ≡ q = nat_exact.same p q y in
        let here : is_alike (side.is_on q earlier) (side.is_on q (act ∷ earlier)) ≡ false = ap (λ x. is_alike (side.is_on x earlier) (side.is_on x (act ∷ earlier))) (sym same) ∙ off in
        rw (here, y) refl
    | inr y ↦ elim (cases_Bool (is_alike (side.is_on q earlier) (side.is_on q (act ∷ earlier)))) [
      | inl e ↦ rw e (turned-unlike p ps (rw y at i) off)
      | inr e ↦ rw (e, y) (turned-unlike p ps (rw y at i) off)
    ]
  ]

  turned-up_to : (ps : List ℕ) → AreUpTo (next_stamp earlier) r → AreRising r → AreUpTo (next_stamp earlier) (turned_of side ps act earlier ++ r) × AreRising (turned_of side ps act earlier ++ r)
  turned-up_to [] up rising = (up, rising)
  turned-up_to (p ∷ ps) up rising = elim (cases_Bool (is_alike (side.is_on p earlier) (side.is_on p (act ∷ earlier)))) [
    | inl e ↦ rw e (turned-up_to ps up rising)
    | inr e ↦ let more = turned-up_to ps up rising in rw e ((omega arith, more.0), more)
  ]

  pub turned-changes : (p : ℕ) (ps : List ℕ) → is_turned p (turned_of side ps act earlier) ≡ true → side.is_on p (act ∷ earlier) ≡ not (side.is_on p earlier)
  turned-changes p [] i = absurd (true≢false (sym i))
  turned-changes p (q ∷ ps) i = elim (cases_Bool (is_alike (side.is_on q earlier) (side.is_on q (act ∷ earlier)))) [
    | inl e ↦ turned-changes p ps (rw e at i)
    | inr e ↦ elim (cases_Bool (nat_eq p q)) [
      | inl y ↦ unlike (side.is_on p earlier) (side.is_on p (act ∷ earlier)) (ap (λ x. is_alike (side.is_on x earlier) (side.is_on x (act ∷ earlier))) (nat_exact.same p q y) ∙ e)
      | inr y ↦ turned-changes p ps (rw (e, y) at i)
    ]
  ]

module _ {K G : Type 0} (side : Side K G) (is : IsSide side) where
  first-on : (p : ℕ) (ps : List ℕ) → is_some (on_since p (first_turned side ps)) ≡ (list_any (nat_eq p) ps && side.is_on p [])
  first-on p [] = refl
  first-on p (q ∷ ps) = elim (cases_Bool (nat_eq p q)) [
    | inl y ↦ elim (cases_Bool (side.is_on q [])) [
      | inl e ↦ rw (e, y, nat_exact.same p q y, e) refl
      | inr e ↦ rw (e, y, nat_exact.same p q y) (ap (λ x. is_some (on_since x (first_turned side ps))) (sym (nat_exact.same p q y)) ∙ first-on p ps ∙ ap (λ x. list_any (nat_eq p) ps && side.is_on x []) (nat_exact.same p q y) ∙ ap (λ b. list_any (nat_eq p) ps && b) e ∙ off (list_any (nat_eq p) ps) ∙ sym e)
    ]
    | inr y ↦ elim (cases_Bool (side.is_on q [])) [
      | inl e ↦ rw (e, y) (first-on p ps)
      | inr e ↦ rw (e, y) (first-on p ps)
    ]
  ]
    where
      off : (b : Bool) → (b && false) ≡ false
      off true = refl
      off false = refl

  set_is_on : (p : ℕ) (act : Act) (earlier : Journal) (r : List (Event K G)) → is_some (on_since p r) ≡ side.is_on p earlier → is_some (on_since p (turned side act earlier ++ r)) ≡ side.is_on p (act ∷ earlier)
  set_is_on p act earlier r before = turned-on side act earlier r p (distinct nat_eq (side.protocols (act ∷ earlier) ++ side.protocols earlier)) before ∙ go (side.is_on p (act ∷ earlier)) (side.is_on p earlier) refl refl
    where
      listed_in : list_any (nat_eq p) (distinct nat_eq (side.protocols (act ∷ earlier) ++ side.protocols earlier)) ≡ (list_any (nat_eq p) (side.protocols (act ∷ earlier)) || list_any (nat_eq p) (side.protocols earlier))
      listed_in = any-distinct nat_eq nat_exact p (side.protocols (act ∷ earlier) ++ side.protocols earlier) ∙ list_any-append (nat_eq p) (side.protocols (act ∷ earlier)) (side.protocols earlier)

      or_true : (b : Bool) → (b || true) ≡ true
      or_true true = refl
      or_true false = refl

      go : (b a : Bool) → side.is_on p (act ∷ earlier) ≡ b → side.is_on p earlier ≡ a → cond (list_any (nat_eq p) (distinct nat_eq (side.protocols (act ∷ earlier) ++ side.protocols earlier))) b a ≡ b
      go true a e f = ap (λ c. cond c true a) (listed_in ∙ ap (λ c. c || list_any (nat_eq p) (side.protocols earlier)) (is.listed p (act ∷ earlier) e))
      go false true e f = ap (λ c. cond c false true) (listed_in ∙ ap (λ c. list_any (nat_eq p) (side.protocols (act ∷ earlier)) || c) (is.listed p earlier f) ∙ or_true (list_any (nat_eq p) (side.protocols (act ∷ earlier))))
      go false false e f = same (list_any (nat_eq p) (distinct nat_eq (side.protocols (act ∷ earlier) ++ side.protocols earlier)))
        where
          same : (b : Bool) → cond b false false ≡ false
          same true = refl
          same false = refl

  any_on : (ps : List ℕ) (p : ℕ) → (side.is_on p [] ≡ true → list_any (nat_eq p) ps ≡ true) → (list_any (nat_eq p) ps && side.is_on p []) ≡ side.is_on p []
  any_on ps p h = go (side.is_on p []) refl
    where
      go : (b : Bool) → side.is_on p [] ≡ b → (list_any (nat_eq p) ps && b) ≡ b
      go true e = ap (λ c. c && true) (h e)
      go false e = off (list_any (nat_eq p) ps)
        where
          off : (b : Bool) → (b && false) ≡ false
          off true = refl
          off false = refl

  on_since-begun : (p : ℕ) (act : Act) (earlier : Journal) (r : List (Event K G)) → on_since p (begun side act earlier ++ r) ≡ on_since p r
  on_since-begun p act earlier r = elim (cases_Bool (not (side.is_active earlier) && side.is_active (act ∷ earlier))) [ inl e ↦ rw e refl | inr e ↦ rw e refl ]

  on_since-ip : (p : ℕ) (act : Act) (earlier : Journal) (r : List (Event K G)) → on_since p (turned_ip side act earlier ++ r) ≡ on_since p r
  on_since-ip p act earlier r = elim (cases_Bool (is_alike (side.is_ip_on earlier) (side.is_ip_on (act ∷ earlier)))) [ inl e ↦ rw e refl | inr e ↦ rw e refl ]

  others_on : (p : ℕ) (act : Act) (earlier : Journal) → is_some (on_since p (events side earlier)) ≡ side.is_on p earlier → is_some (on_since p (besides side act earlier)) ≡ side.is_on p earlier
  others_on p act earlier before = ap is_some (on_since-ip p act earlier (begun side act earlier ++ events side earlier) ∙ on_since-begun p act earlier (events side earlier)) ∙ before

  -- the protocols that are on by the events are those that are on
  pub on_after : (p : ℕ) (journal : Journal) → is_some (on_since p (events side journal)) ≡ side.is_on p journal
  on_after p [] = first-on p (distinct nat_eq (side.protocols [])) ∙ any_on (distinct nat_eq (side.protocols [])) p (λ e. any-distinct nat_eq nat_exact p (side.protocols []) ∙ is.listed p [] e)
  on_after p (passes frame ∷ earlier) = ap is_some (on_since-named p (next_stamp earlier) (side.references frame earlier) (events side earlier)) ∙ on_after p earlier ∙ sym (is.steady p (passes frame) earlier tt)
  on_after p (assigns moment values ∷ earlier) =
      set_is_on p (assigns moment values) earlier (besides side (assigns moment values) earlier) (others_on p (assigns moment values) earlier (on_after p earlier))
  on_after p (samples moment alarm reading ∷ earlier) = on_after p earlier ∙ sym (is.steady p (samples moment alarm reading) earlier tt)

  ip-first : (ps : List ℕ) → is_ip_on (first_turned side ps) ≡ true
  ip-first [] = refl
  ip-first (p ∷ ps) = elim (cases_Bool (side.is_on p [])) [ inl e ↦ rw e (ip-first ps) | inr e ↦ rw e (ip-first ps) ]

  ip-turned : (ps : List ℕ) (act : Act) (earlier : Journal) (r : List (Event K G)) → is_ip_on (turned_of side ps act earlier ++ r) ≡ is_ip_on r
  ip-turned [] act earlier r = refl
  ip-turned (p ∷ ps) act earlier r = elim (cases_Bool (is_alike (side.is_on p earlier) (side.is_on p (act ∷ earlier)))) [ inl e ↦ rw e (ip-turned ps act earlier r) | inr e ↦ rw e (ip-turned ps act earlier r) ]

  ip-begun : (act : Act) (earlier : Journal) (r : List (Event K G)) → is_ip_on (begun side act earlier ++ r) ≡ is_ip_on r
  ip-begun act earlier r = elim (cases_Bool (not (side.is_active earlier) && side.is_active (act ∷ earlier))) [ inl e ↦ rw e refl | inr e ↦ rw e refl ]

  ip-ip : (act : Act) (earlier : Journal) (r : List (Event K G)) → is_ip_on r ≡ side.is_ip_on earlier → is_ip_on (turned_ip side act earlier ++ r) ≡ side.is_ip_on (act ∷ earlier)
  ip-ip act earlier r before = elim (cases_Bool (is_alike (side.is_ip_on earlier) (side.is_ip_on (act ∷ earlier)))) [
    | inl e ↦ rw e (before ∙ sym (alike (side.is_ip_on earlier) (side.is_ip_on (act ∷ earlier)) e))
    | inr e ↦ rw e refl
  ]

  pub ip_after : (journal : Journal) → is_ip_on (events side journal) ≡ side.is_ip_on journal
  ip_after [] = ip-first (distinct nat_eq (side.protocols [])) ∙ sym is.ip_first
  ip_after (passes frame ∷ earlier) = is_ip_on-named (next_stamp earlier) (side.references frame earlier) (events side earlier) ∙ ip_after earlier ∙ sym (is.ip_steady (passes frame) earlier tt)
  ip_after (assigns moment values ∷ earlier) =
      ip-turned (distinct nat_eq (side.protocols (assigns moment values ∷ earlier) ++ side.protocols earlier)) (assigns moment values) earlier (besides side (assigns moment values) earlier)
      ∙ ip-ip (assigns moment values) earlier (begun side (assigns moment values) earlier ++ events side earlier) (ip-begun (assigns moment values) earlier (events side earlier) ∙ ip_after earlier)
  ip_after (samples moment alarm reading ∷ earlier) = ip_after earlier ∙ sym (is.ip_steady (samples moment alarm reading) earlier tt)

  abbrev Rises : ℕ → List (Event K G) → Type 0
  Rises s r = AreUpTo s r × AreRising r

  rise-first : (ps : List ℕ) → Rises 0 (first_turned side ps)
  rise-first [] = (tt, tt)
  rise-first (p ∷ ps) = let more = rise-first ps in elim (cases_Bool (side.is_on p [])) [ inl e ↦ rw e ((omega arith, more.0), more) | inr e ↦ rw e more ]

  rise-begun : (s : ℕ) (act : Act) (earlier : Journal) (r : List (Event K G)) → Rises s r → Rises s (begun side act earlier ++ r)
  rise-begun s act earlier r a = elim (cases_Bool (not (side.is_active earlier) && side.is_active (act ∷ earlier))) [ inl e ↦ rw e a | inr e ↦ rw e a ]

  rise-ip : (s : ℕ) (act : Act) (earlier : Journal) (r : List (Event K G)) → Rises s r → Rises s (turned_ip side act earlier ++ r)
  rise-ip s act earlier r a = elim (cases_Bool (is_alike (side.is_ip_on earlier) (side.is_ip_on (act ∷ earlier)))) [ inl e ↦ rw e a | inr e ↦ rw e a ]

  -- stamps rise, and the next frame's are above
  pub rise_after : (journal : Journal) → AreUpTo (next_stamp journal) (events side journal) × AreRising (events side journal)
  rise_after [] = rise-first (distinct nat_eq (side.protocols []))
  rise_after (passes frame ∷ earlier) =
      let before = rise_after earlier in
      let named = named-rise (next_stamp earlier) (side.references frame earlier) (events side earlier) before.0 before.1 in
      let few : length (side.references frame earlier) ≤ 2 = is.few frame earlier in
      (up_to_more (next_stamp earlier + length (side.references frame earlier)) (next_stamp (passes frame ∷ earlier)) (events side (passes frame ∷ earlier)) (omega arith) named.0, named.1)
  rise_after (assigns moment values ∷ earlier) =
      let before = rise_after earlier in
      let others = rise-ip (next_stamp earlier) (assigns moment values) earlier (begun side (assigns moment values) earlier ++ events side earlier) (rise-begun (next_stamp earlier) (assigns moment values) earlier (events side earlier) before) in
      turned-up_to side (assigns moment values) earlier (besides side (assigns moment values) earlier) (distinct nat_eq (side.protocols (assigns moment values ∷ earlier) ++ side.protocols earlier)) others.0 others.1
  rise_after (samples moment alarm reading ∷ earlier) = rise_after earlier

  -- so they are before an act turns protocols, and the protocols that are on are still those before it
  pub besides_after : (act : Act) (earlier : Journal) → AreUpTo (next_stamp earlier) (besides side act earlier) × ((p : ℕ) → is_some (on_since p (besides side act earlier)) ≡ side.is_on p earlier)
  besides_after act earlier =
      let others = rise-ip (next_stamp earlier) act earlier (begun side act earlier ++ events side earlier) (rise-begun (next_stamp earlier) act earlier (events side earlier) (rise_after earlier)) in
      (others.0, λ p. others_on p act earlier (on_after p earlier))

  -- the protocols that are on by what an act turned are those that are on after it
  pub set_on : (act : Act) (earlier : Journal) (p : ℕ) → is_some (on_since p (turned side act earlier ++ besides side act earlier)) ≡ side.is_on p (act ∷ earlier)
  set_on act earlier p = set_is_on p act earlier (besides side act earlier) (others_on p act earlier (on_after p earlier))

  -- what is on after an act and wasn't before is turned
  pub turned_on : (p : ℕ) (act : Act) (earlier : Journal) → side.is_on p (act ∷ earlier) ≡ true → side.is_on p earlier ≡ false → is_turned p (turned side act earlier) ≡ true
  turned_on p act earlier now before =
      turned-unlike side act earlier (events side earlier) p (distinct nat_eq (side.protocols (act ∷ earlier) ++ side.protocols earlier))
      (any-distinct nat_eq nat_exact p (side.protocols (act ∷ earlier) ++ side.protocols earlier)
      ∙ list_any-append (nat_eq p) (side.protocols (act ∷ earlier)) (side.protocols earlier)
      ∙ ap (λ b. b || list_any (nat_eq p) (side.protocols earlier)) (is.listed p (act ∷ earlier) now))
      (rw (before, now) refl)

  -- what a Set turns is one change, after what else it does
  pub one_change : (act : Act) (earlier : Journal) (old slots : Slots) → AreNew (turned side act earlier) old slots → IsChange (next_stamp earlier) (turned side act earlier) (besides side act earlier) old slots
  one_change act earlier old slots new = record {
    alone = turnings side act earlier (besides side act earlier) (distinct nat_eq (side.protocols (act ∷ earlier) ++ side.protocols earlier));
    changes = λ p i. set_is_on p act earlier (besides side act earlier) (others_on p act earlier (on_after p earlier)) ∙ turned-changes side act earlier (besides side act earlier) p (distinct nat_eq (side.protocols (act ∷ earlier) ++ side.protocols earlier)) i ∙ ap not (sym (others_on p act earlier (on_after p earlier)));
    moved = new;
  }

module _ {K G : Type 0} (side : Side K G) where
  first-turnings : (ps : List ℕ) → AreTurnings 0 (first_turned side ps)
  first-turnings [] = tt
  first-turnings (p ∷ ps) = elim (cases_Bool (side.is_on p [])) [ inl e ↦ rw e (refl, first-turnings ps) | inr e ↦ rw e (first-turnings ps) ]

  first-changes : (p : ℕ) (ps : List ℕ) → is_turned p (first_turned side ps) ≡ true → is_some (on_since p (first_turned side ps ++ (let nothing : List (Event K G) = [] in nothing))) ≡ true
  first-changes p [] i = absurd (true≢false (sym i))
  first-changes p (q ∷ ps) i = elim (cases_Bool (side.is_on q [])) [
    | inl e ↦ elim (cases_Bool (nat_eq p q)) [
      | inl y ↦ rw (e, y) refl
      | inr y ↦ rw (e, y) (first-changes p ps (rw (e, y) at i))
    ]
    | inr e ↦ rw e (first-changes p ps (rw e at i))
  ]

  -- what is on from before the first act is a change of nothing
  pub first_change : (old slots : Slots) → AreNew (events side []) old slots → IsChange 0 (events side []) [] old slots
  first_change old slots new = record {
    alone = first-turnings (distinct nat_eq (side.protocols []));
    changes = λ p i. first-changes p (distinct nat_eq (side.protocols [])) i;
    moved = new;
  }
