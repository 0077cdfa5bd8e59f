-- What is shown of kept rows is what the events say.
use Rattle.std.proofs.Common.{◌≡◌, ℕ, Bool, true, false, ◌&&◌, ◌||◌, nat_eq, nat_le, List, [], ◌∷◌, map, Option, Some, None, refl, sym, ap, ◌∙◌, arith, subst, inl, inr}
use Rattle.std.specs.List.{AllByRecursion}
use Rattle.std.proofs.lemmas.Bool.{cases_Bool, true≢false, le-leb, leb-true}
use Rattle.std.proofs.lemmas.Bool.Decides.{nat_tests}
use Rattle.rm_evicting.specs.Held.{IsExact}
use Rattle.rm_evicting.specs.declared.Row.{Row}
use Rattle.rm_evicting.specs.Row.{holds}
use Rattle.rm_evicting.specs.Stands.{IsRow}
use Rattle.rm_rows.specs.Table.{row_of}
use Rattle.rm_layers.specs.Event.{Event, on_since, span}
use Rattle.rm_layers.specs.Network.{is_held}
use Rattle.rm_layers.specs.Applications.{Application, AreApart, has_slot, application_at}
use Rattle.rm_layers.specs.Upper.{IsValue, AreTuned}
use Rattle.rm_layers.specs.Marks.{ApplicationLasts}
use Rattle.rm_layers.proofs.Cells.{shows-lasts, lasts-shows}
use Rattle.rm_upper.specs.declared.slots.Slot.{Slot}
use Rattle.rm_upper.specs.declared.slots.KeptApplication.{KeptApplication}
use Rattle.rm_upper.specs.Kept.{NetworkRow}
use Rattle.rm_upper.specs.Tally.{Tally}
use Rattle.rm_upper.specs.Shown.{shown_all, protocols, seen_value, row_as}
use Rattle.rm_upper.specs.Standing.{Layered, StandsFor}
use Rattle.rm_upper.specs.Walk.{IsShown, ShowsApplication}

has_its_slot : {A : Type 0} (slots : List (Option Slot)) (applications : List (Option (KeptApplication A))) (p u : ℕ) → IsShown slots applications p u → has_slot p (protocols slots) ≡ true
has_its_slot [] applications p u s = absurd s
has_its_slot (slot ∷ slots) [] p u s = absurd s
has_its_slot (None ∷ slots) (application ∷ applications) p u s = has_its_slot slots applications p u s
has_its_slot (Some slot ∷ slots) (None ∷ applications) p u s = elim (cases_Bool (nat_eq p slot.protocol)) [ inl e ↦ rw e refl | inr e ↦ rw e (has_its_slot slots applications p u s) ]
has_its_slot (Some slot ∷ slots) (Some kept ∷ applications) p u (inl h) = let same : p ≡ slot.protocol = sym h.0 in let e : nat_eq p slot.protocol ≡ true = grind (arith, nat_tests) in rw e refl
has_its_slot (Some slot ∷ slots) (Some kept ∷ applications) p u (inr s) = elim (cases_Bool (nat_eq p slot.protocol)) [ inl e ↦ rw e refl | inr e ↦ rw e (has_its_slot slots applications p u s) ]

-- a protocol of a later slot isn't that of the first
another : (slot : Slot) (slots : List (Option Slot)) (p : ℕ) → has_slot slot.protocol (protocols slots) ≡ false → has_slot p (protocols slots) ≡ true → nat_eq p slot.protocol ≡ false
another slot slots p off on = elim (cases_Bool (nat_eq p slot.protocol)) [
  | inl e ↦ let same : p ≡ slot.protocol = grind (arith, nat_tests, e) in absurd (true≢false (sym on ∙ ap (λ q. has_slot q (protocols slots)) same ∙ off))
  | inr e ↦ e
]

pub shown_application : {A : Type 0} (slots : List (Option Slot)) (applications : List (Option (KeptApplication A))) (p u : ℕ) → AreApart (protocols slots) → IsShown slots applications p u → (application : Application A) × (application_at p (protocols slots) (shown_all slots applications) ≡ Some application) × (u ≡ application.tick)
shown_application [] applications p u apart s = absurd s
shown_application (slot ∷ slots) [] p u apart s = absurd s
shown_application (None ∷ slots) (application ∷ applications) p u apart s = shown_application slots applications p u apart s
shown_application (Some slot ∷ slots) (None ∷ applications) p u apart s = let more = shown_application slots applications p u apart.1 s in let off = another slot slots p apart.0 (has_its_slot slots applications p u s) in rw off more
shown_application (Some slot ∷ slots) (Some kept ∷ applications) p u apart (inl h) =
    let same : p ≡ slot.protocol = sym h.0 in
    let e : nat_eq p slot.protocol ≡ true = grind (arith, nat_tests) in
    (record { created = kept.created; tick = kept.tick; sums = kept.sums }, rw (e, le-leb slot.since kept.stamp h.1) refl, h.2)
shown_application (Some slot ∷ slots) (Some kept ∷ applications) p u apart (inr s) = let more = shown_application slots applications p u apart.1 s in let off = another slot slots p apart.0 (has_its_slot slots applications p u s) in rw off more

abbrev tick_of : {A : Type 0} → Option (Application A) → ℕ
tick_of None = 0
tick_of (Some a) = a.tick

pub application_shown : {A : Type 0} (slots : List (Option Slot)) (applications : List (Option (KeptApplication A))) (p : ℕ) (application : Application A) → application_at p (protocols slots) (shown_all slots applications) ≡ Some application → IsShown slots applications p application.tick
application_shown [] applications p application e = cc
application_shown (None ∷ slots) [] p application e = cc
application_shown (Some slot ∷ slots) [] p application e = cc
application_shown (None ∷ slots) (kept ∷ applications) p application e = application_shown slots applications p application e
application_shown (Some slot ∷ slots) (None ∷ applications) p application e = elim (cases_Bool (nat_eq p slot.protocol)) [
  | inl y ↦ let none : None ≡ Some application = rw y at e in cc
  | inr y ↦ application_shown slots applications p application (rw y at e)
]
application_shown (Some slot ∷ slots) (Some kept ∷ applications) p application e = elim (cases_Bool (nat_eq p slot.protocol)) [
  | inl y ↦ elim (cases_Bool (nat_le slot.since kept.stamp)) [
    | inl i ↦
        let same : slot.protocol ≡ p = grind (arith, nat_tests, y) in
        let is : Some (record { created = kept.created; tick = kept.tick; sums = kept.sums }) ≡ Some application = rw (y, i) at e in
        inl (same, leb-true slot.since kept.stamp i, ap tick_of (sym is))
    | inr o ↦ let none : None ≡ Some application = rw (y, o) at e in cc
  ]
  | inr y ↦ inr (application_shown slots applications p application (rw y at e))
]

module _ {K U : Type 0} (eq : K → K → Bool) (exact : IsExact eq) where
  pub found : (P : Row K U → Type 0) (k : K) (rows : List (Row K U)) (row : Row K U) → AllByRecursion P rows → row_of eq k rows ≡ Some row → P row × (row.key ≡ k) × (holds eq k rows ≡ true)
  found P k [] row a e = cc
  found P k (x ∷ rows) row a e = elim (cases_Bool (eq k x.key)) [
    | inl y ↦ let is : Some x ≡ Some row = rw y at e in let same : x ≡ row = cc in (subst P same a.0, ap (λ (z : Row K U). z.key) (sym same) ∙ sym (exact.same k x.key y), rw y refl)
    | inr y ↦ let more = found P k rows row a.1 (rw y at e) in (more.0, more.1, rw (y, more.2) refl)
  ]

module _ {K : Type 0} (eq : K → K → Bool) (exact : IsExact eq) where
  each-through : {V W : Type 0} (f : V → W) (P : Row K W → Type 0) (rows : List (Row K V)) → AllByRecursion P (map (row_as f) rows) → AllByRecursion (λ row. P (row_as f row)) rows
  each-through f P [] a = tt
  each-through f P (row ∷ rows) a = (a.0, each-through f P rows a.1)

  pub there : {V : Type 0} (k : K) (rows : List (Row K V)) → holds eq k rows ≡ true → (row : Row K V) × (row_of eq k rows ≡ Some row)
  there k [] i = absurd (true≢false (sym i))
  there k (x ∷ rows) i = elim (cases_Bool (eq k x.key)) [
    | inl y ↦ (x, rw y refl)
    | inr y ↦ let more = there k rows (rw y at i) in (more.0, rw y more.1)
  ]

  holds_seen : {V W : Type 0} (f : V → W) (k : K) (rows : List (Row K V)) → holds eq k (map (row_as f) rows) ≡ holds eq k rows
  holds_seen f k [] = refl
  holds_seen f k (row ∷ rows) = ap (λ b. eq k row.key || b) (holds_seen f k rows)

  left : (a b : Bool) → (a && b) ≡ true → a ≡ true
  left true b e = refl
  left false b e = absurd (true≢false (sym e))

  module _ {N A : Type 0} (tally : Tally N A) (layered : Layered K N A) (r : List (Event K N)) (tuned : AreTuned (protocols layered.slots) r) (stands : StandsFor tally eq r layered) where
    abbrev pub Is : Row K (NetworkRow N A) → Type 0
    Is row = IsRow eq (IsValue tally.blank tally.add tally.none tally.more (protocols layered.slots) (λ p. on_since p r)) layered.table.capacity (span r) (row_as (seen_value layered.slots) row)

    pub each : AllByRecursion Is layered.table.rows
    each = each-through (seen_value layered.slots) (IsRow eq (IsValue tally.blank tally.add tally.none tally.more (protocols layered.slots) (λ p. on_since p r)) layered.table.capacity (span r)) layered.table.rows stands.is.stands.each

    pub is_held_here : (k : K) → holds eq k layered.table.rows ≡ is_held eq layered.table.capacity k r
    is_held_here k = sym (holds_seen (seen_value layered.slots) k layered.table.rows) ∙ stands.is.stands.held k

    pub application-lasts : (x : K × ℕ) (u : ℕ) → ShowsApplication eq layered x u → ApplicationLasts eq layered.table.capacity r x u
    application-lasts x u s =
        let f = found eq exact Is x.0 layered.table.rows s.0 each s.1 in
        let a = shown_application layered.slots s.0.value.applications x.1 u tuned.apart s.2 in
        let h : is_held eq layered.table.capacity s.0.key r ≡ true = ap (λ k. is_held eq layered.table.capacity k r) f.1 ∙ sym (is_held_here x.0) ∙ f.2 in
        subst (λ t. ApplicationLasts eq layered.table.capacity r x t) (sym a.2) (subst (λ k. ApplicationLasts eq layered.table.capacity r (k, x.1) a.0.tick) f.1 (shows-lasts eq exact tally.blank tally.add tally.none tally.more layered.table.capacity (protocols layered.slots) r tuned (row_as (seen_value layered.slots) s.0) f.0 h x.1 a.0 a.1))

    pub lasts-application : (x : K × ℕ) (u : ℕ) → ApplicationLasts eq layered.table.capacity r x u → ShowsApplication eq layered x u
    lasts-application x u l =
        let h : holds eq x.0 layered.table.rows ≡ true = is_held_here x.0 ∙ left (is_held eq layered.table.capacity x.0 r) _ l.0 in
        let t = there x.0 layered.table.rows h in
        let f = found eq exact Is x.0 layered.table.rows t.0 each t.1 in
        let a = lasts-shows eq exact tally.blank tally.add tally.none tally.more layered.table.capacity (protocols layered.slots) r tuned (row_as (seen_value layered.slots) t.0) f.0 x.1 u (subst (λ k. ApplicationLasts eq layered.table.capacity r (k, x.1) u) (sym f.1) l) in
        (t.0, t.1, subst (λ v. IsShown layered.slots t.0.value.applications x.1 v) (sym a.2) (application_shown layered.slots t.0.value.applications x.1 a.0 a.1))
