-- The slots of protocols, of which none has two.
use Rattle.std.proofs.Common.{◌≡◌, ℕ, ◌+◌, ◌<◌, ◌≤◌, zero, suc, Bool, true, false, cond, ◌||◌, List, [], ◌∷◌, take, length, get_or, slice_set, nat_eq, Option, Some, None, refl, sym, ap, ◌∙◌, arith, subst, inl, inr}
use Rattle.std.proofs.lemmas.Bool.{cases_Bool, true≢false}
use Rattle.std.proofs.lemmas.Bool.Decides.{nat_tests}
use Rattle.std.proofs.lemmas.List.{take_all}
use Rattle.rm_layers.specs.Applications.{AreApart, is_in, has_slot}
use Rattle.rm_upper.specs.declared.slots.Slot.{Slot}
use Rattle.rm_upper.specs.declared.slots.KeptApplication.{KeptApplication}
use Rattle.rm_upper.specs.Tally.{Tally}
use Rattle.rm_upper.specs.Kept.{is_made, taken, kept_with, all_with, makes_here, all_made}
use Rattle.rm_upper.specs.Shown.{protocol_of, protocols}

neither : (a b : Bool) → (a || b) ≡ false → (a ≡ false) × (b ≡ false)
neither true b e = absurd (true≢false e)
neither false b e = (refl, e)

-- a protocol that isn't in the next slot either
without_next : (p i : ℕ) (slots : List (Option Slot)) → i < length slots → has_slot p (protocols (take i slots)) ≡ false → is_in p (protocol_of (get_or slots i None)) ≡ false → has_slot p (protocols (take (suc i) slots)) ≡ false
without_next p i [] lt before here = absurd (omega (arith, lt))
without_next p zero (slot ∷ slots) lt before here = rw here refl
without_next p (suc i) (slot ∷ slots) lt before here =
    let both = neither (is_in p (protocol_of slot)) (has_slot p (protocols (take i slots))) before in
    rw both.0 (without_next p i slots (omega (arith, lt)) both.1 here)

pub next_without : (p i : ℕ) (slots : List (Option Slot)) → i < length slots → has_slot p (protocols (take i slots)) ≡ false → is_in p (protocol_of (get_or slots i None)) ≡ false → has_slot p (protocols (take (i + 1) slots)) ≡ false
next_without p i slots lt before here = ap (λ n. has_slot p (protocols (take n slots))) (let e : i + 1 ≡ suc i = omega arith in e) ∙ without_next p i slots lt before here

pub without_all : (p i : ℕ) (slots : List (Option Slot)) → length slots ≤ i → has_slot p (protocols (take i slots)) ≡ false → has_slot p (protocols slots) ≡ false
without_all p i slots all before = ap (λ l. has_slot p (protocols l)) (sym (take_all i slots all)) ∙ before

-- no other slot has the protocol of one
alone : (p : ℕ) (slot : Option Slot) (slots : List (Option Slot)) → AreApart (protocols (slot ∷ slots)) → is_in p (protocol_of slot) ≡ true → has_slot p (protocols slots) ≡ false
alone p None slots apart here = absurd (true≢false (sym here))
alone p (Some slot) slots apart here = let same : p ≡ slot.protocol = grind (arith, nat_tests, here) in ap (λ q. has_slot q (protocols slots)) same ∙ apart.0

rest_apart : (slot : Option Slot) (slots : List (Option Slot)) → AreApart (protocols (slot ∷ slots)) → AreApart (protocols slots)
rest_apart None slots apart = apart
rest_apart (Some slot) slots apart = apart.1

-- a slot further on has a protocol that one before doesn't have
not_before : (p i : ℕ) (slots : List (Option Slot)) → i < length slots → is_in p (protocol_of (get_or slots i None)) ≡ true → has_slot p (protocols slots) ≡ true
not_before p i [] lt here = absurd (omega (arith, lt))
not_before p zero (slot ∷ slots) lt here = rw here refl
not_before p (suc i) (slot ∷ slots) lt here = elim (cases_Bool (is_in p (protocol_of slot))) [
  | inl e ↦ rw e refl
  | inr e ↦ rw e (not_before p i slots (omega (arith, lt)) here)
]

before_not : (p i : ℕ) (slot : Option Slot) (slots : List (Option Slot)) → AreApart (protocols (slot ∷ slots)) → i < length slots → is_in p (protocol_of (get_or slots i None)) ≡ true → is_in p (protocol_of slot) ≡ false
before_not p i slot slots apart lt here = elim (cases_Bool (is_in p (protocol_of slot))) [
  | inl e ↦ absurd (true≢false (sym (not_before p i slots lt here) ∙ alone p slot slots apart e))
  | inr e ↦ e
]

module _ {N A : Type 0} (tally : Tally N A) (stamp tick : ℕ) (gain : N) (p : ℕ) where
  untaken : (slot : Option Slot) (kept : Option (KeptApplication A)) → is_in p (protocol_of slot) ≡ false → kept_with tally (nat_eq p) stamp tick gain slot kept ≡ kept
  untaken None kept off = refl
  untaken (Some slot) kept off = rw off refl

  unmade : (slot : Option Slot) (kept : Option (KeptApplication A)) → is_in p (protocol_of slot) ≡ false → makes_here (nat_eq p) slot kept ≡ false
  unmade None kept off = refl
  unmade (Some slot) kept off = rw off refl

  -- a protocol without a slot
  pub none_with : (slots : List (Option Slot)) (applications : List (Option (KeptApplication A))) → length slots ≡ length applications → has_slot p (protocols slots) ≡ false → all_with tally (nat_eq p) stamp tick gain slots applications ≡ applications
  none_with [] [] same off = refl
  none_with [] (kept ∷ applications) same off = absurd (omega (arith, same))
  none_with (slot ∷ slots) [] same off = absurd (omega (arith, same))
  none_with (slot ∷ slots) (kept ∷ applications) same off =
      let both = neither (is_in p (protocol_of slot)) (has_slot p (protocols slots)) off in
      rw (untaken slot kept both.0) (ap (λ l. kept ∷ l) (none_with slots applications (omega (arith, same)) both.1))

  pub none_made : (slots : List (Option Slot)) (applications : List (Option (KeptApplication A))) → has_slot p (protocols slots) ≡ false → all_made (nat_eq p) slots applications ≡ 0
  none_made [] applications off = refl
  none_made (slot ∷ slots) [] off = refl
  none_made (slot ∷ slots) (kept ∷ applications) off =
      let both = neither (is_in p (protocol_of slot)) (has_slot p (protocols slots)) off in
      let rest = none_made slots applications both.1 in
      rw (unmade slot kept both.0) (omega (arith, rest))

  module _ (d : Option (KeptApplication A)) where
    -- a protocol with a slot
    pub one_with : (i : ℕ) (slots : List (Option Slot)) (applications : List (Option (KeptApplication A))) → AreApart (protocols slots) → length slots ≡ length applications → i < length slots → is_in p (protocol_of (get_or slots i None)) ≡ true
        → all_with tally (nat_eq p) stamp tick gain slots applications ≡ slice_set applications i (kept_with tally (nat_eq p) stamp tick gain (get_or slots i None) (get_or applications i d))
    one_with i [] applications apart same lt here = absurd (omega (arith, lt))
    one_with i (slot ∷ slots) [] apart same lt here = absurd (omega (arith, same))
    one_with zero (slot ∷ slots) (kept ∷ applications) apart same lt here = ap (λ l. kept_with tally (nat_eq p) stamp tick gain slot kept ∷ l) (none_with slots applications (omega (arith, same)) (alone p slot slots apart here))
    one_with (suc i) (slot ∷ slots) (kept ∷ applications) apart same lt here =
        let within : i < length slots = omega (arith, lt) in
        rw (untaken slot kept (before_not p i slot slots apart within here)) (ap (λ l. kept ∷ l) (one_with i slots applications (rest_apart slot slots apart) (omega (arith, same)) within here))

    pub one_made : (i : ℕ) (slots : List (Option Slot)) (applications : List (Option (KeptApplication A))) → AreApart (protocols slots) → length slots ≡ length applications → i < length slots → is_in p (protocol_of (get_or slots i None)) ≡ true
        → all_made (nat_eq p) slots applications ≡ cond (makes_here (nat_eq p) (get_or slots i None) (get_or applications i d)) 1 0
    one_made i [] applications apart same lt here = absurd (omega (arith, lt))
    one_made i (slot ∷ slots) [] apart same lt here = absurd (omega (arith, same))
    one_made zero (slot ∷ slots) (kept ∷ applications) apart same lt here = let rest = none_made slots applications (alone p slot slots apart here) in rw rest (none (cond (makes_here (nat_eq p) slot kept) 1 0))
      where
        none : (n : ℕ) → 0 + n ≡ n
        none n = omega arith
    one_made (suc i) (slot ∷ slots) (kept ∷ applications) apart same lt here =
        let within : i < length slots = omega (arith, lt) in
        let rest = one_made i slots applications (rest_apart slot slots apart) (omega (arith, same)) within here in
        rw (unmade slot kept (before_not p i slot slots apart within here), rest) (more (cond (makes_here (nat_eq p) (get_or slots i None) (get_or applications i d)) 1 0))
      where
        more : (n : ℕ) → n + 0 ≡ n
        more n = omega arith

    pub taken_there : (i : ℕ) (slots : List (Option Slot)) (applications : List (Option (KeptApplication A))) (slot : Slot) (kept : KeptApplication A) → AreApart (protocols slots) → length slots ≡ length applications → i < length slots → get_or slots i None ≡ Some slot
        → is_in p (protocol_of (get_or slots i None)) ≡ true → kept ≡ taken tally slot stamp tick gain (get_or applications i d) → slice_set applications i (Some kept) ≡ all_with tally (nat_eq p) stamp tick gain slots applications
    taken_there i slots applications slot kept apart same lt there here is =
        let on : nat_eq p slot.protocol ≡ true = subst (λ o. is_in p (protocol_of o) ≡ true) there here in
        let one : kept_with tally (nat_eq p) stamp tick gain (get_or slots i None) (get_or applications i d) ≡ Some kept = rw (there, on, is) refl in
        ap (slice_set applications i) (sym one) ∙ sym (one_with i slots applications apart same lt here)

    pub made_there : (i : ℕ) (slots : List (Option Slot)) (applications : List (Option (KeptApplication A))) (slot : Slot) → AreApart (protocols slots) → length slots ≡ length applications → i < length slots → get_or slots i None ≡ Some slot
        → is_in p (protocol_of (get_or slots i None)) ≡ true → cond (is_made slot (get_or applications i d)) 1 0 ≡ all_made (nat_eq p) slots applications
    made_there i slots applications slot apart same lt there here =
        let on : nat_eq p slot.protocol ≡ true = subst (λ o. is_in p (protocol_of o) ≡ true) there here in
        let one : makes_here (nat_eq p) (get_or slots i None) (get_or applications i d) ≡ is_made slot (get_or applications i d) = rw (there, on) refl in
        ap (λ b. cond b 1 0) (sym one) ∙ sym (one_made i slots applications apart same lt here)
