-- What comes to the protocols of a path, one after the other.
use Rattle.std.proofs.Common.{◌≡◌, ℕ, ◌+◌, ◌<◌, ◌≤◌, zero, suc, Bool, true, false, cond, ◌||◌, List, [], ◌∷◌, take, length, get_or, nat_eq, Option, Some, None, refl, sym, ap, ◌∙◌, arith, inl, inr}
use Rattle.std.proofs.lemmas.Bool.{cases_Bool}
use Rattle.std.proofs.lemmas.Bool.Decides.{nat_tests}
use mir.Val.{bool_byte}
use Rattle.rm_upper.specs.declared.slots.Slot.{Slot}
use Rattle.rm_upper.specs.declared.slots.KeptApplication.{KeptApplication}
use Rattle.rm_upper.specs.Tally.{Tally}
use Rattle.rm_upper.specs.Kept.{is_among, is_made, kept_with, all_with, makes_here, all_made}

pub one_if : (yes : Bool) → bool_byte yes ≡ cond yes 1 0
one_if true = refl
one_if false = refl

pub one_most : (yes : Bool) → bool_byte yes ≤ 1
one_most true = omega arith
one_most false = omega arith

or_last : (a : Bool) → (a || false) ≡ (false || a)
or_last true = refl
or_last false = refl

or_next : (a b c : Bool) → (a || (b || c)) ≡ ((a || b) || c)
or_next true b c = refl
or_next false b c = refl

-- a protocol more
among_next : (q i : ℕ) (path : List ℕ) → i < length path → is_among (take (suc i) path) q ≡ (is_among (take i path) q || nat_eq (get_or path i 0) q)
among_next q i [] lt = absurd (omega (arith, lt))
among_next q zero (p ∷ path) lt = or_last (nat_eq p q)
among_next q (suc i) (p ∷ path) lt = ap (λ b. nat_eq p q || b) (among_next q i path (omega (arith, lt))) ∙ or_next (nat_eq p q) (is_among (take i path) q) (nat_eq (get_or path i 0) q)

-- which came before already
among_still : (p q : ℕ) (path : List ℕ) → is_among path p ≡ true → (is_among path q || nat_eq p q) ≡ is_among path q
among_still p q path there = elim (cases_Bool (nat_eq p q)) [
  | inl e ↦ let same : p ≡ q = grind (arith, nat_tests, e) in let on : is_among path q ≡ true = ap (is_among path) (sym same) ∙ there in rw on refl
  | inr e ↦ rw e (or_last (is_among path q))
]

-- no more rows are made than there are slots
pub few_made : {A : Type 0} (takes : ℕ → Bool) (slots : List (Option Slot)) (applications : List (Option (KeptApplication A))) → all_made takes slots applications ≤ length slots
few_made takes [] applications = omega arith
few_made takes (slot ∷ slots) [] = omega arith
few_made takes (slot ∷ slots) (kept ∷ applications) = let rest = few_made takes slots applications in elim (cases_Bool (makes_here takes slot kept)) [
  | inl e ↦ rw e (omega (arith, rest))
  | inr e ↦ rw e (omega (arith, rest))
]

module _ {N A : Type 0} (tally : Tally N A) (stamp tick : ℕ) (gain : N) where
  -- nothing comes to a path of none
  pub nothing_with : (slots : List (Option Slot)) (applications : List (Option (KeptApplication A))) → length slots ≡ length applications → all_with tally (is_among []) stamp tick gain slots applications ≡ applications
  nothing_with [] [] same = refl
  nothing_with [] (kept ∷ applications) same = absurd (omega (arith, same))
  nothing_with (slot ∷ slots) [] same = absurd (omega (arith, same))
  nothing_with (None ∷ slots) (kept ∷ applications) same = ap (λ l. kept ∷ l) (nothing_with slots applications (omega (arith, same)))
  nothing_with (Some slot ∷ slots) (kept ∷ applications) same = ap (λ l. kept ∷ l) (nothing_with slots applications (omega (arith, same)))

  pub nothing_made : (slots : List (Option Slot)) (applications : List (Option (KeptApplication A))) → all_made (is_among []) slots applications ≡ 0
  nothing_made [] applications = refl
  nothing_made (slot ∷ slots) [] = refl
  nothing_made (None ∷ slots) (kept ∷ applications) = let rest = nothing_made slots applications in omega (arith, rest)
  nothing_made (Some slot ∷ slots) (kept ∷ applications) = let rest = nothing_made slots applications in omega (arith, rest)

  module _ (takes more : ℕ → Bool) (p : ℕ) (off : takes p ≡ false) (is : (q : ℕ) → more q ≡ (takes q || nat_eq p q)) where
    off_there : (q : ℕ) → nat_eq p q ≡ true → takes q ≡ false
    off_there q e = let same : p ≡ q = grind (arith, nat_tests, e) in ap takes (sym same) ∙ off

    kept_more : (slot : Option Slot) (kept : Option (KeptApplication A)) → kept_with tally (nat_eq p) stamp tick gain slot (kept_with tally takes stamp tick gain slot kept) ≡ kept_with tally more stamp tick gain slot kept
    kept_more None kept = refl
    kept_more (Some slot) kept = elim (cases_Bool (nat_eq p slot.protocol)) [
      | inl e ↦ let none = off_there slot.protocol e in rw (is slot.protocol, none, e) refl
      | inr e ↦ elim (cases_Bool (takes slot.protocol)) [
        | inl t ↦ rw (is slot.protocol, t, e) refl
        | inr f ↦ rw (is slot.protocol, f, e) refl
      ]
    ]

    makes_more : (slot : Option Slot) (kept : Option (KeptApplication A)) → cond (makes_here more slot kept) 1 0 ≡ cond (makes_here takes slot kept) 1 0 + cond (makes_here (nat_eq p) slot (kept_with tally takes stamp tick gain slot kept)) 1 0
    makes_more None kept = omega arith
    makes_more (Some slot) kept = elim (cases_Bool (nat_eq p slot.protocol)) [
      | inl e ↦ let none = off_there slot.protocol e in rw (is slot.protocol, none, e) (zero_first (cond (is_made slot kept) 1 0))
      | inr e ↦ elim (cases_Bool (takes slot.protocol)) [
        | inl t ↦ rw (is slot.protocol, t, e) (zero_last (cond (is_made slot kept) 1 0))
        | inr f ↦ rw (is slot.protocol, f, e) (omega arith)
      ]
    ]
      where
        zero_first : (n : ℕ) → n ≡ 0 + n
        zero_first n = omega arith

        zero_last : (n : ℕ) → n ≡ n + 0
        zero_last n = omega arith

    all_more : (slots : List (Option Slot)) (applications : List (Option (KeptApplication A))) → all_with tally (nat_eq p) stamp tick gain slots (all_with tally takes stamp tick gain slots applications) ≡ all_with tally more stamp tick gain slots applications
    all_more [] applications = refl
    all_more (slot ∷ slots) [] = refl
    all_more (slot ∷ slots) (kept ∷ applications) = ap (λ k. k ∷ all_with tally (nat_eq p) stamp tick gain slots (all_with tally takes stamp tick gain slots applications)) (kept_more slot kept) ∙ ap (λ l. kept_with tally more stamp tick gain slot kept ∷ l) (all_more slots applications)

    made_more : (slots : List (Option Slot)) (applications : List (Option (KeptApplication A))) → all_made more slots applications ≡ all_made takes slots applications + all_made (nat_eq p) slots (all_with tally takes stamp tick gain slots applications)
    made_more [] applications = omega arith
    made_more (slot ∷ slots) [] = omega arith
    made_more (slot ∷ slots) (kept ∷ applications) = let rest = made_more slots applications in let one = makes_more slot kept in omega (arith, rest, one)

  module _ (path : List ℕ) (i : ℕ) (lt : i < length path) where
    abbrev before : ℕ → Bool
    before = is_among (take i path)

    abbrev with_it : ℕ → Bool
    with_it = is_among (take (i + 1) path)

    next : (q : ℕ) → with_it q ≡ (before q || nat_eq (get_or path i 0) q)
    next q = ap (λ n. is_among (take n path) q) (let e : i + 1 ≡ suc i = omega arith in e) ∙ among_next q i path lt

    same_among : before (get_or path i 0) ≡ true → with_it ≡ before
    same_among there = λ d q. (next q ∙ among_still (get_or path i 0) q (take i path) there) d

    -- a protocol that came before already
    pub again_with : before (get_or path i 0) ≡ true → (slots : List (Option Slot)) (applications : List (Option (KeptApplication A))) → all_with tally before stamp tick gain slots applications ≡ all_with tally with_it stamp tick gain slots applications
    again_with there slots applications = ap (λ takes. all_with tally takes stamp tick gain slots applications) (sym (same_among there))

    pub again_made : before (get_or path i 0) ≡ true → (slots : List (Option Slot)) (applications : List (Option (KeptApplication A))) → all_made before slots applications ≡ all_made with_it slots applications
    again_made there slots applications = ap (λ takes. all_made takes slots applications) (sym (same_among there))

    -- one that didn't
    pub next_with : before (get_or path i 0) ≡ false → (slots : List (Option Slot)) (applications : List (Option (KeptApplication A))) → all_with tally (nat_eq (get_or path i 0)) stamp tick gain slots (all_with tally before stamp tick gain slots applications) ≡ all_with tally with_it stamp tick gain slots applications
    next_with off = all_more before with_it (get_or path i 0) off next

    pub next_made : before (get_or path i 0) ≡ false → (slots : List (Option Slot)) (applications : List (Option (KeptApplication A))) → all_made before slots applications + all_made (nat_eq (get_or path i 0)) slots (all_with tally before stamp tick gain slots applications) ≡ all_made with_it slots applications
    next_made off slots applications = sym (made_more before with_it (get_or path i 0) off next slots applications)
