-- Slots that protocols keep as long as they are on.
use Rattle.std.proofs.Common.{◌≡◌, ℕ, zero, suc, ◌+◌, ◌<◌, ◌≤◌, Bool, true, false, cond, ◌&&◌, ◌||◌, List, [], ◌∷◌, map, filter, length, take, nat_eq, Option, Some, None, refl, sym, ap, ◌∙◌, arith, inl, inr}
use Rattle.std.specs.Prelude.{nat_lt, position, slice_get, slice_index_or, slice_set}
use Rattle.std.specs.List.{list_any, position_or_len}
use Rattle.std.specs.Option.{is_none}
use Rattle.std.proofs.lemmas.Bool.{cases_Bool, true≢false}
use Rattle.std.proofs.lemmas.Bool.Decides.{nat_tests}
use Rattle.rm_evicting.proofs.RankLemmas.{any-filter, apart-filter, same_length}
use Rattle.rm_layers.specs.Applications.{Slots, has_slot, is_in, in_slots, AreApart}
use Rattle.rm_layers.proofs.Made.{nat_exact, slots-any, slots-apart}
use Rattle.rm_layer_slots.specs.Settled.{AreSettledBy, AreSettled, kept_in, put_first, placed}

turned_round : (m n : ℕ) → nat_eq m n ≡ nat_eq n m
turned_round m n = grind (arith, nat_tests)

-- whether a slot is empty
abbrev pub has_empty : Slots → Bool
has_empty slots = list_any is_none slots

put-has : (q p : ℕ) (slots : Slots) → has_empty slots ≡ true → has_slot q (put_first p slots) ≡ (nat_eq q p || has_slot q slots)
put-has q p [] some = absurd (true≢false (sym some))
put-has q p (None ∷ slots) some = refl
put-has q p (Some r ∷ slots) some = ap (λ b. nat_eq q r || b) (put-has q p slots some) ∙ swap (nat_eq q r) (nat_eq q p) (has_slot q slots)
  where
    swap : (a b c : Bool) → (a || (b || c)) ≡ (b || (a || c))
    swap true true c = refl
    swap true false c = refl
    swap false b c = refl

put-within : (q p : ℕ) (slots : Slots) → has_slot q (put_first p slots) ≡ true → (nat_eq q p || has_slot q slots) ≡ true
put-within q p [] i = absurd (true≢false (sym i))
put-within q p (None ∷ slots) i = i
put-within q p (Some r ∷ slots) i = elim (cases_Bool (nat_eq q r)) [ inl y ↦ rw y (last (nat_eq q p)) | inr y ↦ rw y (put-within q p slots (rw y at i)) ]
  where
    last : (b : Bool) → (b || true) ≡ true
    last true = refl
    last false = refl

put-keeps : (q p : ℕ) (slots : Slots) → has_slot q slots ≡ true → has_slot q (put_first p slots) ≡ true
put-keeps q p [] i = i
put-keeps q p (None ∷ slots) i = rw i (last (nat_eq q p))
  where
    last : (b : Bool) → (b || true) ≡ true
    last true = refl
    last false = refl
put-keeps q p (Some r ∷ slots) i = elim (cases_Bool (nat_eq q r)) [ inl y ↦ rw y refl | inr y ↦ rw y (put-keeps q p slots (rw y at i)) ]

put-none : (q p : ℕ) (slots : Slots) → nat_eq q p ≡ false → has_slot q slots ≡ false → has_slot q (put_first p slots) ≡ false
put-none q p [] other off = refl
put-none q p (None ∷ slots) other off = rw other off
put-none q p (Some r ∷ slots) other off = elim (cases_Bool (nat_eq q r)) [
  | inl y ↦ absurd (true≢false (rw y at off))
  | inr y ↦ rw y (put-none q p slots other (rw y at off))
]

put-apart : (p : ℕ) (slots : Slots) → has_slot p slots ≡ false → AreApart slots → AreApart (put_first p slots)
put-apart p [] off apart = tt
put-apart p (None ∷ slots) off apart = (off, apart)
put-apart p (Some r ∷ slots) off apart = elim (cases_Bool (nat_eq p r)) [
  | inl y ↦ absurd (true≢false (rw y at off))
  | inr y ↦ (put-none r p slots (turned_round r p ∙ y) apart.0, put-apart p slots (rw y at off) apart.1)
]

put-size : (p : ℕ) (slots : Slots) → length (put_first p slots) ≡ length slots
put-size p [] = refl
put-size p (None ∷ slots) = refl
put-size p (Some r ∷ slots) = ap suc (put-size p slots)

put-settled : (had : ℕ → Bool) (p : ℕ) (old slots : Slots) → had p ≡ false → AreSettledBy had old slots → AreSettledBy had old (put_first p slots)
put-settled had p [] [] new settled = tt
put-settled had p [] (slot ∷ slots) new settled = absurd settled
put-settled had p (was ∷ old) [] new settled = settled
put-settled had p (was ∷ old) (None ∷ slots) new settled = (λ other. new, settled.1)
put-settled had p (was ∷ old) (Some r ∷ slots) new settled = (settled.0, put-settled had p old slots new settled.1)

-- of protocols apart, fewer pass a test where one doesn't
fewer : (test : ℕ → Bool) (p : ℕ) (ps : List ℕ) → list_any (nat_eq p) ps ≡ true → test p ≡ false → length (filter test ps) < length ps
fewer test p [] i off = absurd (true≢false (sym i))
fewer test p (q ∷ ps) i off = elim (cases_Bool (nat_eq p q)) [
  | inl y ↦
      let here : test q ≡ false = ap test (sym (nat_exact.same p q y)) ∙ off in
      let most : length (filter test ps) ≤ length ps = no_more ps in
      rw here (omega arith)
  | inr y ↦
      let less : length (filter test ps) < length ps = fewer test p ps (rw y at i) off in
      elim (cases_Bool (test q)) [ inl e ↦ rw e (omega arith) | inr e ↦ rw e (omega arith) ]
]
  where
    no_more : (qs : List ℕ) → length (filter test qs) ≤ length qs
    no_more [] = omega arith
    no_more (q ∷ qs) = let more : length (filter test qs) ≤ length qs = no_more qs in elim (cases_Bool (test q)) [ inl e ↦ rw e (omega arith) | inr e ↦ rw e (omega arith) ]

all_full : (slots : Slots) → has_empty slots ≡ false → length (in_slots slots) ≡ length slots
all_full [] full = refl
all_full (None ∷ slots) full = absurd (true≢false full)
all_full (Some p ∷ slots) full = ap suc (all_full slots full)

at_most : (slots : Slots) → length (in_slots slots) ≤ length slots
at_most [] = omega arith
at_most (None ∷ slots) = let more : length (in_slots slots) ≤ length slots = at_most slots in omega arith
at_most (Some p ∷ slots) = let more : length (in_slots slots) ≤ length slots = at_most slots in omega arith

-- as long as a protocol that is on has no slot, one is empty
empty_one : (slots on : Slots) (p : ℕ) → length slots ≡ length on → AreApart slots → AreApart on → ((q : ℕ) → has_slot q slots ≡ true → has_slot q on ≡ true) → has_slot p on ≡ true → has_slot p slots ≡ false → has_empty slots ≡ true
empty_one slots on p long apart also within here none = elim (cases_Bool (has_empty slots)) [
  | inl e ↦ e
  | inr e ↦
      let test : ℕ → Bool = λ q. list_any (nat_eq q) (in_slots slots) in
      let many : length (in_slots slots) ≡ length slots = all_full slots e in
      let same : length (filter test (in_slots on)) ≡ length (in_slots slots) =
      same_length nat_eq nat_exact (filter test (in_slots on)) (in_slots slots) (apart-filter nat_eq nat_exact test (in_slots on) (slots-apart on also)) (slots-apart slots apart)
      (λ q. any-filter nat_eq nat_exact test q (in_slots on) ∙ ap (λ b. b && test q) (sym (slots-any q on)) ∙ also_there (has_slot q on) (test q) (λ i. within q (slots-any q slots ∙ i))) in
      let less : length (filter test (in_slots on)) < length (in_slots on) = fewer test p (in_slots on) (sym (slots-any p on) ∙ here) (sym (slots-any p slots) ∙ none) in
      let most : length (in_slots on) ≤ length on = at_most on in
      absurd (omega arith)
]
  where
    also_there : (a b : Bool) → (b ≡ true → a ≡ true) → (a && b) ≡ b
    also_there true b h = refl
    also_there false true h = h refl
    also_there false false h = refl

-- What is so once the slots that are kept, and so many of the protocols that are on, have their slots. There is a slot for each where none is on twice.
pub record IsSettling (old on : Slots) (at : ℕ) (slots : Slots) : Type 0 where
  pub within : (q : ℕ) → has_slot q slots ≡ true → has_slot q on ≡ true
  pub done : AreApart on → (q : ℕ) → has_slot q (take at on) ≡ true → has_slot q slots ≡ true
  pub stay : (q : ℕ) → has_slot q old ≡ true → has_slot q on ≡ true → has_slot q slots ≡ true
  pub apart : AreApart slots
  pub settled : AreSettled old slots
  pub size : length slots ≡ length on

kept-has : (on : Slots) (q : ℕ) (old : Slots) → has_slot q (map (kept_in on) old) ≡ (has_slot q old && has_slot q on)
kept-has on q [] = refl
kept-has on q (None ∷ old) = kept-has on q old
kept-has on q (Some p ∷ old) = elim (cases_Bool (has_slot p on)) [
  | inl e ↦ rw e (elim (cases_Bool (nat_eq q p)) [
    | inl y ↦ rw y (sym (ap (λ n. has_slot n on) (nat_exact.same q p y) ∙ e))
    | inr y ↦ rw y (kept-has on q old)
  ])
  | inr e ↦ rw e (elim (cases_Bool (nat_eq q p)) [
    | inl y ↦
        let off : has_slot q on ≡ false = ap (λ n. has_slot n on) (nat_exact.same q p y) ∙ e in
        kept-has on q old ∙ ap (λ b. has_slot q old && b) off ∙ none (has_slot q old) ∙ sym (ap (λ b. (nat_eq q p || has_slot q old) && b) off ∙ none (nat_eq q p || has_slot q old))
    | inr y ↦ rw y (kept-has on q old)
  ])
]
  where
    none : (b : Bool) → (b && false) ≡ false
    none true = refl
    none false = refl

kept-apart : (on : Slots) (old : Slots) → AreApart old → AreApart (map (kept_in on) old)
kept-apart on [] apart = tt
kept-apart on (None ∷ old) apart = kept-apart on old apart
kept-apart on (Some p ∷ old) apart = elim (cases_Bool (has_slot p on)) [
  | inl e ↦ rw e (kept-has on p old ∙ ap (λ b. b && has_slot p on) apart.0, kept-apart on old apart.1)
  | inr e ↦ rw e (kept-apart on old apart.1)
]

kept-settled : (had : ℕ → Bool) (on : Slots) (old : Slots) → AreSettledBy had old (map (kept_in on) old)
kept-settled had on [] = tt
kept-settled had on (None ∷ old) = (tt, kept-settled had on old)
kept-settled had on (Some p ∷ old) = elim (cases_Bool (has_slot p on)) [
  | inl e ↦ rw e (λ other. absurd (true≢false (sym (let same : nat_eq p p ≡ true = grind (arith, nat_tests) in same) ∙ other)), kept-settled had on old)
  | inr e ↦ rw e (tt, kept-settled had on old)
]

kept-size : (on : Slots) (old : Slots) → length (map (kept_in on) old) ≡ length old
kept-size on [] = refl
kept-size on (slot ∷ old) = ap suc (kept-size on old)

pub begins : (old on : Slots) → length old ≡ length on → AreApart old → IsSettling old on 0 (map (kept_in on) old)
begins old on long apart = record {
  within = λ q i. second (has_slot q old) (has_slot q on) (sym (kept-has on q old) ∙ i);
  done = λ also q i. absurd (true≢false (sym i));
  stay = λ q i j. kept-has on q old ∙ rw (i, j) refl;
  apart = kept-apart on old apart;
  settled = kept-settled (λ protocol. has_slot protocol old) on old;
  size = kept-size on old ∙ long;
}
  where
    second : (a b : Bool) → (a && b) ≡ true → b ≡ true
    second true b i = i
    second false b i = absurd (true≢false (sym i))

-- one slot more of those that are on
more-has : (at q : ℕ) (on : Slots) (slot : Option ℕ) → slice_get on at ≡ Some slot → has_slot q (take (suc at) on) ≡ (has_slot q (take at on) || is_in q slot)
more-has at q [] slot here = absurd (cc)
more-has zero q (first ∷ on) slot here = let same : first ≡ slot = cc in rw same (last (is_in q slot))
  where
    last : (b : Bool) → (b || false) ≡ b
    last true = refl
    last false = refl
more-has (suc at) q (first ∷ on) slot here = ap (λ b. is_in q first || b) (more-has at q on slot here) ∙ joined (is_in q first) (has_slot q (take at on)) (is_in q slot)
  where
    joined : (a b c : Bool) → (a || (b || c)) ≡ ((a || b) || c)
    joined true b c = refl
    joined false b c = refl

there : (at : ℕ) (q : ℕ) (on : Slots) (slot : Option ℕ) → slice_get on at ≡ Some slot → is_in q slot ≡ true → has_slot q on ≡ true
there at q [] slot here i = absurd (cc)
there zero q (first ∷ on) slot here i = let same : first ≡ slot = cc in rw same (rw i refl)
there (suc at) q (first ∷ on) slot here i = later (is_in q first) (there at q on slot here i)
  where
    later : (a : Bool) → {b : Bool} → b ≡ true → (a || b) ≡ true
    later true e = refl
    later false e = e

module _ (old on slots : Slots) (at : ℕ) (so : IsSettling old on at slots) where
  pub skips : slice_get on at ≡ Some None → IsSettling old on (suc at) slots
  skips here = record {
    within = so.within;
    done = λ also q i. so.done also q (sym (last (has_slot q (take at on))) ∙ sym (more-has at q on None here) ∙ i);
    stay = so.stay;
    apart = so.apart;
    settled = so.settled;
    size = so.size;
  }
    where
      last : (b : Bool) → (b || false) ≡ b
      last true = refl
      last false = refl

  pub places : (p : ℕ) → slice_get on at ≡ Some (Some p) → IsSettling old on (suc at) (placed p slots)
  places p here = elim (cases_Bool (has_slot p slots)) [
    | inl e ↦ rw e (record {
      within = so.within;
      done = λ also q i. either (has_slot q (take at on)) (nat_eq q p) (sym (more-has at q on (Some p) here) ∙ i) (so.done also q) (λ y. ap (λ n. has_slot n slots) (nat_exact.same q p y) ∙ e);
      stay = so.stay;
      apart = so.apart;
      settled = so.settled;
      size = so.size;
    })
    | inr e ↦
        let is_on : has_slot p on ≡ true = there at p on (Some p) here itself in
        let some : AreApart on → has_empty slots ≡ true = λ also. empty_one slots on p so.size so.apart also so.within is_on e in
        rw e (record {
          within = λ q i. either (nat_eq q p) (has_slot q slots) (put-within q p slots i) (λ y. ap (λ n. has_slot n on) (nat_exact.same q p y) ∙ is_on) (so.within q);
          done = λ also q i. put-has q p slots (some also) ∙ either (has_slot q (take at on)) (nat_eq q p) (sym (more-has at q on (Some p) here) ∙ i) (λ y. right (nat_eq q p) (so.done also q y)) (λ y. rw y refl);
          stay = λ q i j. put-keeps q p slots (so.stay q i j);
          apart = put-apart p slots e so.apart;
          settled = put-settled (λ protocol. has_slot protocol old) p old slots (new is_on e) so.settled;
          size = put-size p slots ∙ so.size;
        })
  ]
    where
      itself : nat_eq p p ≡ true
      itself = grind (arith, nat_tests)

      either : (a b : Bool) → (a || b) ≡ true → {c d : Bool} → (a ≡ true → c ≡ d) → (b ≡ true → c ≡ d) → c ≡ d
      either true b i f g = f refl
      either false b i f g = g i

      right : (a : Bool) → {b : Bool} → b ≡ true → (a || b) ≡ true
      right true e = refl
      right false e = e

      -- a protocol that is on and has no slot had none
      new : has_slot p on ≡ true → has_slot p slots ≡ false → has_slot p old ≡ false
      new is_on off = elim (cases_Bool (has_slot p old)) [ inl i ↦ absurd (true≢false (sym (so.stay p i is_on) ∙ off)) | inr o ↦ o ]

pub ends : (old on slots : Slots) (at : ℕ) → IsSettling old on at slots → take at on ≡ on → AreApart on → (q : ℕ) → has_slot q slots ≡ has_slot q on
ends old on slots at so whole also q = both_ways (has_slot q slots) (has_slot q on) (so.within q) (λ i. so.done also q (ap (has_slot q) whole ∙ i))
  where
    both_ways : (a b : Bool) → (a ≡ true → b ≡ true) → (b ≡ true → a ≡ true) → a ≡ b
    both_ways true b to back = sym (to refl)
    both_ways false true to back = back refl
    both_ways false false to back = refl

-- the first slot that is empty gets a protocol
abbrev pub put_where : ℕ → Slots → Option ℕ → Slots
put_where p slots None = slots
put_where p slots (Some free) = slice_set slots free (Some p)

some_first : (n : ℕ) → nat_lt 0 (suc n) ≡ true
some_first n = grind (arith, nat_tests)

one_later : (m n : ℕ) → nat_lt (1 + m) (suc n) ≡ nat_lt m n
one_later m n = grind (arith, nat_tests)

pub put_at : (p : ℕ) (slots : Slots) → put_first p slots ≡ put_where p slots (position is_none slots)
put_at p [] = refl
put_at p (None ∷ slots) = sym (ap (λ b. put_where p (None ∷ slots) (cond b (Some 0) None)) (some_first (length slots)))
put_at p (Some r ∷ slots) =
    ap (λ more. Some r ∷ more) (put_at p slots) ∙ next (position_or_len is_none slots) (nat_lt (position_or_len is_none slots) (length slots))
    ∙ sym (ap (λ b. put_where p (Some r ∷ slots) (cond b (Some (1 + position_or_len is_none slots)) None)) (one_later (position_or_len is_none slots) (length slots)))
  where
    next : (free : ℕ) (b : Bool) → Some r ∷ put_where p slots (cond b (Some free) None) ≡ put_where p (Some r ∷ slots) (cond b (Some (1 + free)) None)
    next free true = ap (λ n. slice_set (Some r ∷ slots) n (Some p)) (let one : suc free ≡ 1 + free = omega arith in one)
    next free false = refl

-- what a slot has
pub got : (at : ℕ) (slots : Slots) → at < length slots → slice_get slots at ≡ Some (slice_index_or slots at None)
got at [] lt = absurd (omega arith)
got zero (slot ∷ slots) lt = refl
got (suc at) (slot ∷ slots) lt = got at slots (omega arith)
