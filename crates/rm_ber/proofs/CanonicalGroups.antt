-- Names in base 128.
use Rattle.std.proofs.Common.{add-one, append_assoc, length-append, bit_or, ◌≡◌, ℕ, zero, suc, ◌+◌, ◌*◌, ◌/◌, ◌%◌, ◌^◌, ◌<◌, ◌≤◌, nat_le, if◌then◌else◌, List, [], ◌∷◌, ◌++◌, length, take, drop, slice_index, All, refl, sym, ap, ◌∙◌, inl, inr, arith}
use Rattle.std.proofs.lemmas.Bool.{cases_lt}
use Rattle.std.proofs.lemmas.List.Elements.{All-nil, All-cons, All-more}
use Rattle.std.proofs.lemmas.Bool.Decides.{nat_tests}
use Rattle.std.proofs.lemmas.Grind.{numeral_or}
use Rattle.std.proofs.lemmas.List.{append-nil}
use Rattle.std.specs.Prelude.{flat_map}
use Rattle.std.proofs.Math.Seq.{take-suc}
use Rattle.std.proofs.lemmas.Grind.{flat_map-append}
use Rattle.rm_val.specs.Spellable.{IsSpellable}
use Rattle.rm_ber.specs.Element.{higher_groups, marked_groups, group_octets, name_octets}

-- the digits of n at these weights, but for those above its highest
abbrev pub digits : List ℕ → ℕ → List ℕ
digits [] n = []
digits (weight ∷ more) n = if nat_le weight n then (128 + n / weight % 128) ∷ digits more n else digits more n

-- the weights of the digits of a number of 32 bits
abbrev pub weights : List ℕ
weights = 2 ^ 28 ∷ 2 ^ 21 ∷ 2 ^ 14 ∷ 2 ^ 7 ∷ []

digits_marked : (n : ℕ) → digits weights n ≡ marked_groups (higher_groups n) n
digits_marked n = elim (cases_lt n (2 ^ 7)) [
  | inl below ↦ grind (arith, nat_tests)
  | inr above ↦ elim (cases_lt n (2 ^ 14)) [
    | inl below ↦ grind (arith, nat_tests)
    | inr above ↦ elim (cases_lt n (2 ^ 21)) [
      | inl below ↦ grind (arith, nat_tests)
      | inr above ↦ elim (cases_lt n (2 ^ 28)) [
        | inl below ↦ grind (arith, nat_tests)
        | inr above ↦ grind (arith, nat_tests)
      ]
    ]
  ]
]

-- the digit at a weight comes before those at the weights after it
digits-taken : (ws : List ℕ) (i n : ℕ) → i < length ws → slice_index ws i ≤ n → digits (drop i ws) n ≡ (128 + n / slice_index ws i % 128) ∷ digits (drop (suc i) ws) n
digits-taken [] i n i_in at_most = absurd (omega arith)
digits-taken (w ∷ ws) zero n i_in at_most = grind (arith, nat_tests)
digits-taken (w ∷ ws) (suc i) n i_in at_most = digits-taken ws i n (omega arith) at_most

-- there is no digit at a weight above the number
digits-passed : (ws : List ℕ) (i n : ℕ) → i < length ws → n < slice_index ws i → digits (drop i ws) n ≡ digits (drop (suc i) ws) n
digits-passed [] i n i_in below = absurd (omega arith)
digits-passed (w ∷ ws) zero n i_in below = grind (arith, nat_tests)
digits-passed (w ∷ ws) (suc i) n i_in below = digits-passed ws i n (omega arith) below

-- all digits stand in the octets up to this weight and in those that are left
pub record HasDigits (ws : List ℕ) (i n : ℕ) (octets : List ℕ) : Type 0 where
  pub all : octets ++ digits (drop i ws) n ≡ digits ws n
  pub few : length octets ≤ i

pub one_digit : (ws : List ℕ) (i n : ℕ) (octets new : List ℕ) → HasDigits ws i n octets → i < length ws → slice_index ws i ≤ n
    → new ≡ octets ++ bit_or 128 (n / slice_index ws i % 128) ∷ [] → HasDigits ws (i + 1) n new
one_digit ws i n octets new has i_in at_most is = record {
  all =
      rw (is, add-one, numeral_or 127 (n / slice_index ws i % 128) refl (omega arith), append_assoc)
      (ap (λ (xs : List ℕ). octets ++ xs) (sym (digits-taken ws i n i_in at_most)) ∙ has.all);
  few = let few = has.few in rw is (omega (arith, length-append {A = ℕ}));
}

pub no_digit : (ws : List ℕ) (i n : ℕ) (octets : List ℕ) → HasDigits ws i n octets → i < length ws → n < slice_index ws i → HasDigits ws (i + 1) n octets
no_digit ws i n octets has i_in below = record {
  all = rw add-one (ap (λ (xs : List ℕ). octets ++ xs) (sym (digits-passed ws i n i_in below)) ∙ has.all);
  few = let few = has.few in omega arith;
}

-- with the last octet they are the group
pub group_done : (n : ℕ) (octets new : List ℕ) → HasDigits weights 4 n octets → new ≡ octets ++ (n % 128) ∷ [] → new ≡ group_octets n
group_done n octets new has is = is ∙ ap (λ (xs : List ℕ). xs ++ (n % 128) ∷ []) (sym (append-nil octets) ∙ has.all ∙ digits_marked n)

-- a name that has a spelling has two numbers, which fit in one
pub record HasFirstGroup (xs : List ℕ) : Type 0 where
  pub two : 2 ≤ length xs
  pub fits : 40 * slice_index xs 0 + slice_index xs 1 < 2 ^ 32

pub first_fits : (xs : List ℕ) → IsSpellable xs → HasFirstGroup xs
first_fits [] ok = absurd ok
first_fits (a ∷ []) ok = absurd ok
first_fits (a ∷ b ∷ xs) ok = record { two = omega arith; fits = ok.2 }

-- the groups of the first numbers of a name, each of at most 5 octets, and these numbers have 32 bits
pub record HasGroups (xs : List ℕ) (i : ℕ) (content : List ℕ) : Type 0 where
  pub all : content ≡ name_octets (take i xs)
  pub few : length content + 5 ≤ 5 * i
  pub fit : All (λ n. n < 2 ^ 32) (take i xs)

name_octets-two : (xs : List ℕ) → 2 ≤ length xs → name_octets (take 2 xs) ≡ group_octets (40 * slice_index xs 0 + slice_index xs 1)
unfolding name_octets
name_octets-two [] two = absurd (omega arith)
name_octets-two (a ∷ []) two = absurd (omega arith)
name_octets-two (a ∷ b ∷ xs) two = append-nil (group_octets (40 * a + b))

name_octets-snoc : (a b x : ℕ) (xs : List ℕ) → name_octets (a ∷ b ∷ xs ++ x ∷ []) ≡ name_octets (a ∷ b ∷ xs) ++ group_octets x
unfolding name_octets
name_octets-snoc a b x xs =
    let last = flat_map-append group_octets xs (x ∷ []) ∙ ap (λ (ys : List ℕ). flat_map group_octets xs ++ ys) (append-nil (group_octets x)) in
    ap (λ (ys : List ℕ). group_octets (40 * a + b) ++ ys) last
    ∙ sym (append_assoc (group_octets (40 * a + b)) (flat_map group_octets xs) (group_octets x))

name_octets-more : (xs : List ℕ) (i : ℕ) → 2 ≤ i → i < length xs → name_octets (take (i + 1) xs) ≡ name_octets (take i xs) ++ group_octets (slice_index xs i)
name_octets-more xs zero two i_in = absurd (omega arith)
name_octets-more xs (suc zero) two i_in = absurd (omega arith)
name_octets-more [] (suc (suc i)) two i_in = absurd (omega arith)
name_octets-more (a ∷ []) (suc (suc i)) two i_in = absurd (omega arith)
name_octets-more (a ∷ b ∷ xs) (suc (suc i)) two i_in =
    rw (add-one, take-suc xs i 0 (omega arith)) (name_octets-snoc a b (slice_index xs i) (take i xs))

first_two_fit : (xs : List ℕ) → HasFirstGroup xs → All (λ n. n < 2 ^ 32) (take 2 xs)
first_two_fit [] first = absurd (let two = first.two in omega arith)
first_two_fit (a ∷ []) first = absurd (let two = first.two in omega arith)
first_two_fit (a ∷ b ∷ xs) first =
    let fits = first.fits in
    All-cons (λ n. n < 2 ^ 32) a (b ∷ []) (omega arith) (All-cons (λ n. n < 2 ^ 32) b [] (omega arith) (All-nil (λ n. n < 2 ^ 32)))

pub first_group : (xs start content group : List ℕ) (a b : ℕ) → HasFirstGroup xs → start ≡ [] → a ≡ slice_index xs 0 → b ≡ slice_index xs 1 → group ≡ group_octets (40 * a + b)
    → length group ≤ 5 → content ≡ start ++ group → HasGroups xs 2 content
first_group xs start content group a b first none is_a is_b is_group short is =
    let all : content ≡ group = is ∙ ap (λ (ys : List ℕ). ys ++ group) none in
    let number : 40 * a + b ≡ 40 * slice_index xs 0 + slice_index xs 1 = omega arith in
    record { all = all ∙ is_group ∙ ap group_octets number ∙ sym (name_octets-two xs first.two); few = rw all (omega arith); fit = first_two_fit xs first }

pub one_group : (xs : List ℕ) (i : ℕ) (content new : List ℕ) (group : List ℕ) → HasGroups xs i content → 2 ≤ i → i < length xs → slice_index xs i < 2 ^ 32
    → group ≡ group_octets (slice_index xs i) → length group ≤ 5 → new ≡ content ++ group → HasGroups xs (i + 1) new
one_group xs i content new group has two i_in fits is_group short is = record {
  all = rw (is, name_octets-more xs i two i_in, is_group, has.all) refl;
  few = let few = has.few in rw is (omega (arith, length-append {A = ℕ}));
  fit = All-more (λ n. n < 2 ^ 32) xs i 0 i_in has.fit fits;
}
