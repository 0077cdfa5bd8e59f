-- The groups of a name are accepted, and are the fewest octets; no others as few are.
use Rattle.std.proofs.Common.{◌≡◌, ℕ, zero, suc, ◌+◌, ◌-◌, ◌*◌, ◌/◌, ◌%◌, ◌^◌, ◌<◌, ◌≤◌, List, [], ◌∷◌, ◌++◌, length, slice_index, All, inl, inr, refl, sym, ap, subst, ◌∙◌, length-append, arith}
use Rattle.std.specs.Prelude.{flat_map}
use Rattle.std.proofs.lemmas.Bool.{cases_lt}
use Rattle.std.proofs.lemmas.Bool.Decides.{nat_tests}
use Rattle.std.proofs.lemmas.List.Elements.{All-nil, All-cons, All-head, All-tail}
use Rattle.std.proofs.lemmas.List.Concat.{flat_map-cons}
use Rattle.std.proofs.Math.Nat.{div-lt_iff_lt-mul, div-div-eq-div-mul, div-eq_of_lt, mul-le-mul_right, one-le-pow, pow-suc, pow-succ'}
use Rattle.rm_val.specs.Spellable.{IsSpellable}
use Rattle.rm_ber.specs.Element.{higher_groups, marked_groups, group_octets, name_octets}
use Rattle.rm_ber.specs.Grammar.{base_128, IsGroup, AreGroups, numbers_of, IsName}
use Rattle.rm_ber.specs.Canonical.{AreFewest}
use Rattle.rm_ber.proofs.CanonicalLengths.{all_front, all_back}

-- a number has k digits above its lowest, of which the highest isn't 0
pub record IsHigh (n k : ℕ) : Type 0 where
  pub groups : higher_groups n ≡ k
  pub most : k ≤ 4
  pub below : n < 128 ^ suc k
  pub some : 1 ≤ k → 128 ^ k ≤ n

high : (n : ℕ) → n < 2 ^ 32 → (k : ℕ) × IsHigh n k
high n fits = elim (cases_lt n (2 ^ 7)) [
  | inl b ↦ (0, record { groups = grind (arith, nat_tests); most = omega arith; below = b; some = λ h. absurd (omega arith) })
  | inr a_7 ↦ elim (cases_lt n (2 ^ 14)) [
    | inl b ↦ (1, record { groups = grind (arith, nat_tests); most = omega arith; below = b; some = λ h. a_7 })
    | inr a_14 ↦ elim (cases_lt n (2 ^ 21)) [
      | inl b ↦ (2, record { groups = grind (arith, nat_tests); most = omega arith; below = b; some = λ h. a_14 })
      | inr a_21 ↦ elim (cases_lt n (2 ^ 28)) [
        | inl b ↦ (3, record { groups = grind (arith, nat_tests); most = omega arith; below = b; some = λ h. a_21 })
        | inr a_28 ↦ (4, record { groups = grind (arith, nat_tests); most = omega arith; below = omega arith; some = λ h. a_28 })
      ]
    ]
  ]
]

length-marked_groups : (k n : ℕ) → length (marked_groups k n) ≡ k
length-marked_groups zero n = refl
length-marked_groups (suc k) n = let more = length-marked_groups k n in omega arith

marked : (k n : ℕ) → All (λ octet. 0x80 ≤ octet) (marked_groups k n)
marked zero n = All-nil (λ octet. 0x80 ≤ octet)
marked (suc k) n = All-cons (λ octet. 0x80 ≤ octet) (128 + n / 128 ^ suc k % 128) (marked_groups k n) (omega arith) (marked k n)

-- the digits below go on from what the digits above give
digits_back : (k n : ℕ) → base_128 (n / 128 ^ suc k) (marked_groups k n ++ (n % 128) ∷ []) ≡ n
digits_back zero n = omega arith
digits_back (suc k) n =
    let above : n / 128 ^ suc (suc k) ≡ n / 128 ^ suc k / 128 = ap (λ (p : ℕ). n / p) (pow-suc 128 (suc k)) ∙ sym (div-div-eq-div-mul n (128 ^ suc k) 128) in
    let joined : 128 * (n / 128 ^ suc (suc k)) + (128 + n / 128 ^ suc k % 128) % 128 ≡ n / 128 ^ suc k = rw above (omega arith) in
    ap (λ (m : ℕ). base_128 m (marked_groups k n ++ (n % 128) ∷ [])) joined ∙ digits_back k n

pow_pos : (k : ℕ) → 0 < 128 ^ k
pow_pos k = let one = one-le-pow k 128 (omega arith) in omega arith

-- the first octet has a digit that isn't 0
first_digit : (k n : ℕ) → n < 128 ^ suc k → (1 ≤ k → 128 ^ k ≤ n) → slice_index (marked_groups k n ++ (n % 128) ∷ []) 0 ≡ 0x80 → ⊥
first_digit zero n below some e = absurd (omega arith)
first_digit (suc k) n below some e =
    let over = div-lt_iff_lt-mul {k = 128 ^ suc k} {x = n} {y = 128} (pow_pos (suc k)) in
    let under = div-lt_iff_lt-mul {k = 128 ^ suc k} {x = n} {y = 1} (pow_pos (suc k)) in
    let least : 128 ^ suc k ≤ n = some (omega arith) in
    let below_128 : n / 128 ^ suc k < 128 = over.1 (let up = pow-succ' 128 (suc k) in omega arith) in
    absurd (omega (arith, under.0 (omega arith)))

group_high : (n k : ℕ) → IsHigh n k → n < 2 ^ 32 → IsGroup (group_octets n) n
group_high n k is fits = rw is.groups (record {
  front = marked_groups k n;
  last = n % 128;
  is = refl;
  marked = marked k n;
  ends = omega arith;
  fewest = first_digit k n is.below is.some;
  number = sym (ap (λ (m : ℕ). base_128 m (marked_groups k n ++ (n % 128) ∷ [])) (sym (div-eq_of_lt is.below)) ∙ digits_back k n);
  below = fits;
})

pub is_group : (n : ℕ) → n < 2 ^ 32 → IsGroup (group_octets n) n
is_group n fits = let k = high n fits in group_high n k.0 k.1 fits

are_groups : (groups : List ℕ) → All (λ n. n < 2 ^ 32) groups → AreGroups (flat_map group_octets groups) groups
are_groups [] fit = refl
are_groups (n ∷ more) fit =
    (group_octets n, flat_map group_octets more, is_group n (All-head (λ n. n < 2 ^ 32) n more fit), flat_map-cons group_octets n more, are_groups more (All-tail (λ n. n < 2 ^ 32) n more fit))

-- the first group gives the first two numbers
first_two : (a b : ℕ) (more : List ℕ) → a ≤ 2 → (a < 2 → b ≤ 39) → a ∷ b ∷ more ≡ numbers_of ((40 * a + b) ∷ more)
first_two zero b more low second = let few : b ≤ 39 = second (omega arith) in grind (arith, nat_tests)
first_two (suc zero) b more low second = let few : b ≤ 39 = second (omega arith) in grind (arith, nat_tests)
first_two (suc (suc zero)) b more low second = grind (arith, nat_tests)
first_two (suc (suc (suc a))) b more low second = absurd (omega arith)

pub is_name : (numbers : List ℕ) → IsSpellable numbers → All (λ n. n < 2 ^ 32) numbers → length numbers ≤ 128 → IsName (name_octets numbers) numbers
unfolding name_octets
is_name [] spells fit few = absurd spells
is_name (a ∷ []) spells fit few = absurd spells
is_name (a ∷ b ∷ more) spells fit few =
    let rest = All-tail (λ n. n < 2 ^ 32) b more (All-tail (λ n. n < 2 ^ 32) a (b ∷ more) fit) in
    record {
      groups = (40 * a + b) ∷ more;
      are_groups = are_groups ((40 * a + b) ∷ more) (All-cons (λ n. n < 2 ^ 32) (40 * a + b) more spells.2 rest);
      some = omega arith;
      is = first_two a b more spells.0 spells.1;
      few = few;
    }

length-group_octets : (n : ℕ) → length (group_octets n) ≡ higher_groups n + 1
length-group_octets n = length-append (marked_groups (higher_groups n) n) ((n % 128) ∷ []) ∙ ap (λ (k : ℕ). k + 1) (length-marked_groups (higher_groups n) n)

higher_groups-most : (n : ℕ) → higher_groups n ≤ 4
higher_groups-most n = grind (arith, nat_tests)

groups_short : (groups : List ℕ) → length (flat_map group_octets groups) ≤ 5 * length groups
groups_short [] = omega arith
groups_short (n ∷ more) =
    let rest = groups_short more in
    let most = higher_groups-most n in
    let count = length-group_octets n in
    rw (flat_map-cons group_octets n more, length-append (group_octets n) (flat_map group_octets more)) (omega arith)

-- the content of a name has at most 635 octets
pub name_octets-short : (numbers : List ℕ) → IsSpellable numbers → length numbers ≤ 128 → length (name_octets numbers) ≤ 635
unfolding name_octets
name_octets-short [] spells few = absurd spells
name_octets-short (a ∷ []) spells few = absurd spells
name_octets-short (a ∷ b ∷ more) spells few =
    let short = groups_short ((40 * a + b) ∷ more) in omega arith

-- octets give no number that takes more of them
base_128-lt : (m : ℕ) (octets : List ℕ) → base_128 m octets < suc m * 128 ^ length octets
base_128-lt m [] = omega arith
base_128-lt m (o ∷ more) =
    let rest = base_128-lt (128 * m + o % 128) more in
    let wide : suc (128 * m + o % 128) * 128 ^ length more ≤ (128 * suc m) * 128 ^ length more = mul-le-mul_right (128 ^ length more) (omega arith) in
    let up = pow-succ' 128 (length more) in
    let same : (128 * suc m) * 128 ^ length more ≡ suc m * 128 ^ suc (length more) = rw up (omega arith) in
    omega arith

higher_groups-few : (n k : ℕ) → n < 128 ^ suc k → higher_groups n ≤ k
higher_groups-few n zero below = grind (arith, nat_tests)
higher_groups-few n (suc zero) below = grind (arith, nat_tests)
higher_groups-few n (suc (suc zero)) below = grind (arith, nat_tests)
higher_groups-few n (suc (suc (suc zero))) below = grind (arith, nat_tests)
higher_groups-few n (suc (suc (suc (suc k)))) below = let most = higher_groups-most n in omega arith

group-shortest : (group : List ℕ) (n : ℕ) → IsGroup group n → length (group_octets n) ≤ length group
group-shortest [] n is = absurd (let ends = ap length is.is in omega (arith, ends, length-append {A = ℕ}))
group-shortest (o ∷ more) n is =
    let below = base_128-lt 0 (o ∷ more) in
    let few = higher_groups-few n (length more) (rw is.number (omega arith)) in
    omega (arith, length-group_octets n)

groups-shortest : (content groups : List ℕ) → AreGroups content groups → length (flat_map group_octets groups) ≤ length content
groups-shortest content [] are = omega arith
groups-shortest content (n ∷ more) are =
    let first = group-shortest are.0 n are.2 in
    let rest = groups-shortest are.1 more are.4 in
    rw (are.3, flat_map-cons group_octets n more) (omega (arith, length-append {A = ℕ}))

-- the first two numbers give the first group
name_octets-numbers_of : (groups : List ℕ) → 1 ≤ length groups → name_octets (numbers_of groups) ≡ flat_map group_octets groups
unfolding name_octets
name_octets-numbers_of [] some = absurd (omega arith)
name_octets-numbers_of (g ∷ more) some = elim (cases_lt g 40) [
  | inl low ↦
      let is : numbers_of (g ∷ more) ≡ 0 ∷ g ∷ more = grind (arith, nat_tests) in
      let same : 40 * 0 + g ≡ g = omega arith in
      ap name_octets is ∙ ap (λ (n : ℕ). group_octets n ++ flat_map group_octets more) same
  | inr above ↦ elim (cases_lt g 80) [
    | inl low ↦
        let is : numbers_of (g ∷ more) ≡ 1 ∷ (g - 40) ∷ more = grind (arith, nat_tests) in
        let same : 40 * 1 + (g - 40) ≡ g = omega arith in
        ap name_octets is ∙ ap (λ (n : ℕ). group_octets n ++ flat_map group_octets more) same
    | inr above_80 ↦
        let is : numbers_of (g ∷ more) ≡ 2 ∷ (g - 80) ∷ more = grind (arith, nat_tests) in
        let same : 40 * 2 + (g - 80) ≡ g = omega arith in
        ap name_octets is ∙ ap (λ (n : ℕ). group_octets n ++ flat_map group_octets more) same
  ]
]

-- the content of a name is the shortest
name-shortest : (content numbers : List ℕ) → IsName content numbers → length (name_octets numbers) ≤ length content
name-shortest content numbers is =
    let few = groups-shortest content is.groups is.are_groups in
    rw (is.is, name_octets-numbers_of is.groups is.some) few

-- octets that go on from two numbers to the same one, as many and each with the high bit set but the last, are the same
one_base : (m p last end : ℕ) (front other : List ℕ) → length front ≡ length other → All (λ o. 0x80 ≤ o) front → All (λ o. 0x80 ≤ o) other
    → All (λ o. o < 256) front → All (λ o. o < 256) other → last < 0x80 → end < 0x80 → base_128 m (front ++ last ∷ []) ≡ base_128 p (other ++ end ∷ [])
    → (m ≡ p) × (front ++ last ∷ [] ≡ other ++ end ∷ [])
one_base m p last end [] [] count high above are others ends too is =
    let lasts : last ≡ end = omega arith in
    (omega arith, ap (λ (o : ℕ). o ∷ []) lasts)
one_base m p last end [] (o ∷ os) count high above are others ends too is = absurd (omega arith)
one_base m p last end (x ∷ xs) [] count high above are others ends too is = absurd (omega arith)
one_base m p last end (x ∷ xs) (y ∷ ys) count high above are others ends too is =
    let x_high = All-head (λ o. 0x80 ≤ o) x xs high in
    let y_high = All-head (λ o. 0x80 ≤ o) y ys above in
    let x_low = All-head (λ o. o < 256) x xs are in
    let y_low = All-head (λ o. o < 256) y ys others in
    let rest = one_base (128 * m + x % 128) (128 * p + y % 128) last end xs ys (omega arith) (All-tail (λ o. 0x80 ≤ o) x xs high) (All-tail (λ o. 0x80 ≤ o) y ys above)
    (All-tail (λ o. o < 256) x xs are) (All-tail (λ o. o < 256) y ys others) ends too is in
    let same = rest.0 in
    let digit : x ≡ y = omega arith in
    (omega arith, ap (λ (o : ℕ). o ∷ xs ++ last ∷ []) digit ∙ ap (λ (os : List ℕ). y ∷ os) rest.1)

-- a number of a name has one group of so many octets
one_group : (group other : List ℕ) (n : ℕ) → IsGroup group n → IsGroup other n → length group ≡ length other → All (λ o. o < 256) group → All (λ o. o < 256) other → group ≡ other
one_group group other n is too same are others =
    let here = ap length is.is in
    let there = ap length too.is in
    let some = length-append is.front (is.last ∷ []) in
    let more = length-append too.front (too.last ∷ []) in
    let octets = all_front is.front (is.last ∷ []) (subst (λ (xs : List ℕ). All (λ o. o < 256) xs) is.is are) in
    let octets_too = all_front too.front (too.last ∷ []) (subst (λ (xs : List ℕ). All (λ o. o < 256) xs) too.is others) in
    let numbers : base_128 0 (is.front ++ is.last ∷ []) ≡ base_128 0 (too.front ++ too.last ∷ []) =
    ap (base_128 0) (sym is.is) ∙ sym is.number ∙ too.number ∙ ap (base_128 0) too.is in
    let once = one_base 0 0 is.last too.last is.front too.front (omega arith) is.marked too.marked octets octets_too is.ends too.ends numbers in
    is.is ∙ once.1 ∙ sym too.is

marked-all : (k n : ℕ) → All (λ o. o < 256) (marked_groups k n ++ (n % 128) ∷ [])
marked-all zero n = All-cons (λ o. o < 256) (n % 128) [] (omega arith) (All-nil (λ o. o < 256))
marked-all (suc k) n = All-cons (λ o. o < 256) (128 + n / 128 ^ suc k % 128) (marked_groups k n ++ (n % 128) ∷ []) (omega arith) (marked-all k n)

only_groups : (content groups : List ℕ) → AreGroups content groups → All (λ o. o < 256) content → length content ≡ length (flat_map group_octets groups) → content ≡ flat_map group_octets groups
only_groups content [] is are same = is
only_groups content (n ∷ more) is are same =
    let group = is.0 in
    let rest = is.1 in
    let octets = subst (λ (xs : List ℕ). All (λ o. o < 256) xs) is.3 are in
    let first = group-shortest group n is.2 in
    let behind = groups-shortest rest more is.4 in
    let total = ap length is.3 in
    let parts = length-append group rest in
    let wanted : length (flat_map group_octets (n ∷ more)) ≡ length (group_octets n) + length (flat_map group_octets more) =
    ap length (flat_map-cons group_octets n more) ∙ length-append (group_octets n) (flat_map group_octets more) in
    let this = one_group group (group_octets n) n is.2 (is_group n is.2.below) (omega arith) (all_front group rest octets) (marked-all (higher_groups n) n) in
    let others = only_groups rest more is.4 (all_back group rest octets) (omega arith) in
    is.3 ∙ ap (λ (xs : List ℕ). xs ++ rest) this ∙ ap (λ (xs : List ℕ). group_octets n ++ xs) others ∙ sym (flat_map-cons group_octets n more)

pub name-fewest : (content numbers : List ℕ) → IsName content numbers → All (λ o. o < 256) content → AreFewest (name_octets numbers) content
name-fewest content numbers is are =
    let octets : name_octets numbers ≡ flat_map group_octets is.groups = ap name_octets is.is ∙ name_octets-numbers_of is.groups is.some in
    record {
      few = name-shortest content numbers is;
      only = λ same. only_groups content is.groups is.are_groups are (same ∙ ap length octets) ∙ sym octets;
    }
