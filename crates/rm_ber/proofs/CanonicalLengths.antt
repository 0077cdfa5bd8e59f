-- The octets of a length are accepted, and are the fewest; no others as few are.
use Rattle.std.proofs.Common.{◌≡◌, ℕ, zero, suc, ◌+◌, ◌-◌, ◌*◌, ◌/◌, ◌^◌, ◌<◌, ◌≤◌, List, [], ◌∷◌, ◌++◌, length, slice_index, All, refl, sym, ap, subst, ◌∙◌, inl, inr, length-append, arith}
use Rattle.std.proofs.lemmas.Bool.{cases_lt}
use Rattle.std.proofs.lemmas.Bool.Decides.{nat_tests}
use Rattle.std.proofs.lemmas.List.{append-nil}
use Rattle.std.proofs.lemmas.List.Elements.{All-get_or, All-nil, All-cons, All-head, All-tail}
use Rattle.std.proofs.Math.Nat.{mod-eq_of_lt, mod-lt, add-mul, mul-le-mul_right}
use Rattle.std.proofs.Math.ListN.{get_or-eq_default}
use Rattle.std.specs.Int.{byte_at}
use Rattle.byteorder.specs.Endian.{big_bytes, big_number}
use Rattle.byteorder.specs.Numbers.{big_from-bytes, big_from-cons, big_from-lt, length-bytes_high_first}
use Rattle.rm_ber.specs.Element.{length_octets, element}
use Rattle.rm_ber.specs.Grammar.{IsLength, StandsFirst}
use Rattle.rm_ber.specs.Canonical.{AreFewest}

-- the lowest octets of a number are the number, if it has no more
pub big_number-bytes : (n x : ℕ) → x < 256 ^ n → big_number n (big_bytes n x) ≡ x
big_number-bytes n x fits =
    ap (big_number n) (sym (append-nil (big_bytes n x))) ∙ big_from-bytes n x [] ∙ mod-eq_of_lt fits

-- what the octets of a length are
pub data LengthForm (n : ℕ) (octets : List ℕ) : Type 0 where
  short : n < 128 → octets ≡ n ∷ [] → LengthForm n octets
  long : (k : ℕ) → 1 ≤ k → k ≤ 4 → n < 256 ^ k → 128 ≤ n → 256 ^ (k - 1) ≤ n → octets ≡ (128 + k) ∷ big_bytes k n → LengthForm n octets

pub length_form : (n : ℕ) → n < 2 ^ 32 → LengthForm n (length_octets n)
length_form n fits = elim (cases_lt n 128) [
  | inl below ↦ short below (grind (arith, nat_tests))
  | inr above ↦ elim (cases_lt n (2 ^ 8)) [
    | inl below ↦ long 1 (omega arith) (omega arith) below above (omega arith) (grind (arith, nat_tests))
    | inr above_8 ↦ elim (cases_lt n (2 ^ 16)) [
      | inl below ↦ long 2 (omega arith) (omega arith) below above above_8 (grind (arith, nat_tests))
      | inr above_16 ↦ elim (cases_lt n (2 ^ 24)) [
        | inl below ↦ long 3 (omega arith) (omega arith) below above above_16 (grind (arith, nat_tests))
        | inr above_24 ↦ long 4 (omega arith) (omega arith) fits above above_24 (grind (arith, nat_tests))
      ]
    ]
  ]
]

is_length-form : (n : ℕ) (octets : List ℕ) → LengthForm n octets → IsLength octets n
is_length-form n octets (short below is) = rw is (inl (refl, below, refl))
is_length-form n octets (long k some most fits above high is) =
    let count = length-bytes_high_first k n in
    rw (is, count) (inr (some, most, refl, sym (big_number-bytes k n fits)))

-- the octets of a length are accepted
pub is_length : (n : ℕ) → n ≤ 4294967295 → IsLength (length_octets n) n
is_length n fits = is_length-form n (length_octets n) (length_form n (omega arith))

-- an element is accepted
pub element_first : (tag : ℕ) (content rest : List ℕ) → length content ≤ 4294967295 → StandsFirst tag content rest (element tag content ++ rest)
unfolding element
element_first tag content rest fits = record {
  element = element tag content;
  is_element = record { count = length_octets (length content); is_length = is_length (length content) fits; is = refl };
  is = refl;
}

-- and so are its octets one after the other
pub octets_first : (tag : ℕ) (content rest : List ℕ) → length content ≤ 4294967295 → StandsFirst tag content rest (tag ∷ length_octets (length content) ++ content ++ rest)
octets_first tag content rest fits = record {
  element = tag ∷ length_octets (length content) ++ content;
  is_element = record { count = length_octets (length content); is_length = is_length (length content) fits; is = refl };
  is = refl;
}

-- each place of a list of octets holds less than 256
pub octet_at : (octets : List ℕ) (i : ℕ) → All (λ o. o < 256) octets → slice_index octets i < 256
octet_at octets i are = elim (cases_lt i (length octets)) [
  | inl inside ↦ All-get_or (λ o. o < 256) octets i 0 inside are
  | inr outside ↦ rw (get_or-eq_default octets 0 outside) (omega arith)
]

-- k octets hold no number that has more
pub big_number-lt : (k : ℕ) (octets : List ℕ) → All (λ o. o < 256) octets → big_number k octets < 256 ^ k
big_number-lt k octets are = big_from-lt 0 k octets (λ i. octet_at octets i are)

length_octets-few : (m k : ℕ) → m < 256 ^ suc k → length (length_octets m) ≤ suc (suc k)
length_octets-few m zero below = grind (arith, nat_tests)
length_octets-few m (suc zero) below = grind (arith, nat_tests)
length_octets-few m (suc (suc zero)) below = grind (arith, nat_tests)
length_octets-few m (suc (suc (suc k))) below = grind (arith, nat_tests)

-- the octets of a length are no more than those accepted of one that isn't below it
length_octets-shortest : (count : List ℕ) (m n : ℕ) → IsLength count n → m ≤ n → All (λ o. o < 256) count → length (length_octets m) ≤ length count
length_octets-shortest [] m n is within are = absurd is
length_octets-shortest (first ∷ []) m n (inl is) within are = grind (arith, nat_tests)
length_octets-shortest (first ∷ []) m n (inr is) within are = absurd (omega (arith, is.0))
length_octets-shortest (first ∷ o ∷ more) m n (inl is) within are = absurd (omega (arith, ap length is.0))
length_octets-shortest (first ∷ o ∷ more) m n (inr is) within are =
    let below = big_number-lt (suc (length more)) (o ∷ more) (All-tail (λ o. o < 256) first (o ∷ more) are) in
    let number = is.3 in length_octets-few m (length more) (omega arith)

pub all_front : (xs ys : List ℕ) → All (λ o. o < 256) (xs ++ ys) → All (λ o. o < 256) xs
all_front [] ys are = All-nil (λ o. o < 256)
all_front (x ∷ xs) ys are = All-cons (λ o. o < 256) x xs (All-head (λ o. o < 256) x (xs ++ ys) are) (all_front xs ys (All-tail (λ o. o < 256) x (xs ++ ys) are))

pub all_back : (xs ys : List ℕ) → All (λ o. o < 256) (xs ++ ys) → All (λ o. o < 256) ys
all_back [] ys are = are
all_back (x ∷ xs) ys are = all_back xs ys (All-tail (λ o. o < 256) x (xs ++ ys) are)

-- the octets of what was accepted
pub record HasOctets (tag : ℕ) (content rest bytes count : List ℕ) : Type 0 where
  pub is : bytes ≡ tag ∷ count ++ content ++ rest
  pub is_length : IsLength count (length content)

has_octets : (tag : ℕ) (content rest bytes : List ℕ) → StandsFirst tag content rest bytes → (count : List ℕ) × HasOctets tag content rest bytes count
has_octets tag content rest bytes stands =
    (stands.is_element.count, record { is = stands.is ∙ ap (λ (xs : List ℕ). xs ++ rest) stands.is_element.is; is_length = stands.is_element.is_length })

-- the content of what was accepted has octets
pub content_octets : (tag : ℕ) (content rest bytes : List ℕ) → StandsFirst tag content rest bytes → All (λ o. o < 256) bytes → All (λ o. o < 256) content
content_octets tag content rest bytes stands are =
    let has = has_octets tag content rest bytes stands in
    let all : All (λ o. o < 256) (tag ∷ has.0 ++ content ++ rest) = subst (λ (xs : List ℕ). All (λ o. o < 256) xs) has.1.is are in
    all_back (tag ∷ has.0) content (all_front (tag ∷ has.0 ++ content) rest all)

length_of_three : (xs ys zs : List ℕ) → length (xs ++ ys ++ zs) ≡ length xs + length ys + length zs
length_of_three xs ys zs = rw (length-append (xs ++ ys) zs, length-append xs ys) refl

-- octets are no fewer than themselves
pub themselves : (canonical octets : List ℕ) → octets ≡ canonical → AreFewest canonical octets
themselves canonical octets is = record { few = rw is (omega arith); only = λ same. is }

no_digit_below : (place x y a b : ℕ) → a < place → x < y → x * place + a ≡ y * place + b → ⊥
no_digit_below place x y a b small below is =
    let up : (x + 1) * place ≤ y * place = mul-le-mul_right place (omega arith) in
    let expand : (x + 1) * place ≡ x * place + 1 * place = add-mul x 1 place in
    omega arith

-- a number has one highest digit and one rest below it
one_digit : (place x y a b : ℕ) → a < place → b < place → x * place + a ≡ y * place + b → (x ≡ y) × (a ≡ b)
one_digit place x y a b small less is = elim (cases_lt x y) [
  | inl below ↦ absurd (no_digit_below place x y a b small below is)
  | inr least ↦ elim (cases_lt y x) [
    | inl below ↦ absurd (no_digit_below place y x b a less below (sym is))
    | inr most ↦ let same : x ≡ y = omega arith in (same, (let again = ap (λ (d : ℕ). d * place) same in omega arith))
  ]
]

-- a number has one spelling in so many octets
pub one_spelling : (xs ys : List ℕ) → length xs ≡ length ys → All (λ o. o < 256) xs → All (λ o. o < 256) ys → big_number (length xs) xs ≡ big_number (length xs) ys → xs ≡ ys
one_spelling [] [] count are others is = refl
one_spelling [] (y ∷ ys) count are others is = absurd (omega arith)
one_spelling (x ∷ xs) [] count are others is = absurd (omega arith)
one_spelling (x ∷ xs) (y ∷ ys) count are others is =
    let n = length xs in
    let behind = All-tail (λ o. o < 256) x xs are in
    let after = All-tail (λ o. o < 256) y ys others in
    let numbers : x * 256 ^ n + big_number n xs ≡ y * 256 ^ n + big_number n ys =
    ap (λ (m : ℕ). x * 256 ^ n + m) (sym (big_from-cons 0 n x xs)) ∙ is ∙ ap (λ (m : ℕ). y * 256 ^ n + m) (big_from-cons 0 n y ys) in
    let same = one_digit (256 ^ n) x y (big_number n xs) (big_number n ys) (big_number-lt n xs behind) (big_number-lt n ys after) numbers in
    let rest = one_spelling xs ys (omega arith) behind after same.1 in
    ap (λ (o : ℕ). o ∷ xs) same.0 ∙ ap (λ (os : List ℕ). y ∷ os) rest

octet_below : (k n : ℕ) → byte_at k n < 256
octet_below zero n = mod-lt n (omega arith)
octet_below (suc k) n = mod-lt (n / 256 ^ suc k) (omega arith)

-- the octets of a number are octets
pub all_bytes : (k n : ℕ) → All (λ o. o < 256) (big_bytes k n)
all_bytes zero n = All-nil (λ o. o < 256)
all_bytes (suc k) n = All-cons (λ o. o < 256) (byte_at k n) (big_bytes k n) (octet_below k n) (all_bytes k n)

length_octets-form : (n : ℕ) (octets : List ℕ) → LengthForm n octets → All (λ o. o < 256) octets
length_octets-form n octets (short below is) = rw is (All-cons (λ o. o < 256) n [] (omega arith) (All-nil (λ o. o < 256)))
length_octets-form n octets (long k some most fits above high is) = rw is (All-cons (λ o. o < 256) (128 + k) (big_bytes k n) (omega arith) (all_bytes k n))

-- a length has one spelling in so many octets
one_length : (count other : List ℕ) (n : ℕ) → IsLength count n → IsLength other n → length count ≡ length other → All (λ o. o < 256) count → All (λ o. o < 256) other → count ≡ other
one_length [] other n is too same are others = absurd is
one_length (first ∷ more) [] n is too same are others = absurd too
one_length (first ∷ more) (o ∷ os) n (inl is) (inl too) same are others = rw (is.0, too.0, sym is.2, sym too.2) refl
one_length (first ∷ more) (o ∷ os) n (inl is) (inr too) same are others = absurd (omega (arith, ap length is.0, too.0))
one_length (first ∷ more) (o ∷ os) n (inr is) (inl too) same are others = absurd (omega (arith, ap length too.0, is.0))
one_length (first ∷ more) (o ∷ os) n (inr is) (inr too) same are others =
    let count : length more ≡ length os = omega arith in
    let first_is : first ≡ o = omega (arith, is.2, too.2) in
    let numbers : big_number (length more) more ≡ big_number (length more) os = sym is.3 ∙ too.3 ∙ ap (λ (k : ℕ). big_number k os) (sym count) in
    let rest = one_spelling more os count (All-tail (λ o. o < 256) first more are) (All-tail (λ o. o < 256) o os others) numbers in
    ap (λ (x : ℕ). x ∷ more) first_is ∙ ap (λ (xs : List ℕ). o ∷ xs) rest

-- four octets count it
length_fits : (count : List ℕ) (n : ℕ) → IsLength count n → All (λ o. o < 256) count → n < 2 ^ 32
length_fits [] n is are = absurd is
length_fits (first ∷ more) n (inl is) are = omega (arith, is.1, is.2)
length_fits (first ∷ more) n (inr is) are =
    fits_in (length more) is.1 (rw is.3 (big_number-lt (length more) more (All-tail (λ o. o < 256) first more are)))
  where
    fits_in : (k : ℕ) → k ≤ 4 → n < 256 ^ k → n < 2 ^ 32
    fits_in zero few below = omega arith
    fits_in (suc zero) few below = omega arith
    fits_in (suc (suc zero)) few below = omega arith
    fits_in (suc (suc (suc zero))) few below = omega arith
    fits_in (suc (suc (suc (suc zero)))) few below = omega arith
    fits_in (suc (suc (suc (suc (suc k))))) few below = absurd (omega arith)

only_length : (count : List ℕ) (n : ℕ) → IsLength count n → All (λ o. o < 256) count → length count ≡ length (length_octets n) → count ≡ length_octets n
only_length count n is are same =
    let fits = length_fits count n is are in
    one_length count (length_octets n) n is (is_length n (omega arith)) same are (length_octets-form n (length_octets n) (length_form n fits))

-- an element has the fewest octets where its content has
pub element-fewest : (tag : ℕ) (content rest bytes canonical : List ℕ) → StandsFirst tag content rest bytes → All (λ o. o < 256) bytes → AreFewest canonical content
    → AreFewest (element tag canonical ++ rest) bytes
unfolding element
element-fewest tag content rest bytes canonical stands are fewest =
    let has = has_octets tag content rest bytes stands in
    let all : All (λ o. o < 256) (tag ∷ has.0 ++ content ++ rest) = subst (λ (xs : List ℕ). All (λ o. o < 256) xs) has.1.is are in
    let count = All-tail (λ o. o < 256) tag has.0 (all_front (tag ∷ has.0) content (all_front (tag ∷ has.0 ++ content) rest all)) in
    let few = fewest.few in
    let short = length_octets-shortest has.0 (length canonical) (length content) has.1.is_length few count in
    let left = length_of_three (tag ∷ length_octets (length canonical)) canonical rest in
    let right = length_of_three (tag ∷ has.0) content rest in
    record {
      few = rw has.1.is (omega arith);
      only = λ same.
          let total = ap length has.1.is in
          let as_many : length content ≡ length canonical = omega arith in
          let counted : length has.0 ≡ length (length_octets (length canonical)) = omega arith in
          let content_is = fewest.only as_many in
          let count_is : has.0 ≡ length_octets (length content) = only_length has.0 (length content) has.1.is_length count (counted ∙ ap (λ (n : ℕ). length (length_octets n)) (sym as_many)) in
          let spelled : has.0 ≡ length_octets (length canonical) = count_is ∙ ap length_octets as_many in
          has.1.is ∙ ap (λ (xs : List ℕ). tag ∷ xs ++ content ++ rest) spelled
          ∙ ap (λ (xs : List ℕ). tag ∷ length_octets (length canonical) ++ xs ++ rest) content_is;
    }
