-- The contents of the numbers are accepted, and are the fewest octets; no others as few are.
use Rattle.std.proofs.Common.{◌≡◌, ℕ, zero, suc, ◌+◌, ◌-◌, ◌*◌, ◌/◌, ◌%◌, ◌^◌, ◌<◌, ◌≤◌, ℤ, pos, negsuc, ◌-ℤ◌, FitsSigned, Bool, true, false, cond, List, [], ◌∷◌, length, slice_index, All, inl, inr, Some, None, refl, sym, ap, ◌∙◌, arith}
use Rattle.std.proofs.lemmas.Bool.{cases_lt}
use Rattle.std.proofs.lemmas.Bool.Decides.{nat_tests}
use Rattle.std.proofs.lemmas.Option.{same_Some, none-some}
use Rattle.std.proofs.lemmas.Int.{ints}
use Rattle.std.proofs.Math.Nat.{div-lt_iff_lt-mul, div-one, mul-le-mul_right, one-le-pow, pow-succ'}
use Rattle.std.proofs.lemmas.Nat.{pow-add}
use Rattle.std.specs.Int.{w32, w64, byte_at, cast_unsigned}
use Rattle.byteorder.specs.Endian.{big_bytes, big_number, twos_complement}
use Rattle.byteorder.specs.Numbers.{length-bytes_high_first, big_from-lt}
use Rattle.rm_ber.specs.Element.{number_size, number_octets, integer_size, integer_octets}
use Rattle.rm_ber.specs.Grammar.{IsInteger, IsUnsigned}
use Rattle.rm_ber.specs.Canonical.{AreFewest}
use Rattle.rm_ber.proofs.ElementLemmas.{integer_of-integer_octets, integer_octets-short}
use Rattle.rm_ber.proofs.CanonicalLengths.{big_number-bytes, octet_at, big_number-lt, one_spelling, all_bytes}

-- a number has one octet and k more, and its sign bit is 0
pub record IsWide (n k : ℕ) : Type 0 where
  pub size : number_size n ≡ suc k
  pub most : k ≤ 8
  pub below : n < 128 * 256 ^ k

wide : (n : ℕ) → n < 2 ^ 64 → (k : ℕ) × IsWide n k
wide n fits = (number_size n - 1, record { size = grind (arith, nat_tests); most = grind (arith, nat_tests); below = grind (arith, nat_tests) })

number_size-narrow : (n : ℕ) → n < 2 ^ 32 → number_size n ≤ 5
number_size-narrow n fits = grind (arith, nat_tests)

byte_at-pow : (k n : ℕ) → byte_at k n ≡ n / 256 ^ k % 256
byte_at-pow zero n = ap (λ (m : ℕ). m % 256) (sym (div-one n))
byte_at-pow (suc k) n = refl

pow_pos : (k : ℕ) → 0 < 256 ^ k
pow_pos k = let one = one-le-pow k 256 (omega arith) in omega arith

-- the highest octet, with the sign bit
top_octet : (n k : ℕ) → n < 128 * 256 ^ k → slice_index (big_bytes (suc k) n) 0 < 0x80
top_octet n k below =
    let digit : n / 256 ^ k < 128 = (div-lt_iff_lt-mul (pow_pos k)).1 below in
    rw (byte_at-pow k n) (omega arith)

wide_fits : (n k : ℕ) → n < 128 * 256 ^ k → n < 256 ^ suc k
wide_fits n k below = rw (pow-succ' 256 k) (omega arith)

number_size-most : (n : ℕ) → number_size n ≤ 9
number_size-most n = grind (arith, nat_tests)

-- a number takes no more octets than any that hold it below a sign bit
number_size-few : (n k : ℕ) → n < 128 * 256 ^ k → number_size n ≤ suc k
number_size-few n zero below = grind (arith, nat_tests)
number_size-few n (suc zero) below = grind (arith, nat_tests)
number_size-few n (suc (suc zero)) below = grind (arith, nat_tests)
number_size-few n (suc (suc (suc zero))) below = grind (arith, nat_tests)
number_size-few n (suc (suc (suc (suc zero)))) below = grind (arith, nat_tests)
number_size-few n (suc (suc (suc (suc (suc zero))))) below = grind (arith, nat_tests)
number_size-few n (suc (suc (suc (suc (suc (suc zero)))))) below = grind (arith, nat_tests)
number_size-few n (suc (suc (suc (suc (suc (suc (suc zero))))))) below = grind (arith, nat_tests)
number_size-few n (suc (suc (suc (suc (suc (suc (suc (suc k)))))))) below = let most = number_size-most n in omega arith

is_unsigned-wide : (most limit n k : ℕ) → IsWide n k → suc k ≤ most → n < limit → IsUnsigned most limit (number_octets n) n
unfolding number_octets
is_unsigned-wide most limit n k is few below =
    let count = length-bytes_high_first (suc k) n in
    rw is.size (record {
      some = omega (arith, count);
      few = omega (arith, count);
      sign = top_octet n k is.below;
      number = sym (ap (λ (m : ℕ). big_number m (big_bytes (suc k) n)) count ∙ big_number-bytes (suc k) n (wide_fits n k is.below));
      below = below;
    })

pub is_unsigned : (most limit n : ℕ) → n < limit → limit ≤ 2 ^ 64 → number_size n ≤ most → IsUnsigned most limit (number_octets n) n
is_unsigned most limit n below fits few =
    let is = wide n (omega arith) in
    is_unsigned-wide most limit n is.0 is.1 (let size = is.1.size in omega arith) below

pub is_unsigned_32 : (n : ℕ) → n < 2 ^ 32 → IsUnsigned 8 (2 ^ 32) (number_octets n) n
is_unsigned_32 n below = is_unsigned 8 (2 ^ 32) n below (omega arith) (let few = number_size-narrow n below in omega arith)

pub is_unsigned_64 : (n : ℕ) → n < 2 ^ 64 → IsUnsigned 9 (2 ^ 64) (number_octets n) n
is_unsigned_64 n below = is_unsigned 9 (2 ^ 64) n below (omega arith) (number_size-most n)

-- the content of an unsigned number is the shortest
below_sign : (content : List ℕ) (k : ℕ) → All (λ o. o < 256) content → slice_index content 0 < 0x80 → big_number (suc k) content < 128 * 256 ^ k
below_sign content k are sign =
    let rest = big_from-lt 1 k content (λ i. octet_at content i are) in
    let top : slice_index content 0 * 256 ^ k ≤ 127 * 256 ^ k = mul-le-mul_right (256 ^ k) (omega arith) in
    omega arith

unsigned-shortest : (most limit : ℕ) (content : List ℕ) (n : ℕ) → IsUnsigned most limit content n → All (λ o. o < 256) content → length (number_octets n) ≤ length content
unfolding number_octets
unsigned-shortest most limit [] n is are = absurd (let some = is.some in omega arith)
unsigned-shortest most limit (c ∷ cs) n is are =
    let few = number_size-few n (length cs) (rw is.number (below_sign (c ∷ cs) (length cs) are is.sign)) in
    rw (length-bytes_high_first (number_size n) n) few

if_some : (b : Bool) (x z : ℤ) → cond b (Some x) None ≡ Some z → (b ≡ true) × (z ≡ x)
if_some true x z e = (refl, sym (same_Some x z e))
if_some false x z e = absurd (none-some z e)

-- the content of an integer is accepted
pub is_integer : (z : ℤ) → FitsSigned w32 z → IsInteger (integer_octets z) z
is_integer z fits =
    let content : List ℕ = integer_octets z in
    let count : ℕ = length content in
    let found = if_some _ _ z (integer_of-integer_octets z fits) in
    let short = integer_octets-short z fits in
    let passes = found.0 in
    record { some = grind (arith, nat_tests); most = omega arith; number = found.1; fits = fits }

-- and is the shortest
pos_minus : (x m : ℕ) → x < m → pos x -ℤ pos m ≡ negsuc (m - x - 1)
pos_minus x m below = grind (arith, ints)

half : (k : ℕ) → 2 ^ (8 * suc k - 1) ≡ 128 * 256 ^ k
half zero = refl
half (suc k) =
    let up : 8 * suc (suc k) - 1 ≡ 8 + (8 * suc k - 1) = omega arith in
    rw (up, pow-add 2 8 (8 * suc k - 1), half k, pow-succ' 256 k) (omega arith)

whole : (k : ℕ) → 2 ^ (8 * suc k) ≡ 256 * 256 ^ k
whole k =
    let up : 8 * suc k ≡ 1 + (8 * suc k - 1) = omega arith in
    rw (up, pow-add 2 1 (8 * suc k - 1), half k) (omega arith)

integer_size-few : (k x : ℕ) → x < 256 ^ suc k → integer_size (twos_complement (suc k) x) ≤ suc k
integer_size-few k x fits =
    let top = half k in
    let all = whole k in
    let within : x < 256 * 256 ^ k = rw (pow-succ' 256 k) at fits in
    elim (cases_lt x (2 ^ (8 * suc k - 1))) [
      | inl below ↦
          let is : twos_complement (suc k) x ≡ pos x = grind (arith, nat_tests) in
          rw is (number_size-few x k (omega arith))
      | inr above ↦
          let is : twos_complement (suc k) x ≡ pos x -ℤ pos (2 ^ (8 * suc k)) = grind (arith, nat_tests) in
          rw (is, pos_minus x (2 ^ (8 * suc k)) (omega arith)) (number_size-few (2 ^ (8 * suc k) - x - 1) k (omega arith))
    ]

integer_octets-length : (z : ℤ) → length (integer_octets z) ≡ integer_size z
unfolding integer_octets
integer_octets-length z = length-bytes_high_first (integer_size z) (cast_unsigned w64 z)

integer-shortest : (content : List ℕ) (z : ℤ) → IsInteger content z → All (λ o. o < 256) content → length (integer_octets z) ≤ length content
integer-shortest [] z is are = absurd (let some = is.some in omega arith)
integer-shortest (c ∷ cs) z is are =
    let few = integer_size-few (length cs) (big_number (suc (length cs)) (c ∷ cs)) (big_number-lt (suc (length cs)) (c ∷ cs) are) in
    rw (integer_octets-length z, is.number) few

-- an unsigned number has one content of so many octets
one_unsigned : (most limit : ℕ) (content other : List ℕ) (n : ℕ) → IsUnsigned most limit content n → IsUnsigned most limit other n → length content ≡ length other
    → All (λ o. o < 256) content → All (λ o. o < 256) other → content ≡ other
one_unsigned most limit content other n is too same are others =
    one_spelling content other same are others (sym is.number ∙ too.number ∙ ap (λ (k : ℕ). big_number k other) (sym same))

number_octets-all : (n : ℕ) → All (λ o. o < 256) (number_octets n)
unfolding number_octets
number_octets-all n = all_bytes (number_size n) n

unsigned-fewest : (most limit : ℕ) (content : List ℕ) (n : ℕ) → IsUnsigned most limit (number_octets n) n → IsUnsigned most limit content n → All (λ o. o < 256) content
    → AreFewest (number_octets n) content
unsigned-fewest most limit content n canonical is are = record {
  few = unsigned-shortest most limit content n is are;
  only = λ same. one_unsigned most limit content (number_octets n) n is canonical same are (number_octets-all n);
}

pub unsigned_32-fewest : (content : List ℕ) (n : ℕ) → IsUnsigned 8 (2 ^ 32) content n → All (λ o. o < 256) content → AreFewest (number_octets n) content
unsigned_32-fewest content n is are = unsigned-fewest 8 (2 ^ 32) content n (is_unsigned_32 n is.below) is are

pub unsigned_64-fewest : (content : List ℕ) (n : ℕ) → IsUnsigned 9 (2 ^ 64) content n → All (λ o. o < 256) content → AreFewest (number_octets n) content
unsigned_64-fewest content n is are = unsigned-fewest 9 (2 ^ 64) content n (is_unsigned_64 n is.below) is are

-- the bits of a signed number, of so many as are below 2 to their number
abbrev bits_of : ℕ → ℤ → ℕ
bits_of all (pos x) = x
bits_of all (negsuc x) = all - x - 1

bits_back : (k x : ℕ) → x < 256 ^ suc k → x ≡ bits_of (2 ^ (8 * suc k)) (twos_complement (suc k) x)
bits_back k x fits =
    let all = whole k in
    let within : x < 256 * 256 ^ k = rw (pow-succ' 256 k) at fits in
    elim (cases_lt x (2 ^ (8 * suc k - 1))) [
      | inl below ↦
          let is : twos_complement (suc k) x ≡ pos x = grind (arith, nat_tests) in
          rw is refl
      | inr above ↦
          let is : twos_complement (suc k) x ≡ pos x -ℤ pos (2 ^ (8 * suc k)) = grind (arith, nat_tests) in
          rw (is, pos_minus x (2 ^ (8 * suc k)) (omega arith)) (omega arith)
    ]

-- a signed number has one content of so many octets
one_integer : (content other : List ℕ) (z : ℤ) → IsInteger content z → IsInteger other z → length content ≡ length other
    → All (λ o. o < 256) content → All (λ o. o < 256) other → content ≡ other
one_integer [] other z is too same are others = absurd (let some = is.some in omega arith)
one_integer (c ∷ cs) other z is too same are others =
    let k = length cs in
    let here = bits_back k (big_number (suc k) (c ∷ cs)) (big_number-lt (suc k) (c ∷ cs) are) in
    let there = bits_back k (big_number (suc k) other) (big_number-lt (suc k) other others) in
    let number : z ≡ twos_complement (suc k) (big_number (suc k) other) = too.number ∙ ap (λ (n : ℕ). twos_complement n (big_number n other)) (sym same) in
    one_spelling (c ∷ cs) other same are others (here ∙ ap (bits_of (2 ^ (8 * suc k))) (sym is.number ∙ number) ∙ sym there)

integer_octets-all : (z : ℤ) → All (λ o. o < 256) (integer_octets z)
unfolding integer_octets
integer_octets-all z = all_bytes (integer_size z) (cast_unsigned w64 z)

pub integer-fewest : (content : List ℕ) (z : ℤ) → IsInteger content z → All (λ o. o < 256) content → AreFewest (integer_octets z) content
integer-fewest content z is are = record {
  few = integer-shortest content z is are;
  only = λ same. one_integer content (integer_octets z) z is (is_integer z is.fits) same are (integer_octets-all z);
}
