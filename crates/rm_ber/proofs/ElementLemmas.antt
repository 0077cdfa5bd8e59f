-- The content of an INTEGER reads back.
use Rattle.std.proofs.Common.{◌≡◌, ℕ, suc, ◌-◌, ◌%◌, ◌^◌, ◌<◌, ◌≤◌, ℤ, pos, negsuc, FitsSigned, List, [], length, inl, inr, Some, sym, ap, ◌∙◌, arith}
use Rattle.std.proofs.lemmas.Bool.{cases_lt}
use Rattle.std.proofs.lemmas.Bool.Decides.{nat_tests}
use Rattle.std.proofs.lemmas.List.{append-nil}
use Rattle.std.proofs.lemmas.Int.{ints}
use Rattle.std.specs.Int.{w32}
use Rattle.byteorder.specs.Endian.{big_bytes, big_number, twos_complement}
use Rattle.byteorder.specs.Numbers.{big_from-bytes, length-bytes_high_first}
use Rattle.rm_ber.specs.Element.{number_size, integer_size, integer_octets, integer_of}

-- a number below 2 ^ 31 has the size of the first range that it is in
pub data IsSized (n size : ℕ) : Type 0 where
  one : size ≡ 1 → n < 2 ^ 7 → IsSized n size
  two : size ≡ 2 → n < 2 ^ 15 → IsSized n size
  three : size ≡ 3 → n < 2 ^ 23 → IsSized n size
  four : size ≡ 4 → n < 2 ^ 31 → IsSized n size

sized : (n : ℕ) → n < 2 ^ 31 → IsSized n (number_size n)
sized n h = elim (cases_lt n (2 ^ 7)) [
  | inl below ↦ one (grind (arith, nat_tests)) below
  | inr above ↦ elim (cases_lt n (2 ^ 15)) [
    | inl below ↦ two (grind (arith, nat_tests)) below
    | inr above ↦ elim (cases_lt n (2 ^ 23)) [
      | inl below ↦ three (grind (arith, nat_tests)) below
      | inr above ↦ four (grind (arith, nat_tests)) h
    ]
  ]
]

-- a number is what its content gives
integer_of-parts : (content : List ℕ) (n : ℕ) (z : ℤ) → length content ≡ n → twos_complement n (big_number n content) ≡ z → 0 < n → n ≤ 8 → integer_size z ≤ 4
    → integer_of content ≡ Some z
integer_of-parts content n z len number some most small = grind (arith, nat_tests)

-- the lowest octets of a number
big_number-bytes : (n x : ℕ) → big_number n (big_bytes n x) ≡ x % 256 ^ n
big_number-bytes n x = ap (big_number n) (sym (append-nil (big_bytes n x))) ∙ big_from-bytes n x []

twos_pos : (n size : ℕ) → IsSized n size → twos_complement size (n % 256 ^ size) ≡ pos n
twos_pos n size (one e h) = rw e (grind (arith, nat_tests))
twos_pos n size (two e h) = rw e (grind (arith, nat_tests))
twos_pos n size (three e h) = rw e (grind (arith, nat_tests))
twos_pos n size (four e h) = rw e (grind (arith, nat_tests))

twos_neg : (n size : ℕ) → IsSized n size → twos_complement size ((2 ^ 64 - suc n) % 256 ^ size) ≡ negsuc n
twos_neg n size (one e h) = rw e (grind (arith, nat_tests, ints))
twos_neg n size (two e h) = rw e (grind (arith, nat_tests, ints))
twos_neg n size (three e h) = rw e (grind (arith, nat_tests, ints))
twos_neg n size (four e h) = rw e (grind (arith, nat_tests, ints))

size_bounds : (n size : ℕ) → IsSized n size → (0 < size) × (size ≤ 4)
size_bounds n size (one e h) = (omega arith, omega arith)
size_bounds n size (two e h) = (omega arith, omega arith)
size_bounds n size (three e h) = (omega arith, omega arith)
size_bounds n size (four e h) = (omega arith, omega arith)

-- the lowest octets x of a number read back as it
integer_of-bytes : (z : ℤ) (n x : ℕ) → IsSized n (integer_size z) → twos_complement (integer_size z) (x % 256 ^ integer_size z) ≡ z
    → integer_of (big_bytes (integer_size z) x) ≡ Some z
integer_of-bytes z n x sized back =
    let size = integer_size z in
    let bounds = size_bounds n (integer_size z) sized in
    integer_of-parts (big_bytes size x) size z (length-bytes_high_first size x) (ap (twos_complement size) (big_number-bytes size x) ∙ back)
    bounds.0 (omega arith) bounds.1

-- what is written of a number of 32 bits reads back
pub integer_of-integer_octets : (z : ℤ) → FitsSigned w32 z → integer_of (integer_octets z) ≡ Some z
unfolding integer_octets
integer_of-integer_octets (pos n) fits =
    let size = sized n (omega (arith, fits.sfits)) in
    integer_of-bytes (pos n) n n size (twos_pos n (number_size n) size)
integer_of-integer_octets (negsuc n) fits =
    let size = sized n (omega (arith, fits.sfits)) in
    integer_of-bytes (negsuc n) n (2 ^ 64 - suc n) size (twos_neg n (number_size n) size)

-- and has at most 4 octets
pub integer_octets-short : (z : ℤ) → FitsSigned w32 z → length (integer_octets z) ≤ 4
unfolding integer_octets
integer_octets-short (pos n) fits =
    let bounds = size_bounds n (number_size n) (sized n (omega (arith, fits.sfits))) in
    omega (arith, bounds, length-bytes_high_first (number_size n) n)
integer_octets-short (negsuc n) fits =
    let bounds = size_bounds n (number_size n) (sized n (omega (arith, fits.sfits))) in
    omega (arith, bounds, length-bytes_high_first (number_size n) (2 ^ 64 - suc n))
