-- Numbers by their digits.
use Rattle.std.proofs.Common.{◌≡◌, ℕ, zero, suc, ◌+◌, ◌-◌, ◌*◌, ◌%◌, ◌^◌, List, [], ◌∷◌, length, slice_index, refl, sym, ap, ◌∙◌, arith}
use Rattle.std.specs.Prelude.{map, sum_by}
use Rattle.std.specs.List.{range_with_len}
use Rattle.std.proofs.Math.Nat.{pow-succ', add-mul}
use Rattle.std.proofs.lemmas.List.{length-map}
use Rattle.std.proofs.lemmas.List.Sums.{sum_by-cons}
use Rattle.byteorder.specs.Endian.{big_from, big_number}
use Rattle.rm_ber.specs.Grammar.{base_128, IsGroup}
use Rattle.rm_ber.specs.Positional.{positional}

-- a sum over places that begin one later
shift : (f g : ℕ → ℕ) → ((k : ℕ) → f (suc k) ≡ g k) → (a b n : ℕ) → b ≡ suc a → sum_by f (range_with_len b n) ≡ sum_by g (range_with_len a n)
shift f g same a b zero next = refl
shift f g same a b (suc n) next =
    let here : f b ≡ g a = ap f next ∙ same a in
    omega (arith, sum_by-cons f b (range_with_len (b + 1) n), sum_by-cons g a (range_with_len (a + 1) n), here, shift f g same (a + 1) (b + 1) n (omega (arith, next)))

-- the highest digit, and the others
positional-cons : (base digit : ℕ) (digits : List ℕ) → positional base (digit ∷ digits) ≡ digit * base ^ length digits + positional base digits
positional-cons base digit digits =
    let f : ℕ → ℕ = λ place. slice_index (digit ∷ digits) place * base ^ (suc (length digits) - suc place) in
    let g : ℕ → ℕ = λ place. slice_index digits place * base ^ (length digits - suc place) in
    let behind = shift f g (λ k. ap (λ (n : ℕ). slice_index digits k * base ^ n) (omega arith)) 0 1 (length digits) refl in
    let first : f 0 ≡ digit * base ^ length digits = ap (λ (n : ℕ). digit * base ^ n) (omega arith) in
    sum_by-cons f 0 (range_with_len 1 (length digits)) ∙ ap (λ (n : ℕ). n + sum_by f (range_with_len 1 (length digits))) first ∙ ap (λ (n : ℕ). digit * base ^ length digits + n) behind

-- the low seven bits of octets
abbrev low_bits : List ℕ → List ℕ
low_bits octets = map (λ octet. octet % 128) octets

goes_on : (n : ℕ) (octets : List ℕ) → base_128 n octets ≡ n * 128 ^ length octets + positional 128 (low_bits octets)
goes_on n [] = omega arith
goes_on n (octet ∷ more) =
    let long : length (low_bits more) ≡ length more = length-map more (λ octet. octet % 128) in
    let first : positional 128 (low_bits (octet ∷ more)) ≡ octet % 128 * 128 ^ length more + positional 128 (low_bits more) =
    positional-cons 128 (octet % 128) (low_bits more) ∙ ap (λ (k : ℕ). octet % 128 * 128 ^ k + positional 128 (low_bits more)) long in
    let here = octet % 128 in
    let power = ap (λ (m : ℕ). n * m) (pow-succ' 128 (length more)) in
    goes_on (128 * n + here) more ∙ omega (arith, first, power, add-mul (128 * n) here (128 ^ length more))

pub group_is_positional : (group : List ℕ) (n : ℕ) → IsGroup group n → n ≡ positional 128 (map (λ octet. octet % 128) group)
group_is_positional group n is = omega (arith, is.number, goes_on 0 group)

-- a number of octets
later_places : (x i n : ℕ) (xs : List ℕ) → big_from (suc i) n (x ∷ xs) ≡ big_from i n xs
later_places x i zero xs = refl
later_places x i (suc n) xs = ap (λ (m : ℕ). slice_index xs i * 256 ^ n + m) (later_places x (suc i) n xs)

pub octets_are_positional : (octets : List ℕ) → big_number (length octets) octets ≡ positional 256 octets
octets_are_positional [] = refl
octets_are_positional (octet ∷ more) =
    ap (λ (m : ℕ). octet * 256 ^ length more + m) (later_places octet 0 (length more) more ∙ octets_are_positional more) ∙ sym (positional-cons 256 octet more)
