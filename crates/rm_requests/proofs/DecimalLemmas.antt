-- The number that decimal digits are, as it is read and written.
use Rattle.std.proofs.Common.{◌≡◌, ℕ, zero, suc, ◌+◌, ◌-◌, ◌*◌, ◌^◌, ◌<◌, ◌≤◌, true, List, [], ◌∷◌, length, get_or, slice_index, Some, decimal, refl, sym, ap, subst, ◌∙◌, arith}
use Rattle.std.specs.Prelude.{sum_by, All, ◌↔◌}
use Rattle.std.specs.Int.{IsInRange}
use Rattle.std.specs.List.{range_with_len}
use Rattle.std.specs.Str.{all_ascii_digits}
use Rattle.std.specs.Str.Parse.{digits_value}
use Rattle.std.proofs.lemmas.Bool.Decides.{nat_tests}
use Rattle.std.proofs.lemmas.Fmt.{digits_decimal, digits_value-decimal, decimal_nonempty, decimal_digit, first_decimal, length-decimal-le, decimal-digits_value}
use Rattle.std.proofs.lemmas.List.Elements.{All-cons}
use Rattle.std.proofs.lemmas.List.Sums.{sum_by-cons}
use Rattle.std.proofs.lemmas.Str.Parse.{IsNumeralModel, IsDigitsTest, numerals_by_value, numerals_by_weight, tells_all_ascii_digits}
use Rattle.rm_edge.specs.Digits.{number_in}
use Rattle.rm_requests.specs.Decimal.{decimal_sum, IsDecimal, HasNoLeadingZero}

-- a sum over places that begin one later
shift : (f g : ℕ → ℕ) → ((k : ℕ) → f (suc k) ≡ g k) → (a b n : ℕ) → b ≡ suc a → sum_by f (range_with_len b n) ≡ sum_by g (range_with_len a n)
shift f g same a b zero next = refl
shift f g same a b (suc n) next =
    let here : f b ≡ g a = ap f next ∙ same a in
    omega (arith, sum_by-cons f b (range_with_len (b + 1) n), sum_by-cons g a (range_with_len (a + 1) n), here, shift f g same (a + 1) (b + 1) n (omega (arith, next)))

-- the highest digit, and the others
decimal_sum-cons : (c : ℕ) (cs : List ℕ) → decimal_sum (c ∷ cs) ≡ (c - 48) * 10 ^ length cs + decimal_sum cs
decimal_sum-cons c cs =
    let f : ℕ → ℕ = λ place. (slice_index (c ∷ cs) place - 48) * 10 ^ (suc (length cs) - suc place) in
    let g : ℕ → ℕ = λ place. (slice_index cs place - 48) * 10 ^ (length cs - suc place) in
    let behind = shift f g (λ k. ap (λ (n : ℕ). (slice_index cs k - 48) * 10 ^ n) (omega arith)) 0 1 (length cs) refl in
    let first : f 0 ≡ (c - 48) * 10 ^ length cs = ap (λ (n : ℕ). (c - 48) * 10 ^ n) (omega arith) in
    sum_by-cons f 0 (range_with_len 1 (length cs)) ∙ ap (λ (n : ℕ). n + sum_by f (range_with_len 1 (length cs))) first ∙ ap (λ (n : ℕ). (c - 48) * 10 ^ length cs + n) behind

abbrev AreDigits : List ℕ → Type 0
AreDigits text = All (IsInRange 48 57) text

tells_digits : IsDigitsTest AreDigits
tells_digits = record {
  empty = λ k d within. absurd (omega (arith, within));
  parts = λ c cs all. (all 0 0 (omega arith), λ k d within. all (suc k) d (omega (arith, within)));
  more = λ c cs digit all. All-cons (IsInRange 48 57) c cs digit all;
}

-- digits by their sum, and as they are read
by_sum : IsNumeralModel AreDigits decimal_sum
by_sum = numerals_by_weight AreDigits tells_digits decimal_sum (record { empty = refl; more = λ c cs digit. decimal_sum-cons c cs })

as_read : IsNumeralModel (λ ds. all_ascii_digits ds ≡ true) (digits_value 10)
as_read = numerals_by_value _ tells_all_ascii_digits

-- what is read of a text
record IsRead (text : List ℕ) (number : ℕ) : Type 0 where
  digits : all_ascii_digits text ≡ true
  some : 1 ≤ length text
  short : length text ≤ 10
  value : number ≡ digits_value 10 text
  range : number ≤ 4294967295

is_read : (text : List ℕ) (number : ℕ) → number_in text ≡ Some number → IsRead text number
unfolding number_in
is_read text number is = grind (arith, nat_tests)

reads : (text : List ℕ) (number : ℕ) → IsRead text number → number_in text ≡ Some number
unfolding number_in
reads text number is = grind (arith, nat_tests, is.digits, is.some, is.short, is.value, is.range)

pub numbers_are_decimal : (text : List ℕ) (number : ℕ) → (number_in text ≡ Some number) ↔ (IsDecimal text number × (length text ≤ 10) × (number < 2 ^ 32))
numbers_are_decimal text number = (to, from)
  where
    to : number_in text ≡ Some number → IsDecimal text number × (length text ≤ 10) × (number < 2 ^ 32)
    to is =
        let read = is_read text number is in
        let all = as_read.to text read.digits in
        (record { some = omega (arith, read.some); digits = by_sum.from text all; sum = read.value ∙ sym (by_sum.same text all) }, read.short, omega (arith, read.range))

    from : IsDecimal text number × (length text ≤ 10) × (number < 2 ^ 32) → number_in text ≡ Some number
    from (is, short, range) =
        let all = by_sum.to text is.digits in
        reads text number (record { digits = as_read.from text all; some = omega (arith, is.some); short = short; value = is.sum ∙ by_sum.same text all; range = omega (arith, range) })

-- what is written for a number
no_leading_zero : (number : ℕ) → number < 2 ^ 64 → HasNoLeadingZero (decimal number)
no_leading_zero zero small rest begins = let one = decimal_digit 0 (omega arith) in cc
no_leading_zero (suc n) small rest begins = absurd (omega (arith, first_decimal (suc n) (omega arith) small, ap (λ (ds : List ℕ). get_or ds 0 0) begins))

alone : (text : List ℕ) → HasNoLeadingZero text → 0 < length text → get_or text 0 0 ≡ 48 → length text ≡ 1
alone [] none some first = absurd (omega (arith, some))
alone (c ∷ cs) none some first = ap (λ (ds : List ℕ). suc (length ds)) (none cs (ap (λ (d : ℕ). d ∷ cs) first))

written : (number : ℕ) → number < 2 ^ 64 → IsDecimal (decimal number) number
written number small = record { some = decimal_nonempty number small; digits = digits_decimal by_sum number small; sum = sym (digits_value-decimal by_sum number small) }

pub numbers_are_written : (text : List ℕ) (number : ℕ) → number < 2 ^ 64 → (text ≡ decimal number) ↔ (IsDecimal text number × HasNoLeadingZero text)
numbers_are_written text number small = (to, from)
  where
    to : text ≡ decimal number → IsDecimal text number × HasNoLeadingZero text
    to is = subst (λ (ds : List ℕ). IsDecimal ds number × HasNoLeadingZero ds) (sym is) (written number small, no_leading_zero number small)

    from : IsDecimal text number × HasNoLeadingZero text → text ≡ decimal number
    from (is, none) =
        let range : decimal_sum text < 2 ^ 64 = omega (arith, is.sum, small) in
        sym (ap decimal is.sum ∙ decimal-digits_value by_sum text is.digits is.some (alone text none is.some) range)

pub numbers_read_back : (number : ℕ) → number < 2 ^ 32 → number_in (decimal number) ≡ Some number
numbers_read_back number range =
    let small : number < 2 ^ 64 = omega (arith, range) in
    (numbers_are_decimal (decimal number) number).1 (written number small, length-decimal-le 10 number (omega arith) (omega (arith, range)) small, range)
