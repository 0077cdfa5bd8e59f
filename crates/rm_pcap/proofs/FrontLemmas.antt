-- The numbers of a header stand in its octets alone.
use Rattle.std.proofs.Common.{◌≡◌, ℕ, zero, suc, ◌+◌, ◌-◌, ◌*◌, ◌^◌, ◌≤◌, ◌<◌, nat_le, List, length, take, drop, Option, Some, None, refl, sym, ap, ◌∙◌, arith}
use Rattle.std.specs.Prelude.{slice_index}
use Rattle.std.proofs.lemmas.List.{get_or-take, length-take}
use Rattle.std.proofs.lemmas.Bool.Decides.{nat_tests}
use Rattle.byteorder.specs.Endian.{big_from, little_from}
use Rattle.rm_window.proofs.WindowLemmas.{rest_front}
use Rattle.rm_pcap.specs.declared.form.Order.{Order}
use Rattle.rm_pcap.specs.declared.form.Order.TheVariants.{HighestFirst, LowestFirst}
use Rattle.rm_pcap.specs.declared.form.Form.{Form}
use Rattle.rm_pcap.specs.declared.start.Start.{Start}
use Rattle.rm_pcap.specs.declared.reach.Reach.{Reach}
use Rattle.rm_pcap.specs.Header.{number_at, form_of, has_version, has_link_type, header_with, header_of}
use Rattle.rm_pcap.specs.Records.{included_of, original_of, time_of}
use Rattle.rm_pcap.specs.Steps.{is_late, fault_at}
use Rattle.rm_pcap.specs.Seen.{heading_of, record_of}

index_front : (k i : ℕ) (xs : List ℕ) → i < k → slice_index (take k xs) i ≡ slice_index xs i
index_front k i xs below = get_or-take k xs i 0 below

-- a number that is made up octet by octet
from_front : (from : ℕ → ℕ → List ℕ → ℕ) (step : ℕ → ℕ → ℕ → ℕ) → ((i : ℕ) (xs ys : List ℕ) → from i 0 xs ≡ from i 0 ys) → ((i n : ℕ) (xs : List ℕ) → from i (suc n) xs ≡ step n (slice_index xs i) (from (suc i) n xs))
    → (i n k : ℕ) (xs : List ℕ) → i + n ≤ k → from i n (take k xs) ≡ from i n xs
from_front from step ends goes_on i zero k xs fits = ends i (take k xs) xs
from_front from step ends goes_on i (suc n) k xs fits =
    goes_on i n (take k xs) ∙ ap (λ digit. step n digit (from (suc i) n (take k xs))) (index_front k i xs (omega (arith, fits)))
    ∙ ap (step n (slice_index xs i)) (from_front from step ends goes_on (suc i) n k xs (omega (arith, fits))) ∙ sym (goes_on i n xs)

big_front : (i n k : ℕ) (xs : List ℕ) → i + n ≤ k → big_from i n (take k xs) ≡ big_from i n xs
big_front = from_front big_from (λ n digit more. digit * 256 ^ n + more) (λ i xs ys. refl) (λ i n xs. refl)

little_front : (i n k : ℕ) (xs : List ℕ) → i + n ≤ k → little_from i n (take k xs) ≡ little_from i n xs
little_front = from_front little_from (λ n digit more. digit + 256 * more) (λ i xs ys. refl) (λ i n xs. refl)

-- a number that stands within the front of some octets
pub number_front : (order : Order) (n at m : ℕ) (xs : List ℕ) → at + n ≤ m → number_at order n at (take m xs) ≡ number_at order n at xs
unfolding number_at
number_front HighestFirst n at m xs fits = ap (big_from 0 n) (rest_front at m xs (omega (arith, fits))) ∙ big_front 0 n (m - at) (drop at xs) (omega (arith, fits))
number_front LowestFirst n at m xs fits = ap (little_from 0 n) (rest_front at m xs (omega (arith, fits))) ∙ little_front 0 n (m - at) (drop at xs) (omega (arith, fits))

-- the numbers of the record whose header comes first
pub record_front : (form : Form) (start : Start) (reach : Reach) (xs : List ℕ) → record_of form start reach (take 16 xs) ≡ record_of form start reach xs
unfolding included_of original_of time_of
record_front form start reach xs =
    rw (number_front form.order 4 0 16 xs (omega arith), number_front form.order 4 4 16 xs (omega arith), number_front form.order 4 8 16 xs (omega arith), number_front form.order 4 12 16 xs (omega arith)) refl

pub time_front : (form : Form) (xs : List ℕ) → time_of form (take 16 xs) ≡ time_of form xs
unfolding time_of
time_front form xs = rw (number_front form.order 4 0 16 xs (omega arith), number_front form.order 4 4 16 xs (omega arith)) refl

pub heading_front : (form : Form) (start : Start) (reach : Reach) (xs : List ℕ) → heading_of form start reach (take 16 xs) ≡ heading_of form start reach xs
unfolding is_late included_of original_of time_of
heading_front form start reach xs =
    rw (number_front form.order 4 0 16 xs (omega arith), number_front form.order 4 4 16 xs (omega arith), number_front form.order 4 8 16 xs (omega arith), number_front form.order 4 12 16 xs (omega arith)) refl

pub late_front : (form : Form) (start : Start) (reach : Reach) (xs : List ℕ) → is_late form start reach (take 16 xs) ≡ is_late form start reach xs
unfolding is_late time_of
late_front form start reach xs = rw (number_front form.order 4 0 16 xs (omega arith), number_front form.order 4 4 16 xs (omega arith)) refl

pub fault_front : (form : Form) (start : Start) (reach : Reach) (xs : List ℕ) → fault_at form start reach (take 16 xs) ≡ fault_at form start reach xs
unfolding fault_at is_late included_of original_of time_of
fault_front form start reach xs =
    rw (number_front form.order 4 0 16 xs (omega arith), number_front form.order 4 4 16 xs (omega arith), number_front form.order 4 8 16 xs (omega arith), number_front form.order 4 12 16 xs (omega arith)) refl

-- whether there are so many octets
long_front : (n m : ℕ) (xs : List ℕ) → n ≤ m → nat_le n (length (take m xs)) ≡ nat_le n (length xs)
long_front n m xs within = rw (length-take m xs) (grind (arith, nat_tests))

form_front : (xs : List ℕ) → form_of (take 24 xs) ≡ form_of xs
unfolding form_of
form_front xs = rw (long_front 4 24 xs (omega arith), number_front HighestFirst 4 0 24 xs (omega arith), number_front LowestFirst 4 0 24 xs (omega arith)) refl

version_front : (form : Form) (xs : List ℕ) → has_version form (take 24 xs) ≡ has_version form xs
unfolding has_version
version_front form xs = rw (long_front 8 24 xs (omega arith), number_front form.order 2 4 24 xs (omega arith), number_front form.order 2 6 24 xs (omega arith)) refl

link_front : (form : Form) (xs : List ℕ) → has_link_type form (take 24 xs) ≡ has_link_type form xs
unfolding has_link_type
link_front form xs = rw (long_front 24 24 xs (omega arith), number_front form.order 4 20 24 xs (omega arith)) refl

with_front : (form : Option Form) (xs : List ℕ) → header_with form (take 24 xs) ≡ header_with form xs
with_front None xs = refl
with_front (Some form) xs = rw (version_front form xs, link_front form xs) refl

-- a file header
pub header_front : (xs : List ℕ) → header_of (take 24 xs) ≡ header_of xs
unfolding header_of
header_front xs = rw (form_front xs) (with_front (form_of xs) xs)
