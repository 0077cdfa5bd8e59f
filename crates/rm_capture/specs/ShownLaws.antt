-- Which packets are kept, by their numbers.
use Rattle.std.proofs.Common.{◌≡◌, ℕ, ◌+◌, ◌-◌, ◌<◌, ◌≤◌, List, Bool, true, false, cond, ◌&&◌, Some, None, refl, length, nat_le, nat_lt, ◌⊎◌, inl, inr, ap, ◌∙◌, arith}
use Rattle.std.specs.Prelude.{is_some, slice_get, get_or}
use Rattle.std.proofs.lemmas.Bool.Decides.{nat_tests}
use Rattle.std.proofs.lemmas.Option.{slice_get_cases}
use Rattle.rm_capture.specs.declared.buffer.Buffer.{Buffer}
use Rattle.rm_capture.specs.declared.full_action.FullAction.{FullAction}
use Rattle.rm_capture.specs.declared.full_action.FullAction.TheVariants.{Lock, Wrap}
use Rattle.rm_capture.specs.Kept.{oldest, oldest_in, packet_with}
use Rattle.rm_capture.specs.BufferShown.{shows}

-- no packet has the number 0
oldest_some : (action : FullAction) (accepted kept : ℕ) → 1 ≤ oldest action accepted kept
oldest_some Lock accepted kept = omega arith
oldest_some Wrap accepted kept = omega arith

pub from_1 : (buffer : Buffer) (now : ℕ) → shows buffer now 0 ≡ false
from_1 buffer now =
    let some = oldest_some buffer.captured.action buffer.captured.accepted (length buffer.captured.ring.packets) in
    let above : nat_le (oldest_in buffer.captured) 0 ≡ false = grind (arith, nat_tests) in
    ap (λ t. t && nat_lt 0 (oldest_in buffer.captured + length buffer.captured.ring.packets)) above

module _ {A : Type 0} (xs : List A) where
  is_within : (k : ℕ) → is_some (slice_get xs k) ≡ nat_lt k (length xs)
  is_within k = by_case (slice_get_cases xs k).1
    where
      by_case : ((x : A) × (k < length xs) × (slice_get xs k ≡ Some x) × (get_or xs k x ≡ x)) ⊎ ((length xs ≤ k) × (slice_get xs k ≡ None)) → is_some (slice_get xs k) ≡ nat_lt k (length xs)
      by_case (inl found) = ap is_some found.2 ∙ (let less : k < length xs = found.1 in grind (arith, nat_tests))
      by_case (inr none) = ap is_some none.1 ∙ (let past : length xs ≤ k = none.0 in grind (arith, nat_tests))

  -- an element is there exactly where its place is below the length
  pub is_there : (first n : ℕ) → is_some (cond (nat_le first n) (slice_get xs (n - first)) None) ≡ (nat_le first n && nat_lt n (first + length xs))
  is_there first n = by_test (nat_le first n) refl
    where
      same : first ≤ n → nat_lt (n - first) (length xs) ≡ nat_lt n (first + length xs)
      same low = grind (arith, nat_tests)

      by_test : (t : Bool) → nat_le first n ≡ t → is_some (cond t (slice_get xs (n - first)) None) ≡ (t && nat_lt n (first + length xs))
      by_test false is = refl
      by_test true is = let low : first ≤ n = grind (arith, nat_tests) in is_within (n - first) ∙ same low

-- a packet is shown exactly where it is kept
pub shown_is : (buffer : Buffer) (now number : ℕ) → is_some (packet_with buffer.captured number) ≡ shows buffer now number
shown_is buffer now number = is_there buffer.captured.ring.packets (oldest_in buffer.captured) number
