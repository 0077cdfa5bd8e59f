-- The fault of a record's header, and what it tells.
use Rattle.std.proofs.Common.{◌≡◌, ℕ, ◌+◌, ◌^◌, ◌≤◌, ◌<◌, nat_lt, nat_le, Bool, true, false, if◌then◌else◌, ◌&&◌, List, Option, Some, None, refl, subst, arith}
use Rattle.std.proofs.lemmas.Bool.Decides.{nat_tests}
use Rattle.rm_pcap.specs.declared.form.Form.{Form}
use Rattle.rm_pcap.specs.declared.start.Start.{Start}
use Rattle.rm_pcap.specs.declared.fault.PcapFault.{PcapFault}
use Rattle.rm_pcap.specs.declared.fault.PcapFault.TheVariants.{Included, Original, Late, TooMany}
use Rattle.rm_pcap.specs.declared.reach.Reach.{Reach}
use Rattle.rm_pcap.specs.Records.{time_of, included_of, original_of}
use Rattle.rm_pcap.specs.Steps.{fault_at, is_late, moment_at}

-- the record is none too many, and its lengths may be
pub record AreFine (form : Form) (reach : Reach) (xs : List ℕ) : Type 0 where
  pub few : reach.count < 100000000
  pub included : included_of form xs ≤ 262144
  pub original : original_of form xs ≤ 262144

-- what the fault of a header tells, or that there is none
abbrev pub Tells : Form → Start → Reach → List ℕ → Option PcapFault → Type 0
Tells form start reach xs None = AreFine form reach xs × (0 < reach.count → moment_at start reach (time_of form xs) < 2 ^ 32)
Tells form start reach xs (Some TooMany) = 100000000 ≤ reach.count
Tells form start reach xs (Some (Included at)) = (at ≡ reach.at + 8) × (reach.count < 100000000) × (262144 < included_of form xs)
Tells form start reach xs (Some (Original at)) = (at ≡ reach.at + 12) × (reach.count < 100000000) × (included_of form xs ≤ 262144) × (262144 < original_of form xs)
Tells form start reach xs (Some (Late at)) = (at ≡ reach.at) × AreFine form reach xs × (0 < reach.count) × (2 ^ 32 ≤ moment_at start reach (time_of form xs))
Tells form start reach xs (Some fault) = ⊥

module _ (form : Form) (start : Start) (reach : Reach) (xs : List ℕ) where
  pub told : Tells form start reach xs (fault_at form start reach xs)
  unfolding fault_at is_late
  told = by_tests (nat_le 100000000 reach.count) (nat_lt 262144 (included_of form xs)) (nat_lt 262144 (original_of form xs)) (nat_lt 0 reach.count) (nat_le (2 ^ 32) (moment_at start reach (time_of form xs))) refl refl refl refl refl
    where
      by_tests : (many included original counted late : Bool) → nat_le 100000000 reach.count ≡ many → nat_lt 262144 (included_of form xs) ≡ included → nat_lt 262144 (original_of form xs) ≡ original
          → nat_lt 0 reach.count ≡ counted → nat_le (2 ^ 32) (moment_at start reach (time_of form xs)) ≡ late
          → Tells form start reach xs (if many then Some TooMany else if included then Some (Included (reach.at + 8)) else if original then Some (Original (reach.at + 12)) else if counted && late then Some (Late reach.at) else None)
      by_tests true included original counted late a b c d e = grind (arith, nat_tests)
      by_tests false true original counted late a b c d e = (refl, grind (arith, nat_tests), grind (arith, nat_tests))
      by_tests false false true counted late a b c d e = (refl, grind (arith, nat_tests), grind (arith, nat_tests), grind (arith, nat_tests))
      by_tests false false false true true a b c d e =
          (refl, record { few = grind (arith, nat_tests); included = grind (arith, nat_tests); original = grind (arith, nat_tests) }, grind (arith, nat_tests), grind (arith, nat_tests))
      by_tests false false false true false a b c d e =
          (record { few = grind (arith, nat_tests); included = grind (arith, nat_tests); original = grind (arith, nat_tests) }, λ some. grind (arith, nat_tests))
      by_tests false false false false late a b c d e =
          (record { few = grind (arith, nat_tests); included = grind (arith, nat_tests); original = grind (arith, nat_tests) }, λ some. grind (arith, nat_tests))

  pub tells : (fault : Option PcapFault) → fault_at form start reach xs ≡ fault → Tells form start reach xs fault
  tells fault is = subst (Tells form start reach xs) is told

  pub too_many_told : 100000000 ≤ reach.count → fault_at form start reach xs ≡ Some TooMany
  unfolding fault_at
  too_many_told many =
      let a : nat_le 100000000 reach.count ≡ true = grind (arith, nat_tests) in
      rw a refl

  pub included_told : reach.count < 100000000 → 262144 < included_of form xs → fault_at form start reach xs ≡ Some (Included (reach.at + 8))
  unfolding fault_at
  included_told few long =
      let a : nat_le 100000000 reach.count ≡ false = grind (arith, nat_tests) in
      let b : nat_lt 262144 (included_of form xs) ≡ true = grind (arith, nat_tests) in
      rw (a, b) refl

  pub original_told : reach.count < 100000000 → included_of form xs ≤ 262144 → 262144 < original_of form xs → fault_at form start reach xs ≡ Some (Original (reach.at + 12))
  unfolding fault_at
  original_told few short long =
      let a : nat_le 100000000 reach.count ≡ false = grind (arith, nat_tests) in
      let b : nat_lt 262144 (included_of form xs) ≡ false = grind (arith, nat_tests) in
      let c : nat_lt 262144 (original_of form xs) ≡ true = grind (arith, nat_tests) in
      rw (a, b, c) refl

  pub late_told : AreFine form reach xs → 0 < reach.count → 2 ^ 32 ≤ moment_at start reach (time_of form xs) → fault_at form start reach xs ≡ Some (Late reach.at)
  unfolding fault_at is_late
  late_told fine some late =
      let a : nat_le 100000000 reach.count ≡ false = grind (arith, nat_tests, fine.few) in
      let b : nat_lt 262144 (included_of form xs) ≡ false = grind (arith, nat_tests, fine.included) in
      let c : nat_lt 262144 (original_of form xs) ≡ false = grind (arith, nat_tests, fine.original) in
      let d : nat_lt 0 reach.count ≡ true = grind (arith, nat_tests) in
      let e : nat_le (2 ^ 32) (moment_at start reach (time_of form xs)) ≡ true = grind (arith, nat_tests) in
      rw (a, b, c, d, e) refl

  none_by : (counted : Bool) → nat_lt 0 reach.count ≡ counted → (0 < reach.count → moment_at start reach (time_of form xs) < 2 ^ 32) → (counted && is_late form start reach xs) ≡ false
  unfolding is_late
  none_by false is soon = refl
  none_by true is soon =
      let below : moment_at start reach (time_of form xs) < 2 ^ 32 = soon (grind (arith, nat_tests)) in
      grind (arith, nat_tests)

  pub none_told : AreFine form reach xs → (0 < reach.count → moment_at start reach (time_of form xs) < 2 ^ 32) → fault_at form start reach xs ≡ None
  unfolding fault_at
  none_told fine soon =
      let a : nat_le 100000000 reach.count ≡ false = grind (arith, nat_tests, fine.few) in
      let b : nat_lt 262144 (included_of form xs) ≡ false = grind (arith, nat_tests, fine.included) in
      let c : nat_lt 262144 (original_of form xs) ≡ false = grind (arith, nat_tests, fine.original) in
      let d : (nat_lt 0 reach.count && is_late form start reach xs) ≡ false = none_by (nat_lt 0 reach.count) refl soon in
      rw (a, b, c, d) refl

  pub not_late : moment_at start reach (time_of form xs) < 2 ^ 32 → is_late form start reach xs ≡ false
  unfolding is_late
  not_late soon = grind (arith, nat_tests)

  pub is_soon : is_late form start reach xs ≡ false → moment_at start reach (time_of form xs) < 2 ^ 32
  unfolding is_late
  is_soon is = grind (arith, nat_tests)

  pub after_is : 2 ^ 32 ≤ moment_at start reach (time_of form xs) → is_late form start reach xs ≡ true
  unfolding is_late
  after_is above = grind (arith, nat_tests)

  pub is_after : is_late form start reach xs ≡ true → 2 ^ 32 ≤ moment_at start reach (time_of form xs)
  unfolding is_late
  is_after is = grind (arith, nat_tests)
