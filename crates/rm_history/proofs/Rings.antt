-- What is kept of buckets when they are closed.
use Rattle.std.proofs.Common.{◌≡◌, ℕ, zero, suc, ◌+◌, ◌-◌, ◌<◌, ◌≤◌, List, [], ◌∷◌, Bool, true, false, cond, Option, refl, sym, ap, ◌∙◌, take, nat_eq, nat_le, arith}
use Rattle.std.specs.Prelude.{slice_get}
use Rattle.std.specs.Option.{option_map_or}
use Rattle.std.proofs.lemmas.Bool.{leb-true, leb-false, le-leb, lt-leb, eqb-true, eqb-false}
use Rattle.std.proofs.lemmas.Bool.Decides.{nat_tests}
use Rattle.rm_ether.specs.declared.counter.Counter.{Counter}
use Rattle.rm_ether.specs.declared.statistics.Statistics.{Statistics}
use Rattle.rm_ether.specs.Standing.{counter_of}
use Rattle.rm_history.specs.Run.{counter_in}

pub get_taken : {X : Type 0} (n d : ℕ) (xs : List X) → d < n → slice_get (take n xs) d ≡ slice_get xs d
get_taken zero d xs h = absurd (omega arith)
get_taken (suc n) d [] h = refl
get_taken (suc n) zero (x ∷ xs) h = refl
get_taken (suc n) (suc d) (x ∷ xs) h = get_taken n d xs (omega arith)

module _ (closed capacity : ℕ) (ring : List Statistics) (current blank : Statistics) (none : (each : Counter) → counter_of blank each ≡ 0) (bucket : ℕ) (each : Counter) where
  abbrev counts : Option Statistics → ℕ
  counts o = option_map_or (λ statistics. counter_of statistics each) o 0

  -- closing a bucket changes no counter of those that aren't given up
  pub one_closed : closed + 1 < bucket + capacity → counter_in (closed + 1) (take capacity (current ∷ ring)) blank bucket each ≡ counter_in closed ring current bucket each
  one_closed left =
      elim (nat_le bucket closed) as (λ t. nat_le bucket closed ≡ t → counter_in (closed + 1) (take capacity (current ∷ ring)) blank bucket each ≡ cond t (counts (slice_get ring (closed - bucket))) (cond (nat_eq bucket (closed + 1)) (counter_of current each) 0)) [
        | true ↦ older
        | false ↦ newer
      ] refl
    where
      older : nat_le bucket closed ≡ true → counter_in (closed + 1) (take capacity (current ∷ ring)) blank bucket each ≡ counts (slice_get ring (closed - bucket))
      older e =
          let le : bucket ≤ closed = leb-true bucket closed e in
          let under : suc (closed - bucket) < capacity = omega arith in
          let place : closed + 1 - bucket ≡ suc (closed - bucket) = omega arith in
          ap (λ t. cond t (counts (slice_get (take capacity (current ∷ ring)) (closed + 1 - bucket))) (cond (nat_eq bucket (closed + 1 + 1)) (counter_of blank each) 0)) (le-leb bucket (closed + 1) (omega arith))
          ∙ ap (λ n. counts (slice_get (take capacity (current ∷ ring)) n)) place
          ∙ ap counts (get_taken capacity (suc (closed - bucket)) (current ∷ ring) under)

      newest : bucket ≡ closed + 1 → counter_in (closed + 1) (take capacity (current ∷ ring)) blank bucket each ≡ counter_of current each
      newest is =
          let place : closed + 1 - bucket ≡ 0 = omega arith in
          ap (λ t. cond t (counts (slice_get (take capacity (current ∷ ring)) (closed + 1 - bucket))) (cond (nat_eq bucket (closed + 1 + 1)) (counter_of blank each) 0)) (le-leb bucket (closed + 1) (omega arith))
          ∙ ap (λ n. counts (slice_get (take capacity (current ∷ ring)) n)) place
          ∙ ap counts (get_taken capacity 0 (current ∷ ring) (omega arith))

      nothing : (t : Bool) → cond t (counter_of blank each) 0 ≡ 0
      nothing true = none each
      nothing false = refl

      newer : nat_le bucket closed ≡ false → counter_in (closed + 1) (take capacity (current ∷ ring)) blank bucket each ≡ cond (nat_eq bucket (closed + 1)) (counter_of current each) 0
      newer e =
          let lt : closed < bucket = leb-false bucket closed e in
          elim (nat_eq bucket (closed + 1)) as (λ t. nat_eq bucket (closed + 1) ≡ t → counter_in (closed + 1) (take capacity (current ∷ ring)) blank bucket each ≡ cond t (counter_of current each) 0) [
            | true ↦ λ is. newest (eqb-true bucket (closed + 1) is)
            | false ↦ λ other.
                let far : bucket ≡ closed + 1 → ⊥ = eqb-false bucket (closed + 1) other in
                ap (λ t. cond t (counts (slice_get (take capacity (current ∷ ring)) (closed + 1 - bucket))) (cond (nat_eq bucket (closed + 1 + 1)) (counter_of blank each) 0)) (lt-leb bucket (closed + 1) (further bucket lt far))
                ∙ nothing (nat_eq bucket (closed + 1 + 1))
          ] refl
        where
          further : (k : ℕ) → closed < k → (k ≡ closed + 1 → ⊥) → closed + 1 < k
          further k lt far = omega arith

  -- where so many are closed at once that none is left, all that are left have no frame
  pub all_given_up : (count : ℕ) → closed + capacity < count → count < bucket + capacity → counter_in count [] blank bucket each ≡ counter_in closed ring current bucket each
  all_given_up count many left =
      let one : closed < bucket = omega arith in
      let two : closed + 1 < bucket = omega arith in
      ap (λ t. cond t (counts (slice_get {X = Statistics} [] (count - bucket))) (cond (nat_eq bucket (count + 1)) (counter_of blank each) 0)) refl
      ∙ nothing_at (nat_le bucket count) (nat_eq bucket (count + 1))
      ∙ sym (ap (λ t. cond t (counts (slice_get ring (closed - bucket))) (cond (nat_eq bucket (closed + 1)) (counter_of current each) 0)) (lt-leb bucket closed one)
      ∙ ap (λ t. cond t (counter_of current each) 0) (not_equal bucket (closed + 1) two))
    where
      not_equal : (a b : ℕ) → b < a → nat_eq a b ≡ false
      not_equal a b h = grind (arith, nat_tests)

      nothing_at : (s t : Bool) → cond s (counts (slice_get {X = Statistics} [] (count - bucket))) (cond t (counter_of blank each) 0) ≡ 0
      nothing_at true t = refl
      nothing_at false true = none each
      nothing_at false false = refl
