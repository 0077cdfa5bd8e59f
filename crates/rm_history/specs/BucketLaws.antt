-- Which bucket a frame is in, and what buckets have with one more frame.
use Rattle.std.proofs.Common.{◌≡◌, ℕ, ◌+◌, ◌-◌, ◌*◌, ◌/◌, ◌<◌, ◌≤◌, List, ◌∷◌, Bool, true, false, cond, ◌&&◌, nat_eq, nat_le, nat_lt, ◌∙◌, ap, subst, filter, arith}
use Rattle.std.proofs.lemmas.Bool.{and_parts, leb-true, ltb-true, le-leb}
use Rattle.std.proofs.lemmas.Bool.Decides.{same_from_decides, Decides-and, Decides-like, Decides-ltb, Decides-eqb}
use Rattle.std.proofs.Math.Nat.{mul-div-le, lt-mul-div-succ, le-div_iff_mul-le, div-eq_of_lt-le, mul_comm}
use Rattle.rm_model.specs.Counting.{Counting}
use Rattle.rm_model.specs.Journal.{Frame}
use Rattle.rm_model.specs.FrameFacts.{frame_facts}
use Rattle.rm_ether.specs.declared.counter.Counter.{Counter}
use Rattle.rm_ether.specs.Counted.{counted}
use Rattle.rm_ether.proofs.Sources.{sum_more}
use Rattle.rm_history.specs.declared.plan.Plan.{Plan}
use Rattle.rm_history.specs.Buckets.{length_of, end_of, falls_in, bucket_sum, complete_at, is_shown}

-- the buckets that are complete at a moment end by then, and are those that are closed, or more
pub ends_by : (plan : Plan) (closed moment : ℕ) → end_of plan closed ≤ moment → end_of plan (complete_at plan moment) ≤ moment
ends_by plan closed moment reached = with_start (length_of plan * ((moment - plan.start) / length_of plan)) (mul-div-le (moment - plan.start) (length_of plan))
  where
    with_start : (n : ℕ) → n ≤ moment - plan.start → plan.start + n ≤ moment
    with_start n h = omega (arith, h, reached)

pub closed_by : (plan : Plan) (closed moment : ℕ) → 1 ≤ plan.seconds → end_of plan closed ≤ moment → closed ≤ complete_at plan moment
closed_by plan closed moment some reached =
    (le-div_iff_mul-le {x = closed} {y = moment - plan.start} wide).1 (subst (λ n. n ≤ moment - plan.start) (mul_comm (length_of plan) closed) before)
  where
    wide : 0 < length_of plan
    wide = omega arith

    before : length_of plan * closed ≤ moment - plan.start
    before = omega (arith, reached)

-- a bucket that is shown is one of the last that are complete
pub shown_tells : (plan : Plan) (now bucket : ℕ) → is_shown plan now bucket ≡ true → (1 ≤ bucket) × (bucket ≤ complete_at plan now) × (complete_at plan now < bucket + plan.kept)
shown_tells plan now bucket shown =
    let some = and_parts (nat_le 1 bucket) _ shown in
    let complete = and_parts (nat_le bucket (complete_at plan now)) _ some.1 in
    (leb-true 1 bucket some.0, leb-true bucket (complete_at plan now) complete.0, ltb-true (complete_at plan now) (bucket + plan.kept) complete.1)

-- A moment is in a bucket exactly where the bucket is the one after those that are complete then.
module _ (length start moment bucket : ℕ) (wide : 0 < length) (begun : start ≤ moment) (one : 1 ≤ bucket) where
  abbrev over : ℕ
  over = moment - start

  -- whether it isn't before the bucket, and isn't behind it
  abbrev IsIn : Type 0
  IsIn = (start + length * (bucket - 1) ≤ moment) × (moment < start + length * bucket)

  under_way : bucket ≡ over / length + 1 → IsIn
  under_way is =
      let before : bucket - 1 ≡ over / length = omega (arith, is) in
      let least : length * (bucket - 1) ≤ over = rw before (mul-div-le over length) in
      let most : over < length * bucket = rw is (lt-mul-div-succ over wide) in
      (omega (arith, begun, least), omega (arith, begun, most))

  is_under_way : IsIn → bucket ≡ over / length + 1
  is_under_way is =
      let least : length * (bucket - 1) ≤ over = omega (arith, is.0) in
      let most : over < length * bucket = omega (arith, begun, is.1) in
      let after : bucket - 1 + 1 ≡ bucket = omega (arith, one) in
      let before : over / length ≡ bucket - 1 =
      div-eq_of_lt-le length (rw (mul_comm (bucket - 1) length) least) (rw (mul_comm (bucket - 1 + 1) length) (rw after most)) in
      omega (arith, one, before)

  in_bucket : (nat_le (start + length * (bucket - 1)) moment && nat_lt moment (start + length * bucket)) ≡ nat_eq bucket (over / length + 1)
  in_bucket =
      same_from_decides _ _ (Decides-and _ _ (leb-true _ _, le-leb _ _) (Decides-ltb moment (start + length * bucket)))
      (Decides-like _ under_way is_under_way (Decides-eqb bucket (over / length + 1)))

module _ (settings : Counting) (plan : Plan) (frames : List Frame) (frame : Frame) (bucket : ℕ) (each : Counter) (one : 1 ≤ bucket) (begun : plan.start ≤ frame.moment) (some : 1 ≤ plan.seconds) where
  abbrev adds : ℕ
  adds = counted each (frame_facts settings frame)

  -- a bucket of the frames that pass a test, with one more frame
  pub bucket_more : (test : Frame → Bool) → bucket_sum settings plan (filter test (frame ∷ frames)) bucket each ≡ bucket_sum settings plan (filter test frames) bucket each + cond (nat_eq bucket (complete_at plan frame.moment + 1)) (cond (test frame) adds 0) 0
  bucket_more test =
      elim (test frame) as (λ t. bucket_sum settings plan (cond t (frame ∷ filter test frames) (filter test frames)) bucket each ≡ bucket_sum settings plan (filter test frames) bucket each + cond (nat_eq bucket (complete_at plan frame.moment + 1)) (cond t adds 0) 0) [
        | true ↦ sum_more (λ f. counted each (frame_facts settings f)) (falls_in plan bucket) frame (filter test frames)
            ∙ ap (λ t. bucket_sum settings plan (filter test frames) bucket each + cond t adds 0) (in_bucket (length_of plan) plan.start frame.moment bucket (omega (arith, some)) begun one)
        | false ↦ nothing (nat_eq bucket (complete_at plan frame.moment + 1)) (bucket_sum settings plan (filter test frames) bucket each)
      ]
    where
      nothing : (t : Bool) (n : ℕ) → n ≡ n + cond t 0 0
      nothing true n = omega arith
      nothing false n = omega arith
