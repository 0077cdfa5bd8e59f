-- What becomes of a history by a frame, and as time goes on without one.
use Rattle.std.proofs.Common.{◌≡◌, ℕ, ◌+◌, ◌<◌, ◌≤◌, List, [], ◌∷◌, Bool, cond, nat_eq, refl, sym, ◌∙◌, ap, subst, filter, length, arith}
use Rattle.std.proofs.Math.Nat.{le_trans}
use Rattle.rm_val.specs.Val.{Val, name}
use Rattle.rm_proto.specs.declared.known.Facts.{Facts}
use Rattle.rm_model.specs.Counting.{Counting}
use Rattle.rm_model.specs.Journal.{Frame, Journal, passes, frames_in}
use Rattle.rm_model.specs.Interfaces.{interface_name, is_interface, frames_of}
use Rattle.rm_model.specs.FrameFacts.{frame_facts}
use Rattle.rm_model.specs.ControlRows.{no_rows, since}
use Rattle.rm_model.specs.declared.row.State.TheVariants.{Valid}
use Rattle.rm_ether.specs.declared.counter.Counter.{Counter}
use Rattle.rm_ether.specs.Counted.{counted, counted_from}
use Rattle.rm_ether.proofs.Sources.{is_source}
use Rattle.rm_columns.specs.Values.{natural_in}
use Rattle.rm_collect.specs.Rows.{GoesOn}
use Rattle.rm_history.specs.declared.plan.Plan.{Plan}
use Rattle.rm_history.specs.declared.run.Run.{Run}
use Rattle.rm_history.specs.Buckets.{end_of, bucket_sum, complete_at}
use Rattle.rm_history.specs.BucketLaws.{ends_by, closed_by, bucket_more}
use Rattle.rm_history.specs.HistoryControl.{history_control, control_state, control_set, granted, plan_of, counted_frames}
use Rattle.rm_history.specs.Run.{Keeps}
use Rattle.rm_history.specs.Runs.{Fits, Counts}
use Rattle.rm_history.specs.Standing.{IsRun}

-- A history fits later too, and after a frame.
pub fits_later : (last now frames : ℕ) (run : Run) → last ≤ now → Fits last frames run → Fits now frames run
fits_later last now frames run later fits = (le_trans fits.0 later, fits.1)

pub fits_counted : (facts : Facts) (moment frames : ℕ) (run new : Run) → Fits moment frames run → Counts facts moment run new → Fits moment (frames + 1) new
fits_counted facts moment frames run new fits counts = (
  subst (λ (plan : Plan). end_of plan new.closed ≤ moment) (sym counts.plan) (subst (λ n. end_of run.plan n ≤ moment) (sym counts.closed) (ends_by run.plan run.closed moment fits.0)),
  omega (arith, counts.packets, fits.1),
)

-- A history after one more frame.
module _ (settings : Counting) (journal : Journal) (row : ℕ) (frame : Frame) (run new : Run) (valid : control_state journal (row ∷ []) ≡ Valid)
    (reached : end_of run.plan run.closed ≤ frame.moment) (is : IsRun settings journal row run) (counts : Counts (frame_facts settings frame) frame.moment run new) where
  abbrev index : List ℕ
  index = row ∷ []

  abbrev after : Journal
  after = passes frame ∷ journal

  abbrev test : Frame → Bool
  test other = is_interface (control_set journal index 2) other.interface

  abbrev frames : List Frame
  frames = frames_in (since history_control no_rows journal index)

  same_plan : plan_of after index ≡ plan_of journal index
  same_plan = rw valid refl

  frames_more : counted_frames after index ≡ filter test (frame ∷ frames)
  frames_more = rw valid refl

  -- what the frame adds to a counter, by the interface that is kept and by the data source of the row
  adds : (each : Counter) → cond (test frame) (counted each (frame_facts settings frame)) 0 ≡ counted_from run.source each (frame_facts settings frame)
  adds each =
      ap (λ v. cond (is_interface v frame.interface) (counted each (frame_facts settings frame)) 0) (sym is.source)
      ∙ ap (λ t. cond t (counted each (frame_facts settings frame)) 0) (is_source run.source frame.interface)

  keeps : Keeps new settings (counted_frames after index)
  keeps bucket each one left =
      counts.buckets bucket each one left
      ∙ ap (λ n. n + more (counted_from run.source each (frame_facts settings frame))) (is.keeps bucket each one before)
      ∙ ap (λ n. bucket_sum settings run.plan (filter test frames) bucket each + more n) (sym (adds each))
      ∙ sym (bucket_more settings run.plan frames frame bucket each one begun run.some test)
      ∙ ap (λ (l : List Frame). bucket_sum settings run.plan l bucket each) (sym frames_more)
      ∙ ap (λ (plan : Plan). bucket_sum settings plan (counted_frames after index) bucket each) (sym counts.plan)
    where
      more : ℕ → ℕ
      more n = cond (nat_eq bucket (complete_at run.plan frame.moment + 1)) n 0

      begun : run.plan.start ≤ frame.moment
      begun = omega (arith, reached)

      -- the bucket wasn't given up before
      before : run.closed < bucket + run.ring.capacity
      before =
          let closed : run.closed ≤ complete_at run.plan frame.moment = closed_by run.plan run.closed frame.moment run.some reached in
          let room = run.room in
          let new_room = new.room in
          let kept : complete_at run.plan frame.moment < bucket + new.ring.capacity = subst (λ n. n < bucket + new.ring.capacity) counts.closed left in
          omega (arith, closed, room, new_room, kept)

  pub run_counts : IsRun settings after row new
  run_counts = record {
    plan = counts.plan ∙ is.plan ∙ sym same_plan;
    source = ap (λ n. name (interface_name n)) counts.source ∙ is.source;
    keeps = keeps;
    reached = (fits_counted (frame_facts settings frame) frame.moment run.current.packets run new (reached, omega arith) counts).0;
  }

pub run_taken : (settings : Counting) (journal : Journal) (row : ℕ) (frame : Frame) (run new : Run) → control_state journal (row ∷ []) ≡ Valid
    → Fits frame.moment (length (frames_in journal)) run → IsRun settings journal row run → Counts (frame_facts settings frame) frame.moment run new → IsRun settings (passes frame ∷ journal) row new
run_taken settings journal row frame run new valid fits is counts = run_counts settings journal row frame run new valid fits.0 is counts

-- what a plan has of the columns of a row
abbrev planned : ℕ → Val → Val → Plan
planned start interval requested = record { start = start; seconds = natural_in interval; kept = granted (natural_in requested) }

-- A history where its row has gone on without a frame: how it is taken, and from which data source, can't be set meanwhile.
pub run_going : (settings : Counting) (earlier later : Journal) (row : ℕ) (run : Run) → GoesOn history_control row earlier later → IsRun settings earlier row run → IsRun settings later row run
run_going settings earlier later row run goes is = record {
  plan = is.plan ∙ sym same_plan;
  source = is.source ∙ sym (goes.set 2 refl refl);
  keeps = subst (Keeps run settings) (sym same_frames) is.keeps;
  reached = le_trans is.reached goes.moment;
}
  where
    same_plan : plan_of later (row ∷ []) ≡ plan_of earlier (row ∷ [])
    same_plan = λ d. planned (goes.started d) (goes.set 5 refl refl d) (goes.set 3 refl refl d)

    same_frames : counted_frames later (row ∷ []) ≡ counted_frames earlier (row ∷ [])
    same_frames = λ d. frames_of (goes.set 2 refl refl d) (goes.frames d)
