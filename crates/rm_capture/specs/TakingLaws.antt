-- What is kept of a buffer follows a frame, and stays without one.
use Rattle.std.proofs.Common.{◌≡◌, ℕ, List, [], ◌∷◌, map, filter, Bool, true, false, cond, ◌&&◌, ◌||◌, nat_eq, refl, sym, ap, ◌∙◌, subst}
use Rattle.rm_val.specs.Val.{int}
use Rattle.rm_val.specs.Contents.{natural_in}
use Rattle.rm_model.specs.Alike.{HasSameColumns}
use Rattle.rm_model.specs.Counting.{Counting}
use Rattle.rm_model.specs.Journal.{Frame, Journal, passes}
use Rattle.rm_model.specs.Cells.{is_one_of}
use Rattle.rm_model.specs.ControlRows.{no_rows, is_valid, state_of, set_value, activated}
use Rattle.rm_model.specs.declared.row.State.TheVariants.{Valid}
use Rattle.rm_acts.specs.Seen.{Seen, seen_since}
use Rattle.rm_acts.specs.Buffers.{buffer_table, captures, channel_captured, does_wrap, slice_of, granted_for, granted_of}
use Rattle.rm_collect.specs.Passed.{frame_passed}
use Rattle.rm_collect.specs.Rows.{GoesOn}
use Rattle.rm_filter.specs.declared.accepted.Accepted.{Accepted}
use Rattle.rm_capture.specs.declared.buffer.Buffer.{Buffer}
use Rattle.rm_capture.specs.declared.buffer_row.BufferRow.{BufferRow}
use Rattle.rm_capture.specs.declared.captured.Captured.{Captured}
use Rattle.rm_capture.specs.Captured.{wraps, HasKept}
use Rattle.rm_capture.specs.BufferRows.{set_to}
use Rattle.rm_capture.specs.InRange.{slice_kept}
use Rattle.rm_capture.specs.BufferColumns.{action_is, slice_is, granted_is}
use Rattle.rm_capture.specs.Taking.{frames_accepted, IsBuffer, AreJudged, is_on_among, with_frame, Takes}

abbrev channels_on : List Accepted → List ℕ
channels_on judged = map (λ (each : Accepted). each.channel) (filter (λ (each : Accepted). each.is_on) judged)

-- a channel is one of those that are on
among : (judged : List Accepted) (channel : ℕ) → is_one_of (channels_on judged) channel ≡ is_on_among judged channel
among [] channel = refl
among (each ∷ more) channel = by_on each.is_on (among more channel)
  where
    by_on : (t : Bool) → is_one_of (channels_on more) channel ≡ is_on_among more channel
        → is_one_of (map (λ (each : Accepted). each.channel) (cond t (each ∷ filter (λ (each : Accepted). each.is_on) more) (filter (λ (each : Accepted). each.is_on) more))) channel
        ≡ ((t && nat_eq each.channel channel) || is_on_among more channel)
    by_on true rest = ap (λ b. nat_eq each.channel channel || b) rest
    by_on false rest = rest

-- a frame
module _ (settings : Counting) (journal : Journal) (row : ℕ) (frame : Frame) (judged : List Accepted) (buffer new : Buffer)
    (valid : state_of buffer_table no_rows journal (row ∷ []) ≡ Valid) (judges : AreJudged settings journal frame judged) (is : IsBuffer settings journal row buffer) where
  abbrev one : Seen
  one = record { frame = frame; before = journal }

  abbrev seen : List Seen
  seen = seen_since buffer_table no_rows journal (row ∷ [])

  captured_is : captures settings row one ≡ is_on_among judged buffer.channel
  captured_is = ap (λ l. is_one_of l (channel_captured journal row)) (sym judges) ∙ among judged (channel_captured journal row) ∙ ap (is_on_among judged) (sym is.channel)

  with_one : (t : Bool) → map (λ (s : Seen). s.frame) (cond t (one ∷ filter (captures settings row) seen) (filter (captures settings row) seen))
      ≡ cond t (frame ∷ frames_accepted settings journal row) (frames_accepted settings journal row)
  with_one true = refl
  with_one false = refl

  frames_more : frames_accepted settings (passes frame ∷ journal) row ≡ with_frame judged buffer.channel frame (frames_accepted settings journal row)
  frames_more =
      ap (λ s. map (λ (s : Seen). s.frame) (filter (captures settings row) (cond (is_valid s && is_valid s) (one ∷ seen) []))) valid
      ∙ with_one (captures settings row one)
      ∙ ap (λ t. cond t (frame ∷ frames_accepted settings journal row) (frames_accepted settings journal row)) captured_is

  pub buffer_taken : Takes judged (frame_passed settings frame) buffer new → IsBuffer settings (passes frame ∷ journal) row new
  buffer_taken takes = record {
    channel = takes.channel ∙ is.channel;
    granted = takes.granted ∙ is.granted;
    started = takes.started ∙ is.started ∙ sym (ap (λ s. cond (is_valid s && is_valid s) (activated buffer_table no_rows journal (row ∷ [])) (cond (is_valid s) frame.moment 0)) valid);
    kept = subst (HasKept new.captured settings (does_wrap journal row) (slice_of journal row) (granted_of journal row)) (sym frames_more)
        (takes.kept settings (does_wrap journal row) (slice_of journal row) (granted_of journal row) (frames_accepted settings journal row) frame (record { known = refl; captured = refl; counted = refl; at = refl }) is.kept);
  }

-- what is kept, by the columns of a row and what it has seen
module _ (settings : Counting) (row : ℕ) (captured : Captured) where
  abbrev keeps : Bool → ℕ → ℕ → List Seen → Type 0
  keeps is_wrap size granted seen = HasKept captured settings is_wrap size granted (map (λ (s : Seen). s.frame) (filter (captures settings row) seen))

  same_keeps : (w v : Bool) (m n g h : ℕ) (some other : List Seen) → w ≡ v → m ≡ n → g ≡ h → some ≡ other → keeps w m g some → keeps v n h other
  same_keeps w v m n g h some other action slice granted seen kept =
      subst (keeps v n h) seen (subst (λ k. keeps v n k some) granted (subst (λ k. keeps v k g some) slice (subst (λ t. keeps t m g some) action kept)))

  -- a row that has just become valid
  pub kept_fresh : (columns : BufferRow) (journal : Journal) → HasSameColumns buffer_table (set_to columns) (set_value buffer_table no_rows journal (row ∷ [])) → seen_since buffer_table no_rows journal (row ∷ []) ≡ []
      → HasKept captured settings (wraps columns.full_action) (slice_kept columns) (granted_for (slice_kept columns) (int columns.requested)) []
      → HasKept captured settings (does_wrap journal row) (slice_of journal row) (granted_of journal row) (frames_accepted settings journal row)
  kept_fresh columns journal same unseen kept =
      same_keeps (wraps columns.full_action) (does_wrap journal row) (slice_kept columns) (slice_of journal row) (granted_for (slice_kept columns) (int columns.requested)) (granted_of journal row)
      [] (seen_since buffer_table no_rows journal (row ∷ []))
      (action_is columns (set_value buffer_table no_rows journal (row ∷ [])) same) (slice_is columns (set_value buffer_table no_rows journal (row ∷ [])) same)
      (granted_is columns (set_value buffer_table no_rows journal (row ∷ [])) same) (sym unseen) kept

-- an act that is no frame: the channel, what is done where it is full, the slice and what is granted can't be set meanwhile
pub buffer_going : (settings : Counting) (earlier later : Journal) (row : ℕ) (buffer : Buffer) → GoesOn buffer_table row earlier later → IsBuffer settings earlier row buffer → IsBuffer settings later row buffer
buffer_going settings earlier later row buffer goes is = record {
  channel = is.channel ∙ sym (ap natural_in (goes.set 2 refl refl));
  granted = is.granted ∙ sym granted;
  started = is.started ∙ sym goes.started;
  kept = same_keeps settings row buffer.captured (does_wrap earlier row) (does_wrap later row) (slice_of earlier row) (slice_of later row) (granted_of earlier row) (granted_of later row)
      (seen_since buffer_table no_rows earlier (row ∷ [])) (seen_since buffer_table no_rows later (row ∷ []))
      (sym (ap (λ v. nat_eq (natural_in v) 2) (goes.set 4 refl refl))) (sym (ap natural_in (goes.set 5 refl refl))) (sym granted) (sym goes.seen) is.kept;
}
  where
    granted : granted_of later row ≡ granted_of earlier row
    granted = λ d. granted_for (natural_in (goes.set 5 refl refl d)) (goes.set 8 refl refl d)
