-- When what is kept of a buffer is what a journal gives, and what becomes of it by a frame.
use Rattle.std.specs.Prelude.{◌≡◌, ℕ, ◌+◌, ◌≤◌, List, [], ◌∷◌, map, filter, Bool, ◌&&◌, nat_eq, if◌then◌else◌}
use Rattle.std.specs.List.{list_any}
use Rattle.rm_model.specs.Counting.{Counting}
use Rattle.rm_model.specs.Journal.{Frame, Journal}
use Rattle.rm_model.specs.ControlRows.{no_rows, activated}
use Rattle.rm_group.specs.Passing.{IsOf}
use Rattle.rm_acts.specs.Seen.{seen_since}
use Rattle.rm_acts.specs.Buffers.{buffer_table, captures, channel_captured, does_wrap, slice_of, granted_of}
use Rattle.rm_acts.specs.Fired.{fired, accepting}
use Rattle.rm_collect.specs.Passed.{Passed}
use Rattle.rm_filter.specs.declared.accepted.Accepted.{Accepted}
use Rattle.rm_capture.specs.declared.buffer.Buffer.{Buffer}
use Rattle.rm_capture.specs.Captured.{HasKept}

-- the frames that a buffer accepted since it became valid, the newest first
abbrev pub frames_accepted : Counting → Journal → (buffer : ℕ) → List Frame
frames_accepted settings journal buffer = map (λ seen. seen.frame) (filter (captures settings buffer) (seen_since buffer_table no_rows journal (buffer ∷ [])))

-- A buffer is that of a valid row after a journal: it keeps what is to be kept of the frames that it accepted.
pub record IsBuffer (settings : Counting) (journal : Journal) (row : ℕ) (buffer : Buffer) : Type 0 where
  pub channel : buffer.channel ≡ channel_captured journal row
  pub granted : buffer.granted ≡ granted_of journal row
  pub started : buffer.started ≡ activated buffer_table no_rows journal (row ∷ [])
  pub kept : HasKept buffer.captured settings (does_wrap journal row) (slice_of journal row) (granted_of journal row) (frames_accepted settings journal row)

-- The channels that were judged to accept a frame: those of them that are on are the ones for which buffers keep it.
abbrev pub AreJudged : Counting → Journal → Frame → List Accepted → Type 0
AreJudged settings journal frame judged =
    map (λ each. each.channel) (filter (λ each. each.is_on) judged) ≡ accepting settings frame journal (fired settings journal)

-- whether a channel is one of them, and on
abbrev pub is_on_among : List Accepted → (channel : ℕ) → Bool
is_on_among judged channel = list_any (λ each. each.is_on && nat_eq each.channel channel) judged

-- the frames that were accepted, with one that passes if its channel is on and accepts it
abbrev pub with_frame : List Accepted → (channel : ℕ) → Frame → List Frame → List Frame
with_frame judged channel frame earlier = if is_on_among judged channel then frame ∷ earlier else earlier

-- what becomes of a buffer by a frame that passes
pub record Takes (judged : List Accepted) (seen : Passed) (buffer new : Buffer) : Type 0 where
  pub channel : new.channel ≡ buffer.channel
  pub granted : new.granted ≡ buffer.granted
  pub started : new.started ≡ buffer.started
  pub accepted : new.captured.accepted ≤ buffer.captured.accepted + 1
  pub kept : (settings : Counting) (is_wrap : Bool) (size granted : ℕ) (earlier : List Frame) (frame : Frame)
      → IsOf settings frame seen.facts seen.octets seen.number seen.moment → HasKept buffer.captured settings is_wrap size granted earlier
      → HasKept new.captured settings is_wrap size granted (with_frame judged buffer.channel frame earlier)
