-- The order of what happens in a run.
use Rattle.std.specs.Prelude.{◌≡◌, ◌<◌, ℕ, List, length, slice_index_or, Option, Some, None, filter_map}
use Rattle.std.specs.List.{enumerate_from}
use Rattle.std.specs.List.Sorted.{IsNonDecreasingBy}
use Rattle.rm_model.specs.Journal.{Frame}
use Rattle.rm_requests.specs.Lines.{TimedDatagram}
use Rattle.rm_probe.specs.Events.{Event, Comes, Asks}

-- when an event happens
abbrev pub moment_of : Event → ℕ
moment_of (Comes frame) = frame.moment
moment_of (Asks number request) = request.moment

-- the frame that comes, if one does
abbrev pub coming_in : Event → Option Frame
coming_in (Comes frame) = Some frame
coming_in (Asks number request) = None

-- the datagram that comes, if one does, with its number
abbrev pub asking_in : Event → Option (ℕ × TimedDatagram)
asking_in (Comes frame) = None
asking_in (Asks number request) = Some (number, request)

-- The events are these frames, and these datagrams with their numbers from a number on, each kind in its own order. Their moments don't fall,
-- and a frame behind a datagram comes later than that.
pub record AreInOrder (number : ℕ) (frames : List Frame) (requests : List TimedDatagram) (list : List Event) : Type 0 where
  pub comings : filter_map coming_in list ≡ frames
  pub askings : filter_map asking_in list ≡ enumerate_from number requests
  pub order : IsNonDecreasingBy moment_of list
  pub frames_first : (before after asked : ℕ) (request : TimedDatagram) (frame : Frame) (any : Event) → before < after → after < length list
      → slice_index_or list before any ≡ Asks asked request → slice_index_or list after any ≡ Comes frame → request.moment < frame.moment
