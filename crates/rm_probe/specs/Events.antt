-- What happens in a run.
use Rattle.std.specs.Prelude.{ℕ, List, map}
use Rattle.rm_model.specs.Journal.{Frame}
use Rattle.rm_requests.specs.Lines.{TimedDatagram}

-- a frame comes, or a datagram of that number
pub data Event : Type 0 where
  Comes : Frame → Event
  Asks : ℕ → TimedDatagram → Event

-- these frames come, one after the other: what the steps of a run say of frames
abbrev pub comings : List Frame → List Event
comings frames = map Comes frames
