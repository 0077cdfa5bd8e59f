-- How the code goes through the frames and the datagrams of a run, and what is said of them so: before each datagram come the frames up to its
-- moment, and behind the last one the frames that are left.
use Rattle.std.specs.Prelude.{◌≡◌, ℕ, ◌+◌, ◌-◌, List, [], ◌∷◌, ◌++◌, length, take_while, Result}
use Rattle.rm_model.specs.Journal.{Frame}
use Rattle.rm_pcap.specs.Records.{Stop}
use Rattle.rm_captures.specs.Left.{is_cut}
use Rattle.rm_captures.specs.Merge.{is_by, frames_after}
use Rattle.rm_requests.specs.Lines.{TimedDatagram}
use Rattle.rm_settings.specs.declared.settings.Settings.{Settings}
use Rattle.rm_probe.specs.Events.{Event, Asks, comings}
use Rattle.rm_probe.specs.Said.{Said, Last, is_cut_behind}
use Rattle.rm_probe.specs.Serving.{Arrival, requests_of}
use Rattle.rm_probe.specs.Steps.{SaysFirst}
use Rattle.rm_probe.specs.Text.{AreSaid}
use Rattle.rm_probe.specs.declared.status.Status.{Status}

-- the events up to the last datagram; the number is that of the first
unfoldable pub events_by : ℕ → List Frame → List TimedDatagram → List Event
events_by number frames [] = []
events_by number frames (request ∷ more) =
    comings (take_while (is_by request.moment) frames) ++ Asks number request ∷ events_by (number + 1) (frames_after request.moment frames) more

-- the frames after the last of these datagrams
unfoldable pub frames_left : List TimedDatagram → List Frame → List Frame
frames_left [] frames = frames
frames_left (request ∷ more) frames = frames_left more (frames_after request.moment frames)

-- all events
abbrev pub events : ℕ → List Frame → List TimedDatagram → List Event
events number frames requests = events_by number frames requests ++ comings (frames_left requests frames)

-- all that is said of these frames and datagrams
pub record RunsThrough (settings : Settings) (frames : List Frame) (stop : Stop) (requests : List TimedDatagram) (said : List Said) : Type 0 where
  pub before : List Said
  pub are_said : AreSaid settings [] (events 1 frames requests) before
  pub whole : said ≡ before ++ Last (is_cut stop) (length frames) (length requests) ∷ []

-- all that is said of the frames up to the last datagram and of the datagrams
pub record ServesThrough (settings : Settings) (frames : List Frame) (stop : Stop) (arrivals : List Arrival) (said : List Said) : Type 0 where
  pub before : List Said
  pub are_said : AreSaid settings [] (events_by 1 frames (requests_of arrivals)) before
  pub whole : said ≡ before ++ Last (is_cut_behind (frames_left (requests_of arrivals) frames) stop)
      (length frames - length (frames_left (requests_of arrivals) frames)) (length arrivals) ∷ []

-- what was said: all of it, or the first of it where a call failed
abbrev pub SaysThrough : {T : Type 0} → Settings → List Frame → Stop → List TimedDatagram → List Said → Result T Status → Type 0
SaysThrough settings frames stop requests said result = SaysFirst (RunsThrough settings frames stop requests) said result

abbrev pub SaysServedThrough : {T : Type 0} → Settings → List Frame → Stop → List Arrival → List Said → Result T Status → Type 0
SaysServedThrough settings frames stop arrivals said result = SaysFirst (ServesThrough settings frames stop arrivals) said result
