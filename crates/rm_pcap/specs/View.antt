-- How far a capture has been read, as its callers see it.
use Rattle.std.specs.Prelude.{◌≡◌, ℕ, List, Option, Some, None, Result, Ok, Err}
use Rattle.rm_edge.specs.Outside.{Held}
use Rattle.rm_pcap.specs.declared.fault.PcapFault.{PcapFault}
use Rattle.rm_pcap.specs.declared.form.Form.{Form}
use Rattle.rm_pcap.specs.declared.record.Seen.{Seen}
use Rattle.rm_pcap.specs.declared.record.Seen.TheVariants.{Whole as SeenWhole, End as SeenEnd, Cut as SeenCut}
use Rattle.rm_window.specs.declared.window.Window.{Window}
use Rattle.rm_pcap.specs.declared.position.Position.{Position}
use Rattle.rm_pcap.specs.declared.capture.Capture.{Capture}
use Rattle.rm_pcap.specs.Records.{Ended, CutAt}
use Rattle.rm_pcap.specs.Steps.{Found, Whole, Stops}
use Rattle.rm_pcap.specs.Progress.{Progress}
use Rattle.rm_pcap.specs.Calls.{Looks, Passes}
use Rattle.rm_pcap.specs.Seen.{frame_seen, found_of}
use Rattle.rm_window.specs.Window.{octets_of, passed_of}

-- what was found at a position, if it was looked at
abbrev pub ahead_of : Position → List ℕ → Option Seen → Option Found
ahead_of position octets None = None
ahead_of position octets (Some seen) = Some (found_of position.start.interface position.reach octets seen)

-- how far a capture was read
unfoldable pub progress_of : Capture → Progress
progress_of capture = record {
  form = capture.position.form;
  start = capture.position.start;
  reach = capture.position.reach;
  ahead = ahead_of capture.position (octets_of capture.window) capture.seen;
  read = octets_of capture.window;
}

-- the form that a capture began with
abbrev pub form_begun : Result Capture PcapFault → Result Form PcapFault
form_begun (Ok capture) = Ok (progress_of capture).form
form_begun (Err fault) = Err fault

-- what was seen at a position and passed
abbrev pub found_passed : Position → Window → Seen → Found
found_passed position window (SeenWhole seen) = Whole (frame_seen position.start.interface seen (passed_of window seen.included)) seen.after
found_passed position window SeenEnd = Stops Ended
found_passed position window SeenCut = Stops (CutAt position.reach.at)

-- what is kept of a look and of a step: what was seen, with the octets that are in the window
abbrev pub KeepsLook : Held → Capture → Capture → Result Seen PcapFault → Type 0
KeepsLook held old new (Ok seen) = Looks held (progress_of old) (progress_of new) (found_of old.position.start.interface old.position.reach (octets_of new.window) seen)
KeepsLook held old new (Err fault) = progress_of new ≡ progress_of old

abbrev pub KeepsStep : Held → Capture → Capture → Result Seen PcapFault → Type 0
KeepsStep held old new (Ok seen) = Passes held (progress_of old) (progress_of new) (found_passed old.position new.window seen)
KeepsStep held old new (Err fault) = progress_of new ≡ progress_of old
