-- How far a capture has been read, and what its calls do to that.
use Rattle.std.specs.Prelude.{◌≡◌, ◌≤◌, ℕ, ◌+◌, List, [], length, drop, Option, Some, None, ⊤}
use Rattle.rm_model.specs.Journal.{Frame as Passed}
use Rattle.rm_pcap.specs.declared.form.Form.{Form}
use Rattle.rm_pcap.specs.declared.start.Start.{Start}
use Rattle.rm_pcap.specs.declared.reach.Reach.{Reach}
use Rattle.rm_pcap.specs.declared.frame.Frame.{Frame}
use Rattle.rm_pcap.specs.declared.frame.Step.{Step}
use Rattle.rm_pcap.specs.declared.frame.Step.TheVariants.{Next, End, Cut}
use Rattle.rm_window.specs.Filling.{IsFront}
use Rattle.rm_pcap.specs.Records.{Ended, CutAt, Broken}
use Rattle.rm_pcap.specs.Steps.{Found, Whole, Stops, IsThere, found_in, found_at, beginning}

-- A capture that is being read: how its octets are read, where its frames stand, how far its records were passed, what was
-- found there, if it was looked at, and the octets that were read from there on.
pub record Progress : Type 0 where
  pub form : Form
  pub start : Start
  pub reach : Reach
  pub ahead : Option Found
  pub read : List ℕ

-- before the first record
abbrev pub begun : Form → Start → Progress
begun form start = record { form = form; start = start; reach = beginning start; ahead = None; read = [] }

-- what stands next in a file of these octets
abbrev pub next_in : Progress → List ℕ → Found
next_in progress bytes = found_at progress.form progress.start progress.reach bytes

-- all of the record that stands next was read
abbrev pub HasRead : Progress → Type 0
HasRead progress = IsThere progress.form progress.start progress.reach progress.read

-- what the octets that were read are
abbrev pub read_next : Progress → Found
read_next progress = found_in progress.form progress.start progress.reach progress.read

-- what was looked at and what was read is what a file of these octets has there
pub record Agrees (progress : Progress) (bytes : List ℕ) : Type 0 where
  pub ahead : (found : Found) → progress.ahead ≡ Some found → found ≡ next_in progress bytes
  pub read : IsFront progress.read (drop progress.reach.at bytes)

-- the same place, with what was found there, and what is read from there on
abbrev pub looking_at : Progress → Found → List ℕ → Progress
looking_at progress found octets = record progress { ahead = Some found; read = octets }

-- the same place, with what was found there, if it was looked at, and what is read from there on
abbrev pub reading : Progress → Option Found → List ℕ → Progress
reading progress found octets = record progress { ahead = found; read = octets }

-- no record was found yet at the place, nor passed
pub record IsUnseen (progress : Progress) : Type 0 where
  pub first : progress.reach ≡ beginning progress.start
  pub unseen : (frame : Passed) (after : Reach) → progress.ahead ≡ Some (Whole frame after) → ⊥

-- a start at which that time stands
abbrev pub with_base : ℕ → Start → Start
with_base base start = record start { base = Some base }

-- before the first record, where that time stands at the lead
abbrev pub based_at : ℕ → Progress → Progress
based_at base progress = record progress { start = with_base base progress.start; reach = beginning (with_base base progress.start) }

-- the place behind what was found, with what is read from there on; it stays where the records stop
abbrev pub passing : Progress → Found → List ℕ → Progress
passing progress (Whole frame after) octets = record progress { reach = after; ahead = None; read = octets }
passing progress (Stops stop) octets = looking_at progress (Stops stop) octets

-- the moment of the frame that was found, if one was
abbrev pub moment_found : Found → Option ℕ
moment_found (Whole frame after) = Some frame.moment
moment_found (Stops stop) = None

-- the frame that the code lends, as a journal holds it
abbrev pub frame_of : Frame → Passed
frame_of frame = record { interface = frame.interface; moment = frame.moment; number = frame.number; octets = frame.bytes.now; original = frame.original }

-- the step shows what was found
abbrev pub Shows : Step → Found → Type 0
Shows (Next frame) (Whole passed after) = passed ≡ frame_of frame
Shows End (Stops Ended) = ⊤
Shows (Cut at) (Stops (CutAt place)) = at ≡ place
Shows step found = ⊥

-- what holds of a record that was found, whatever the file is
pub record IsLawful (reach : Reach) (frame : Passed) (after : Reach) : Type 0 where
  pub captured : length frame.octets ≤ frame.original
  pub most : frame.original ≤ 262144
  pub number : frame.number ≡ reach.count + 1
  pub few : frame.number ≤ 100000000
  pub moment : reach.last ≤ frame.moment
  pub last : after.last ≡ frame.moment
  pub count : after.count ≡ frame.number

-- the same of what was found
abbrev pub IsLawfulFind : Reach → Found → Type 0
IsLawfulFind reach (Whole frame after) = IsLawful reach frame after
IsLawfulFind reach (Stops (Broken fault)) = ⊥
IsLawfulFind reach (Stops stop) = ⊤
