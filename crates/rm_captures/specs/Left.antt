-- What is left of captures that are read together, and which frame of theirs comes next.
use Rattle.std.specs.Prelude.{◌≡◌, ◌⊎◌, ◌<◌, ℕ, zero, ◌+◌, Bool, true, false, nat_lt, if◌then◌else◌, List, [], ◌∷◌, Option, Some, None, Result, Ok, Err, ⊤}
use Rattle.rm_edge.specs.Outside.{Held}
use Rattle.rm_model.specs.Journal.{Frame}
use Rattle.rm_pcap.specs.declared.fault.PcapFault.{PcapFault}
use Rattle.rm_pcap.specs.declared.fault.PcapFault.TheVariants.{Included, Original, Late, TooMany, Read}
use Rattle.rm_pcap.specs.declared.capture.Capture.{Capture}
use Rattle.rm_pcap.specs.declared.frame.Step.{Step}
use Rattle.rm_pcap.specs.declared.frame.Step.TheVariants.{Next}
use Rattle.rm_pcap.specs.Records.{Stop, Ended, CutAt}
use Rattle.rm_pcap.specs.Steps.{AreRecords}
use Rattle.rm_pcap.specs.Progress.{Progress, Agrees, frame_of}
use Rattle.rm_pcap.specs.Calls.{LooksAt, Steps, Fails}
use Rattle.rm_pcap.specs.View.{progress_of}
use Rattle.rm_captures.specs.Merge.{merge}
use Rattle.rm_captures.specs.Rounds.{IsFaultless, either_stop}
use Rattle.rm_captures.specs.declared.fault.CaptureFault.{CaptureFault}
use Rattle.rm_captures.specs.declared.coming.Coming.{Coming}

-- of a file of these octets, which is a capture, the records that aren't passed yet have these frames of an interface, and stop so
pub record Leaves (interface : ℕ) (progress : Progress) (bytes : List ℕ) (frames : List Frame) (stop : Stop) : Type 0 where
  pub interface_is : progress.start.interface ≡ interface
  pub agrees : Agrees progress bytes
  pub records : AreRecords progress.form progress.start progress.reach bytes frames stop
  pub faultless : IsFaultless stop

-- of these files, whose interfaces are those from a number on, these frames are left in one order
unfoldable pub AreLeft : ℕ → List Capture → List (List ℕ) → List Frame → Stop → Type 0
AreLeft interface [] [] frames stop = (frames ≡ []) × (stop ≡ Ended)
AreLeft interface [] (bytes ∷ files) frames stop = ⊥
AreLeft interface (capture ∷ more) [] frames stop = ⊥
AreLeft interface (capture ∷ more) (bytes ∷ files) frames stop =
    (own others : List Frame) × (end rest : Stop) × Leaves interface (progress_of capture) bytes own end × AreLeft (interface + 1) more files others rest
    × (frames ≡ merge own others) × (stop ≡ either_stop end rest)

-- what tells of a frame that it comes next
abbrev pub coming_of : Frame → Coming
coming_of frame = record { interface = frame.interface; moment = frame.moment }

-- the sooner of what comes next of an interface, by its moment, and of what comes next of interfaces with higher numbers
abbrev pub sooner : ℕ → Option ℕ → Option Coming → Option Coming
sooner interface None other = other
sooner interface (Some moment) None = Some (record { interface = interface; moment = moment })
sooner interface (Some moment) (Some coming) = if nat_lt coming.moment moment then Some coming else Some (record { interface = interface; moment = moment })

-- it is the first of the frames that are left, or none is left
abbrev pub IsNext : List Frame → Option Coming → Type 0
IsNext [] next = next ≡ None
IsNext (frame ∷ more) next = next ≡ Some (coming_of frame)

-- what a look for the next frame answers, where these are left
abbrev pub FindsNext : List Frame → Result (Option Coming) CaptureFault → Type 0
FindsNext frames (Ok next) = IsNext frames next
FindsNext frames (Err found) = found.fault ≡ Read

-- Captures, whose interfaces are those from a number on, were looked at one by one, and that comes next of all.
unfoldable pub LooksAll : (List ℕ → Held) → ℕ → List (List ℕ) → List Capture → List Capture → Option Coming → Type 0
LooksAll held from [] olds news next = (news ≡ olds) × (next ≡ None)
LooksAll held from (name ∷ names) [] news next = (news ≡ []) × (next ≡ None)
LooksAll held from (name ∷ names) (old ∷ olds) [] next = ⊥
LooksAll held from (name ∷ names) (old ∷ olds) (new ∷ news) next =
    (own : Option ℕ) × (others : Option Coming) × LooksAt (held name) (progress_of old) (progress_of new) own × LooksAll held (from + 1) names olds news others
    × (next ≡ sooner from own others)

-- of the capture of an interface, how far it is read after a step, or after a fault, by which nothing changes
abbrev pub StepsSo : ℕ → Held → Progress → Progress → Result Step CaptureFault → Type 0
StepsSo interface held old new (Ok step) = Steps held old new (Ok step)
StepsSo interface held old new (Err found) = (found.interface ≡ interface) × Fails held old found.fault × (new ≡ old)

-- Of captures whose interfaces are those from a number on, that of an interface takes a step, and the others stay.
unfoldable pub StepsOne : (List ℕ → Held) → ℕ → ℕ → List (List ℕ) → List Capture → List Capture → Result Step CaptureFault → Type 0
StepsOne held from interface [] olds news result = ⊥
StepsOne held from interface (name ∷ names) [] news result = ⊥
StepsOne held from interface (name ∷ names) (old ∷ olds) [] result = ⊥
StepsOne held from interface (name ∷ names) (old ∷ olds) (new ∷ news) result =
    ((interface ≡ from) × StepsSo interface (held name) (progress_of old) (progress_of new) result × (news ≡ olds))
    ⊎ ((from < interface) × (new ≡ old) × StepsOne held (from + 1) interface names olds news result)

-- how many records of all were passed
unfoldable pub passed_of : List Capture → ℕ
passed_of [] = zero
passed_of (capture ∷ more) = (progress_of capture).reach.count + passed_of more

-- a look at a record or a step fails by that, a read or a rule of records
abbrev pub IsOfRecords : PcapFault → Type 0
IsOfRecords Read = ⊤
IsOfRecords (Included at) = ⊤
IsOfRecords (Original at) = ⊤
IsOfRecords (Late at) = ⊤
IsOfRecords TooMany = ⊤
IsOfRecords fault = ⊥

-- whether a capture is cut short, by how the records stop
abbrev pub is_cut : Stop → Bool
is_cut (CutAt at) = true
is_cut stop = false

-- whether one is cut short is told, or a read failed
abbrev pub EndsCut : Stop → Result Bool PcapFault → Type 0
EndsCut stop (Ok cut) = cut ≡ is_cut stop
EndsCut stop (Err fault) = fault ≡ Read

-- and of several
abbrev pub EndCut : Stop → Result Bool CaptureFault → Type 0
EndCut stop (Ok cut) = cut ≡ is_cut stop
EndCut stop (Err found) = found.fault ≡ Read

-- the frame is lent
abbrev pub LendsNext : Step → Frame → Type 0
LendsNext (Next lent) frame = frame_of lent ≡ frame
LendsNext step frame = ⊥

-- the frame that comes next is lent and the others are left, or a read failed and all are left
abbrev pub LeavesNext : (List Frame → Type 0) → Frame → List Frame → Result Step CaptureFault → Type 0
LeavesNext AreFrames frame more (Ok step) = LendsNext step frame × AreFrames more
LeavesNext AreFrames frame more (Err found) = (found.fault ≡ Read) × AreFrames (frame ∷ more)
