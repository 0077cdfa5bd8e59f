-- How the summary of a capture ends: what each answer says of the file, of the counts of faults, and of the octets written.
use Rattle.std.specs.Prelude.{◌≡◌, ◌⊎◌, ℕ, Bool, List, Result, Ok, Err, ⊤}
use Rattle.rm_edge.specs.Outside.{File, OfFile, Adds, AddsFront}
use Rattle.rm_edge.specs.Uses.{FileUse, SinkUse, HasReadFault, HasPutFault, IsUntouched}
use Rattle.rm_model.specs.Journal.{Frame}
use Rattle.rm_pcap.specs.Records.{Broken, ReadsAs, alone}
use Rattle.rm_pcap.specs.declared.fault.PcapFault.{PcapFault}
use Rattle.rm_pcap.specs.declared.fault.PcapFault.TheVariants.{Read, NoMemory}
use Rattle.rm_summary.specs.declared.entry.SummaryFault.{SummaryFault}
use Rattle.rm_summary.specs.declared.entry.SummaryFault.TheVariants.{Capture, Put}
use Rattle.rm_summary.specs.Text.{IsSummary}

-- the octets aren't a capture, and their first fault is this one
abbrev pub IsBroken : ℕ → PcapFault → List ℕ → Type 0
IsBroken lead fault bytes = (frames : List Frame) × ReadsAs (alone lead) bytes frames (Broken fault)

-- what a fault of a capture says of its file
abbrev pub IsFault : ℕ → FileUse → PcapFault → Type 0
IsFault lead capture Read = HasReadFault capture
IsFault lead capture NoMemory = ⊤
IsFault lead capture fault = OfFile capture.held (IsBroken lead fault)

-- What an answer says. With a fault of the capture nothing is written, and with a failed put a front of the summary.
abbrev pub Ends : {T : Type 0} → ℕ → Bool → FileUse → SinkUse → Result T SummaryFault → Type 0
Ends lead keep_short capture out (Ok done) =
    OfFile capture.held (λ bytes. (text : List ℕ) × IsSummary lead keep_short bytes text × Adds out.content out.content_after text)
Ends lead keep_short capture out (Err (Capture fault)) = IsFault lead capture fault × IsUntouched out
Ends lead keep_short capture out (Err Put) =
    HasPutFault out
    × OfFile capture.held (λ bytes. (text : List ℕ) × IsSummary lead keep_short bytes text × AddsFront out.content out.content_after text)

-- a fault comes, but for want of memory or a failed read
abbrev pub Comes : {T : Type 0} → PcapFault → Result T SummaryFault → Type 0
Comes fault result = (result ≡ Err (Capture fault)) ⊎ (result ≡ Err (Capture NoMemory)) ⊎ (result ≡ Err (Capture Read))

-- Where the file breaks a rule, its first fault comes. Where it has a summary and no call failed, that is written, or there was no memory.
pub record IsExact {T : Type 0} (lead : ℕ) (keep_short : Bool) (capture : FileUse) (out : SinkUse) (result : Result T SummaryFault) : Type 0 where
  pub broken : (bytes : List ℕ) (fault : PcapFault) → capture.held ≡ File bytes → IsBroken lead fault bytes → Comes fault result
  pub complete : (bytes text : List ℕ) → capture.held ≡ File bytes → IsSummary lead keep_short bytes text
      → (HasReadFault capture → ⊥) → (HasPutFault out → ⊥)
      → ((done : T) × (result ≡ Ok done)) ⊎ (result ≡ Err (Capture NoMemory))
