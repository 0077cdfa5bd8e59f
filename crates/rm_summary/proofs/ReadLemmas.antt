-- The frames of a capture that were counted so far.
use Rattle.std.proofs.Common.{◌≡◌, ℕ, ◌+◌, Bool, List, [], ◌∷◌, ◌++◌, Some, Result, Ok, Err, inl, inr, refl, sym, ap, subst, ◌∙◌, append_assoc}
use Rattle.std.proofs.lemmas.List.{append-nil}
use Rattle.rm_edge.specs.Outside.{Held, Untold, Absent, File, OfFile}
use Rattle.rm_edge.specs.Uses.{FileUse, HasReadFault}
use Rattle.rm_model.specs.Journal.{Frame}
use Rattle.rm_pcap.specs.Records.{Stop, Ended, CutAt, Broken, ReadsAs, alone}
use Rattle.rm_pcap.specs.Steps.{Found, Whole, Stops as StopsAt, found_at, AreRecords, beginning}
use Rattle.rm_pcap.specs.Progress.{Progress, Agrees, next_in, Shows, begun, frame_of, IsLawful}
use Rattle.rm_pcap.specs.Calls.{Passes, Steps, Fails, IsBroken as IsBrokenOff, BeginsAs}
use Rattle.rm_pcap.specs.Header.{header_of}
use Rattle.rm_pcap.specs.declared.form.Form.{Form}
use Rattle.rm_pcap.specs.declared.start.Start.{Start}
use Rattle.rm_pcap.specs.declared.reach.Reach.{Reach}
use Rattle.rm_pcap.specs.declared.fault.PcapFault.{PcapFault}
use Rattle.rm_pcap.specs.declared.fault.PcapFault.TheVariants.{Magic, Version, LinkType, Included, Original, Late, TooMany, Read, NoMemory}
use Rattle.rm_pcap.specs.declared.capture.Capture.{Capture}
use Rattle.rm_pcap.specs.declared.frame.Frame.{Frame as Lent}
use Rattle.rm_pcap.specs.declared.frame.Step.{Step}
use Rattle.rm_pcap.specs.declared.frame.Step.TheVariants.{Next, End, Cut}
use Rattle.rm_pcap.specs.View.{progress_of}
use Rattle.rm_pcap.proofs.ReadingLemmas.{readings_are_records}
use Rattle.rm_summary.specs.declared.counts.Counts.{Counts}
use Rattle.rm_summary.specs.declared.reading.Ending.{Ending}
use Rattle.rm_summary.specs.declared.reading.Ending.TheVariants as ending
use Rattle.rm_summary.specs.Text.{last_word}
use Rattle.rm_summary.specs.Counted.{AreCounted, IsOf, ending_word}
use Rattle.rm_summary.specs.Ends.{IsBroken, IsFault}

-- These frames were passed and counted: whatever those that are left are, the file reads as both.
pub record Counting (lead : ℕ) (keep_short : Bool) (bytes : List ℕ) (progress : Progress) (counts : Counts) : Type 0 where
  pub frames : List Frame
  pub counted : AreCounted keep_short frames counts
  pub agrees : Agrees progress bytes
  pub goes : (more : List Frame) (stop : Stop) → AreRecords progress.form progress.start progress.reach bytes more stop → ReadsAs (alone lead) bytes (frames ++ more) stop

-- a capture whose frames are counted
pub record CountedSoFar {F : Type 0} (held : F → List ℕ → Held) (faults : F → List ℕ → ℕ) (first now : F) (name : List ℕ) (lead : ℕ) (keep_short : Bool) (progress : Progress) (counts : Counts) : Type 0 where
  pub same : (each : List ℕ) → held now each ≡ held first each
  pub quiet : (each : List ℕ) → faults now each ≡ faults first each
  pub few : counts.frames ≡ progress.reach.count
  pub counting : OfFile (held first name) (λ bytes. Counting lead keep_short bytes progress counts)

-- a fact of a file, from one of its octets
of_told : (held : Held) (P Q : List ℕ → Type 0) → ((bytes : List ℕ) → held ≡ File bytes → P bytes → Q bytes) → OfFile held P → OfFile held Q
of_told Untold P Q to p = tt
of_told Absent P Q to p = absurd p
of_told (File bytes) P Q to p = to bytes refl p

begins : (form : Form) (lead : ℕ) (bytes : List ℕ) (frames : List Frame) (stop : Stop) → header_of bytes ≡ Ok form → AreRecords form (alone lead) (beginning (alone lead)) bytes frames stop → ReadsAs (alone lead) bytes frames stop
begins form lead bytes frames stop header are = (readings_are_records form (alone lead) bytes frames stop header).1 are

-- where a capture was begun, none is counted yet
pub counting_begins : (lead : ℕ) (keep_short : Bool) (held : Held) (capture : Capture) (result : Result Capture PcapFault) (counts : Counts) → result ≡ Ok capture → (held ≡ Absent → result ≡ Err Read)
    → progress_of capture ≡ begun (progress_of capture).form (alone lead) → ((bytes : List ℕ) → held ≡ File bytes → BeginsAs bytes (Ok (progress_of capture).form)) → AreCounted keep_short [] counts
    → OfFile held (λ bytes. Counting lead keep_short bytes (progress_of capture) counts)
counting_begins lead keep_short Untold capture result counts ok absent is header none = tt
counting_begins lead keep_short Absent capture result counts ok absent is header none = let e = sym ok ∙ absent refl in cc
counting_begins lead keep_short (File bytes) capture result counts ok absent is header none =
    let form = (progress_of capture).form in
    subst (λ (p : Progress). Counting lead keep_short bytes p counts) (sym is) (record {
      frames = [];
      counted = none;
      agrees = record { ahead = λ was e. absurd cc; read = refl };
      goes = λ more stop are. begins form lead bytes more stop (header bytes refl) are;
    })

records_first : (form : Form) (start : Start) (reach after : Reach) (bytes : List ℕ) (frame : Frame) (more : List Frame) (stop : Stop)
    → found_at form start reach bytes ≡ Whole frame after → AreRecords form start after bytes more stop → AreRecords form start reach bytes (frame ∷ more) stop
unfolding AreRecords
records_first form start reach after bytes frame more stop is are = (after, is, are)

records_stop : (form : Form) (start : Start) (reach : Reach) (bytes : List ℕ) (stop : Stop)
    → found_at form start reach bytes ≡ StopsAt stop → AreRecords form start reach bytes [] stop
unfolding AreRecords
records_stop form start reach bytes stop is = is

-- what is lent is passed, and it is lawful
pub record IsPassed (held : Held) (old new : Progress) (frame : Frame) : Type 0 where
  pub after : Reach
  pub passes : Passes held old new (Whole frame after)
  pub lawful : IsLawful old.reach frame after

pub is_passed : (held now : Held) (old new : Progress) (result : Result Step PcapFault) (frame : Lent) → now ≡ held → Steps now old new result → result ≡ Ok (Next frame) → IsPassed held old new (frame_of frame)
is_passed held now old new result frame same steps is = by_found (rw (same, is) at steps)
  where
    by_found : Steps held old new (Ok (Next frame)) → IsPassed held old new (frame_of frame)
    by_found (StopsAt stop, passes, shows) = absurd shows
    by_found (Whole passed after, passes, shows) = record {
      after = after;
      passes = subst (λ (f : Frame). Passes held old new (Whole f after)) shows passes;
      lawful = subst (λ (f : Frame). IsLawful old.reach f after) shows passes.finds.lawful;
    }

pub one_more : (held : Held) (old new : Progress) (frame : Frame) → IsPassed held old new frame → new.reach.count ≡ old.reach.count + 1
one_more held old new frame passed = ap (λ (p : Progress). p.reach.count) passed.passes.place ∙ passed.lawful.count ∙ passed.lawful.number

-- one frame more is counted
pub counting_more : (lead : ℕ) (keep_short : Bool) (held : Held) (old new : Progress) (frame : Frame) (after : Reach) (counts next : Counts) → Passes held old new (Whole frame after)
    → ((frames : List Frame) → AreCounted keep_short frames counts → AreCounted keep_short (frames ++ frame ∷ []) next)
    → OfFile held (λ bytes. Counting lead keep_short bytes old counts) → OfFile held (λ bytes. Counting lead keep_short bytes new next)
counting_more lead keep_short held old new frame after counts next passes adds so_far =
    of_told held (λ bytes. Counting lead keep_short bytes old counts) (λ bytes. Counting lead keep_short bytes new next) more so_far
  where
    more : (bytes : List ℕ) → held ≡ File bytes → Counting lead keep_short bytes old counts → Counting lead keep_short bytes new next
    more bytes is was = record {
      frames = was.frames ++ frame ∷ [];
      counted = adds was.frames was.counted;
      agrees = passes.finds.agrees bytes is was.agrees;
      goes = λ others stop are.
          let there = subst (λ (p : Progress). AreRecords p.form p.start p.reach bytes others stop) passes.place are in
          let first = records_first old.form old.start old.reach after bytes frame others stop (sym (passes.finds.stands bytes is was.agrees)) there in
          subst (λ (all : List Frame). ReadsAs (alone lead) bytes all stop) (sym (append_assoc was.frames (frame ∷ []) others)) (was.goes (frame ∷ others) stop first);
    }

-- the records stop there
stops : (lead : ℕ) (keep_short : Bool) (bytes : List ℕ) (progress : Progress) (counts : Counts) (stop : Stop) → next_in progress bytes ≡ StopsAt stop → (was : Counting lead keep_short bytes progress counts)
    → ReadsAs (alone lead) bytes was.frames stop
stops lead keep_short bytes progress counts stop found was =
    subst (λ (all : List Frame). ReadsAs (alone lead) bytes all stop) (append-nil was.frames) (was.goes [] stop (records_stop progress.form progress.start progress.reach bytes stop found))

-- the ending that a step shows
abbrev pub IsEnding : Step → Ending → Type 0
IsEnding End e = e ≡ ending.End
IsEnding (Cut at) e = e ≡ ending.Cut
IsEnding (Next frame) e = ⊥

pub counting_stops : (lead : ℕ) (keep_short : Bool) (held : Held) (old new : Progress) (found : Found) (step : Step) (counts : Counts) (e : Ending) → Passes held old new found → Shows step found → IsEnding step e
    → OfFile held (λ bytes. Counting lead keep_short bytes old counts) → OfFile held (λ bytes. IsOf lead keep_short bytes (record { counts = counts; ending = e }))
counting_stops lead keep_short held old new found step counts e passes shows ends so_far = by_step found step passes shows ends
  where
    by_stop : (stop : Stop) → Passes held old new (StopsAt stop) → last_word stop ≡ Some (ending_word e) → OfFile held (λ bytes. IsOf lead keep_short bytes (record { counts = counts; ending = e }))
    by_stop stop passes word =
        of_told held (λ bytes. Counting lead keep_short bytes old counts) (λ bytes. IsOf lead keep_short bytes (record { counts = counts; ending = e }))
        (λ bytes is was. record { frames = was.frames; stop = stop; reads = stops lead keep_short bytes old counts stop (sym (passes.finds.stands bytes is was.agrees)) was; counted = was.counted; ends = word }) so_far

    by_step : (found : Found) (step : Step) → Passes held old new found → Shows step found → IsEnding step e → OfFile held (λ bytes. IsOf lead keep_short bytes (record { counts = counts; ending = e }))
    by_step (StopsAt Ended) End passes shows is = by_stop Ended passes (ap (λ (x : Ending). Some (ending_word x)) (sym is))
    by_step (StopsAt (CutAt place)) (Cut at) passes shows is = by_stop (CutAt place) passes (ap (λ (x : Ending). Some (ending_word x)) (sym is))
    by_step (Whole frame after) End passes shows is = absurd shows
    by_step (StopsAt (CutAt place)) End passes shows is = absurd shows
    by_step (StopsAt (Broken fault)) End passes shows is = absurd shows
    by_step (Whole frame after) (Cut at) passes shows is = absurd shows
    by_step (StopsAt Ended) (Cut at) passes shows is = absurd shows
    by_step (StopsAt (Broken fault)) (Cut at) passes shows is = absurd shows
    by_step found (Next frame) passes shows is = absurd is

header_reads : (lead : ℕ) (bytes : List ℕ) (fault : PcapFault) → header_of bytes ≡ Err fault → ReadsAs (alone lead) bytes [] (Broken fault)
unfolding ReadsAs
header_reads lead bytes fault header = rw header (refl, refl)

header_fault : (lead : ℕ) (held : Held) (fault : PcapFault) → (held ≡ Absent → ⊥) → ((bytes : List ℕ) → held ≡ File bytes → header_of bytes ≡ Err fault) → OfFile held (IsBroken lead fault)
header_fault lead Untold fault there header = tt
header_fault lead Absent fault there header = there refl
header_fault lead (File bytes) fault there header = ([], header_reads lead bytes fault (header bytes refl))

-- a fault, by what it says of the file but for a failed read and for want of memory
is_fault : (lead : ℕ) (file : FileUse) (fault : PcapFault) → (fault ≡ Read → HasReadFault file) → (¬ (fault ≡ Read) → ¬ (fault ≡ NoMemory) → OfFile file.held (IsBroken lead fault)) → IsFault lead file fault
is_fault lead file Read rose broken = rose refl
is_fault lead file NoMemory rose broken = tt
is_fault lead file Magic rose broken = broken (λ e. cc) (λ e. cc)
is_fault lead file Version rose broken = broken (λ e. cc) (λ e. cc)
is_fault lead file LinkType rose broken = broken (λ e. cc) (λ e. cc)
is_fault lead file (Included at) rose broken = broken (λ e. cc) (λ e. cc)
is_fault lead file (Original at) rose broken = broken (λ e. cc) (λ e. cc)
is_fault lead file (Late at) rose broken = broken (λ e. cc) (λ e. cc)
is_fault lead file TooMany rose broken = broken (λ e. cc) (λ e. cc)

-- the faults of a header
of_header : (bytes : List ℕ) (fault : PcapFault) → ¬ (fault ≡ Read) → ¬ (fault ≡ NoMemory) → BeginsAs bytes (Err fault) → header_of bytes ≡ Err fault
of_header bytes Read read memory begins = absurd (read refl)
of_header bytes NoMemory read memory begins = absurd (memory refl)
of_header bytes fault read memory begins = begins

-- a capture that could not be begun
pub fault_at_first : (lead : ℕ) (file : FileUse) (fault : PcapFault) → (fault ≡ Read → HasReadFault file) → (file.held ≡ Absent → fault ≡ Read) → ((bytes : List ℕ) → file.held ≡ File bytes → BeginsAs bytes (Err fault))
    → IsFault lead file fault
fault_at_first lead file fault rose absent header =
    is_fault lead file fault rose (λ read memory. header_fault lead file.held fault (λ e. read (absent e)) (λ bytes is. of_header bytes fault read memory (header bytes is)))

-- a record has a fault
pub fault_of_record : (lead : ℕ) (keep_short : Bool) (file : FileUse) (progress : Progress) (counts : Counts) (fault : PcapFault) → (fault ≡ Read → HasReadFault file) → Fails file.held progress fault
    → OfFile file.held (λ bytes. Counting lead keep_short bytes progress counts) → IsFault lead file fault
fault_of_record lead keep_short file progress counts fault rose fails so_far = is_fault lead file fault rose (λ read memory. found read fails.cause)
  where
    found : ¬ (fault ≡ Read) → IsBrokenOff file.held progress.form progress.start progress.reach progress.read fault → OfFile file.held (IsBroken lead fault)
    found other (inl read) = absurd (other read)
    found other (inr breaks) =
        of_told file.held (λ bytes. Counting lead keep_short bytes progress counts) (IsBroken lead fault)
        (λ bytes is was. (was.frames, stops lead keep_short bytes progress counts (Broken fault) (breaks.stands bytes is was.agrees.read) was)) so_far
