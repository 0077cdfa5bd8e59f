-- The two rounds in which captures are judged.
use Rattle.std.proofs.Common.{◌≡◌, ℕ, ◌+◌, List, [], ◌∷◌, length, Option, Some, None, Result, Ok, Err, inl, inr, refl, sym, ap, subst, ◌∙◌, arith}
use Rattle.std.specs.Prelude.{◌⊎◌}
use Rattle.rm_edge.specs.Outside.{Held, File}
use Rattle.rm_model.specs.Journal.{Frame}
use Rattle.rm_pcap.specs.declared.form.Form.{Form}
use Rattle.rm_pcap.specs.declared.start.Start.{Start}
use Rattle.rm_pcap.specs.declared.reach.Reach.{Reach}
use Rattle.rm_pcap.specs.declared.fault.PcapFault.{PcapFault}
use Rattle.rm_pcap.specs.declared.fault.PcapFault.TheVariants.{Read, NoMemory}
use Rattle.rm_pcap.specs.declared.capture.Capture.{Capture}
use Rattle.rm_pcap.specs.Header.{header_of}
use Rattle.rm_pcap.specs.Records.{Stop, Ended, CutAt, Broken, ReadsAs}
use Rattle.rm_pcap.specs.Steps.{Found, Whole, Stops as StopsAt, found_at, AreRecords, beginning}
use Rattle.rm_pcap.specs.First.{first_of}
use Rattle.rm_pcap.specs.declared.frame.Frame.{Frame as Lent}
use Rattle.rm_pcap.specs.declared.frame.Step.TheVariants.{Next, End, Cut}
use Rattle.rm_pcap.specs.Progress.{Progress, Agrees, IsUnseen, Shows, begun, based_at, with_base}
use Rattle.rm_pcap.specs.Calls.{LooksFirst, BeginsAs, IsFirst, Passes, Fails}
use Rattle.rm_pcap.specs.View.{progress_of}
use Rattle.rm_pcap.proofs.ReadingLemmas.{readings_are_records}
use Rattle.rm_captures.specs.Merge.{merge}
use Rattle.rm_captures.specs.Rounds.{standing, first_found, first_by, first_round, earlier, with_others, IsFaultless, IsGood, IsLater, early, late, AreRead, either_stop}
use Rattle.rm_captures.specs.Reading.{AreHeld, AreReady, AreUnseen, AreGood, EndsRound, IsExcused, IsReady, Judges, ReadsOn}
use Rattle.rm_captures.specs.declared.fault.CaptureFault.{CaptureFault}

-- nothing was found yet of a capture that was begun
pub unseen_begun : (form : Form) (start : Start) (progress : Progress) → progress ≡ begun form start → IsUnseen progress
unseen_begun form start progress is = subst IsUnseen (sym is) (record { first = refl; unseen = λ frame after e. absurd cc })

pub agrees_begun : (form : Form) (start : Start) (bytes : List ℕ) (progress : Progress) → progress ≡ begun form start → Agrees progress bytes
agrees_begun form start bytes progress is = subst (λ (p : Progress). Agrees p bytes) (sym is) (record { ahead = λ found e. absurd cc; read = refl })

-- a capture was begun, and its first record seen
pub begins_one : (lead interface : ℕ) (held : Held) (bytes : List ℕ) (form : Form) (old new : Progress) (time : Option ℕ) → held ≡ File bytes → old ≡ begun form (standing None lead interface) → header_of bytes ≡ Ok form
    → LooksFirst held old new (Ok time) → (first_found lead interface bytes ≡ Ok time) × IsReady (standing None lead interface) bytes new
begins_one lead interface held bytes form old new time is was header looks =
    let start = standing None lead interface in
    let there = looks.stands bytes is (agrees_begun form start bytes old was) in
    let first : first_of form start bytes ≡ Ok time = subst (λ (p : Progress). first_of p.form p.start bytes ≡ Ok time) was there.0 in (
      ap (first_by start bytes) header ∙ first,
      record {
        start_is = ap (λ (p : Progress). p.start) (looks.place ∙ ap (λ (p : Progress). let q : Progress = record p { ahead = new.ahead; read = new.read } in q) was);
        unseen = looks.unseen;
        header = header ∙ ap (λ (p : Progress). let r : Result Form PcapFault = Ok p.form in r) (sym (looks.place ∙ ap (λ (p : Progress). let q : Progress = record p { ahead = new.ahead; read = new.read } in q) was));
        agrees = there.1;
      },
    )

-- its header has a fault
header_refused : (lead interface : ℕ) (bytes : List ℕ) (fault : PcapFault) → header_of bytes ≡ Err fault → IsExcused fault ⊎ (first_found lead interface bytes ≡ Err fault)
header_refused lead interface bytes fault header = inr (ap (first_by (standing None lead interface) bytes) header)

pub refuses_begin : (lead interface : ℕ) (bytes : List ℕ) (fault : PcapFault) → BeginsAs bytes (Err fault) → IsExcused fault ⊎ (first_found lead interface bytes ≡ Err fault)
refuses_begin lead interface bytes Read begins = inl (inl refl)
refuses_begin lead interface bytes NoMemory begins = inl (inr refl)
refuses_begin lead interface bytes fault begins = header_refused lead interface bytes fault begins

-- its first record has one
first_refused : (start : Start) (form : Form) (bytes : List ℕ) (fault : PcapFault) → header_of bytes ≡ Ok form → IsFirst form start bytes (Err fault) → IsExcused fault ⊎ (first_by start bytes (header_of bytes) ≡ Err fault)
first_refused start form bytes Read header first = inl (inl refl)
first_refused start form bytes fault header first = inr (ap (first_by start bytes) header ∙ first)

pub refuses_first : (lead interface : ℕ) (held : Held) (bytes : List ℕ) (form : Form) (old new : Progress) (fault : PcapFault) → held ≡ File bytes → old ≡ begun form (standing None lead interface) → header_of bytes ≡ Ok form
    → LooksFirst held old new (Err fault) → IsExcused fault ⊎ (first_found lead interface bytes ≡ Err fault)
refuses_first lead interface held bytes form old new fault is was header looks =
    let start = standing None lead interface in
    let there = looks.stands bytes is (agrees_begun form start bytes old was) in
    first_refused start form bytes fault header (subst (λ (p : Progress). IsFirst p.form p.start bytes (Err fault)) was there.0)

-- files that are held after calls that change nothing
pub held_still : (old new : List ℕ → Held) (names files : List (List ℕ)) → ((each : List ℕ) → new each ≡ old each) → AreHeld old names files → AreHeld new names files
unfolding AreHeld
held_still old new [] [] same are = tt
held_still old new [] (bytes ∷ files) same are = absurd are
held_still old new (name ∷ names) [] same are = absurd are
held_still old new (name ∷ names) (bytes ∷ files) same are = (same name ∙ are.0, held_still old new names files same are.1)

-- no files
pub none_begun : (held : List ℕ → Held) (lead interface : ℕ) (files : List (List ℕ)) → AreHeld held [] files → (first_round lead interface files ≡ Ok None) × AreReady None lead interface files []
unfolding AreHeld first_round AreReady
none_begun held lead interface [] are = (refl, tt)
none_begun held lead interface (bytes ∷ files) are = absurd are

-- one more file
pub more_begun : (held : List ℕ → Held) (lead interface : ℕ) (name : List ℕ) (names files : List (List ℕ)) (time other : Option ℕ) (capture : Capture) (begun_then : List Capture) → AreHeld held (name ∷ names) files
    → ((bytes : List ℕ) → held name ≡ File bytes → (first_found lead interface bytes ≡ Ok time) × IsReady (standing None lead interface) bytes (progress_of capture))
    → ((more : List (List ℕ)) → AreHeld held names more → (first_round lead (interface + 1) more ≡ Ok other) × AreReady None lead (interface + 1) more begun_then)
    → (first_round lead interface files ≡ Ok (earlier time other)) × AreReady None lead interface files (capture ∷ begun_then)
unfolding AreHeld first_round AreReady
more_begun held lead interface name names [] time other capture begun_then are one rest = absurd are
more_begun held lead interface name names (bytes ∷ files) time other capture begun_then are one rest =
    let o = one bytes are.0 in
    let r = rest files are.1 in
    (ap (λ (t : Result (Option ℕ) PcapFault). with_others interface t (first_round lead (interface + 1) files)) o.0 ∙ ap (with_others interface (Ok time)) r.0, (o.1, r.1))

-- a fault of the first of some files, and of those behind it
pub first_faulty : (held : List ℕ → Held) (lead interface : ℕ) (name : List ℕ) (names files : List (List ℕ)) (fault : PcapFault) → AreHeld held (name ∷ names) files
    → ((bytes : List ℕ) → held name ≡ File bytes → IsExcused fault ⊎ (first_found lead interface bytes ≡ Err fault))
    → IsExcused fault ⊎ (first_round lead interface files ≡ Err (record { interface = interface; fault = fault }))
unfolding AreHeld first_round
first_faulty held lead interface name names [] fault are one = absurd are
first_faulty held lead interface name names (bytes ∷ files) fault are one = elim (one bytes are.0) [
  | inl excused ↦ inl excused
  | inr is ↦ inr (ap (λ (t : Result (Option ℕ) PcapFault). with_others interface t (first_round lead (interface + 1) files)) is)
]

pub rest_faulty : (held : List ℕ → Held) (lead interface : ℕ) (name : List ℕ) (names files : List (List ℕ)) (time : Option ℕ) (found : CaptureFault) → AreHeld held (name ∷ names) files
    → ((bytes : List ℕ) → held name ≡ File bytes → first_found lead interface bytes ≡ Ok time)
    → ((more : List (List ℕ)) → AreHeld held names more → IsExcused found.fault ⊎ (first_round lead (interface + 1) more ≡ Err found))
    → IsExcused found.fault ⊎ (first_round lead interface files ≡ Err found)
unfolding AreHeld first_round
rest_faulty held lead interface name names [] time found are one rest = absurd are
rest_faulty held lead interface name names (bytes ∷ files) time found are one rest = elim (rest files are.1) [
  | inl excused ↦ inl excused
  | inr is ↦ inr (ap (λ (t : Result (Option ℕ) PcapFault). with_others interface t (first_round lead (interface + 1) files)) (one bytes are.0) ∙ ap (with_others interface (Ok time)) is)
]

-- the time that stands at the lead is set
ready_based : (base lead interface : ℕ) (bytes : List ℕ) (old new : Progress) → new ≡ based_at base old → IsUnseen new → ((bytes : List ℕ) → Agrees old bytes → Agrees new bytes) → IsReady (standing None lead interface) bytes old
    → IsReady (standing (Some base) lead interface) bytes new
ready_based base lead interface bytes old new is unseen agrees ready = record {
  start_is = ap (λ (p : Progress). p.start) is ∙ ap (with_base base) ready.start_is;
  unseen = unseen;
  header = ready.header ∙ ap (λ (p : Progress). let r : Result Form PcapFault = Ok p.form in r) (sym is);
  agrees = agrees bytes ready.agrees;
}

pub more_based : (base lead interface : ℕ) (files : List (List ℕ)) (old new : Capture) (olds news : List Capture) → progress_of new ≡ based_at base (progress_of old) → IsUnseen (progress_of new)
    → ((bytes : List ℕ) → Agrees (progress_of old) bytes → Agrees (progress_of new) bytes)
    → ((more : List (List ℕ)) → AreReady None lead (interface + 1) more olds → AreReady (Some base) lead (interface + 1) more news)
    → AreReady None lead interface files (old ∷ olds) → AreReady (Some base) lead interface files (new ∷ news)
unfolding AreReady
more_based base lead interface [] old new olds news is unseen agrees rest ready = absurd ready
more_based base lead interface (bytes ∷ files) old new olds news is unseen agrees rest ready =
    (ready_based base lead interface bytes (progress_of old) (progress_of new) is unseen agrees ready.0, rest files ready.1)

-- a file of which a capture was begun reads as its records do from there on
reads_from : (start : Start) (bytes : List ℕ) (progress : Progress) (frames : List Frame) (stop : Stop) → IsReady start bytes progress → AreRecords progress.form progress.start progress.reach bytes frames stop → ReadsAs start bytes frames stop
reads_from start bytes progress frames stop ready are =
    (readings_are_records progress.form start bytes frames stop ready.header).1
    (subst (λ (s : Start). AreRecords progress.form s (beginning s) bytes frames stop) ready.start_is
    (subst (λ (r : Reach). AreRecords progress.form progress.start r bytes frames stop) ready.unseen.first are))

pub good_from : (base : Option ℕ) (lead interface : ℕ) (bytes : List ℕ) (progress : Progress) → IsReady (standing base lead interface) bytes progress → ReadsOn {T = Unit {0}} progress bytes (Ok tt) → IsGood (standing base lead interface) bytes
good_from base lead interface bytes progress ready (frames, stop, are, faultless) = (frames, stop, reads_from (standing base lead interface) bytes progress frames stop ready are, faultless)

-- the second round over no files, over one that is read whole, and over one that isn't
pub round_none : (base : Option ℕ) (lead interface : ℕ) (held : List ℕ → Held) (files : List (List ℕ)) → AreHeld held [] files → AreGood base lead interface files
unfolding AreHeld AreGood
round_none base lead interface held [] are = tt
round_none base lead interface held (bytes ∷ files) are = absurd are

pub round_more : (base : Option ℕ) (lead interface : ℕ) (held : List ℕ → Held) (name : List ℕ) (names files : List (List ℕ)) (capture : Capture) (rest : List Capture) (result : Result (Unit {0}) CaptureFault)
    → AreHeld held (name ∷ names) files → AreReady base lead interface files (capture ∷ rest)
    → ((bytes : List ℕ) → held name ≡ File bytes → Agrees (progress_of capture) bytes → ReadsOn {T = Unit {0}} (progress_of capture) bytes (Ok tt))
    → ((more : List (List ℕ)) → AreHeld held names more → AreReady base lead (interface + 1) more rest → EndsRound base lead (interface + 1) more result)
    → EndsRound base lead interface files result
unfolding AreHeld AreReady AreGood IsLater
round_more base lead interface held name names [] capture rest result are ready reads round = absurd are
round_more base lead interface held name names (bytes ∷ files) capture rest (Ok done) are ready reads round =
    (good_from base lead interface bytes (progress_of capture) ready.0 (reads bytes are.0 ready.0.agrees), round files are.1 ready.1)
round_more base lead interface held name names (bytes ∷ files) capture rest (Err found) are ready reads round = elim (round files are.1 ready.1) [
  | inl excused ↦ inl excused
  | inr later ↦ inr (inr (good_from base lead interface bytes (progress_of capture) ready.0 (reads bytes are.0 ready.0.agrees), later))
]

pub round_refused : (base : Option ℕ) (lead interface : ℕ) (held : List ℕ → Held) (name : List ℕ) (names files : List (List ℕ)) (capture : Capture) (rest : List Capture) (fault : PcapFault)
    → AreHeld held (name ∷ names) files → AreReady base lead interface files (capture ∷ rest)
    → ((bytes : List ℕ) → held name ≡ File bytes → Agrees (progress_of capture) bytes → ReadsOn {T = Unit {0}} (progress_of capture) bytes (Err fault))
    → EndsRound {T = Unit {0}} base lead interface files (Err (record { interface = interface; fault = fault }))
unfolding AreHeld AreReady IsLater
round_refused base lead interface held name names [] capture rest fault are ready reads = absurd are
round_refused base lead interface held name names (bytes ∷ files) capture rest fault are ready reads = elim (reads bytes are.0 ready.0.agrees) [
  | inl excused ↦ inl excused
  | inr broken ↦ inr (inl (refl, (broken.0, reads_from (standing base lead interface) bytes (progress_of capture) broken.0 (Broken fault) ready.0 broken.1)))
]

-- there are as many captures as files
pub none_ready : (base : Option ℕ) (lead interface : ℕ) (held : List ℕ → Held) (name : List ℕ) (names files : List (List ℕ)) → AreHeld held (name ∷ names) files → AreReady base lead interface files [] → ⊥
unfolding AreHeld AreReady
none_ready base lead interface held name names [] are ready = are
none_ready base lead interface held name names (bytes ∷ files) are ready = ready

-- files that are captures have frames, in one order
good_read : (base : Option ℕ) (lead interface : ℕ) (files : List (List ℕ)) → AreGood base lead interface files → (frames : List Frame) × (stop : Stop) × AreRead base lead interface files frames stop
unfolding AreGood AreRead
good_read base lead interface [] good = ([], Ended, (refl, refl))
good_read base lead interface (bytes ∷ files) (good, rest) =
    let more = good_read base lead (interface + 1) files rest in
    (merge good.0 more.0, either_stop good.1 more.1, (good.0, more.0, good.1, more.1, good.2, good.3, more.2, refl, refl))

-- both rounds together
pub both_rounds : (base : Option ℕ) (lead : ℕ) (files : List (List ℕ)) (result : Result (Unit {0}) CaptureFault) → first_round lead 1 files ≡ Ok base → EndsRound base lead 1 files result → Judges lead files result
both_rounds base lead files (Ok done) first good =
    let read = good_read base lead 1 files good in (read.0, read.1, record { base = base; begins = first; read = read.2 })
both_rounds base lead files (Err found) first ends = elim ends [
  | inl excused ↦ inl excused
  | inr later ↦ inr (late base first later)
]

pub first_only : (lead : ℕ) (files : List (List ℕ)) (found : CaptureFault) → IsExcused found.fault ⊎ (first_round lead 1 files ≡ Err found) → Judges {T = Unit {0}} lead files (Err found)
first_only lead files found (inl excused) = inl excused
first_only lead files found (inr is) = inr (early is)

-- So many records were read: whatever those that are left are, the file has these from where it was on.
pub record ReadSoFar (from : Progress) (bytes : List ℕ) (now : Progress) : Type 0 where
  pub agrees : Agrees now bytes
  pub goes : (frames : List Frame) (stop : Stop) → AreRecords now.form now.start now.reach bytes frames stop → (all : List Frame) × AreRecords from.form from.start from.reach bytes all stop

pub read_none : (from : Progress) (bytes : List ℕ) → Agrees from bytes → ReadSoFar from bytes from
read_none from bytes agrees = record { agrees = agrees; goes = λ frames stop are. (frames, are) }

records_first : (form : Form) (start : Start) (reach after : Reach) (bytes : List ℕ) (frame : Frame) (more : List Frame) (stop : Stop)
    → found_at form start reach bytes ≡ Whole frame after → AreRecords form start after bytes more stop → AreRecords form start reach bytes (frame ∷ more) stop
unfolding AreRecords
records_first form start reach after bytes frame more stop is are = (after, is, are)

records_stop : (form : Form) (start : Start) (reach : Reach) (bytes : List ℕ) (stop : Stop)
    → found_at form start reach bytes ≡ StopsAt stop → AreRecords form start reach bytes [] stop
unfolding AreRecords
records_stop form start reach bytes stop is = is

pub read_more : (held : Held) (from old new : Progress) (bytes : List ℕ) (frame : Frame) (after : Reach) → held ≡ File bytes → Passes held old new (Whole frame after) → ReadSoFar from bytes old → ReadSoFar from bytes new
read_more held from old new bytes frame after is passes so_far = record {
  agrees = passes.finds.agrees bytes is so_far.agrees;
  goes = λ frames stop are.
      let there = subst (λ (p : Progress). AreRecords p.form p.start p.reach bytes frames stop) passes.place are in
      so_far.goes (frame ∷ frames) stop (records_first old.form old.start old.reach after bytes frame frames stop (sym (passes.finds.stands bytes is so_far.agrees)) there);
}

pub read_stops : (held : Held) (from old new : Progress) (bytes : List ℕ) (stop : Stop) → held ≡ File bytes → Passes held old new (StopsAt stop) → IsFaultless stop → ReadSoFar from bytes old → ReadsOn {T = Unit {0}} from bytes (Ok tt)
read_stops held from old new bytes stop is passes faultless so_far =
    let all = so_far.goes [] stop (records_stop old.form old.start old.reach bytes stop (sym (passes.finds.stands bytes is so_far.agrees))) in
    (all.0, stop, all.1, faultless)

pub read_fails : (held : Held) (from now : Progress) (bytes : List ℕ) (fault : PcapFault) → held ≡ File bytes → Fails held now fault → ReadSoFar from bytes now → ReadsOn {T = Unit {0}} from bytes (Err fault)
read_fails held from now bytes fault is fails so_far = elim fails.cause [
  | inl read ↦ inl (inl read)
  | inr breaks ↦ inr (so_far.goes [] (Broken fault) (records_stop now.form now.start now.reach bytes (Broken fault) (breaks.stands bytes is so_far.agrees.read)))
]

-- a capture that is being read to its end
pub record ReadingOn {F : Type 0} (held : F → List ℕ → Held) (faults : F → List ℕ → ℕ) (first now : F) (name : List ℕ) (from progress : Progress) : Type 0 where
  pub same : (each : List ℕ) → held now each ≡ held first each
  pub quiet : (each : List ℕ) → faults now each ≡ faults first each
  pub so_far : (bytes : List ℕ) → held first name ≡ File bytes → Agrees from bytes → ReadSoFar from bytes progress

pub unseen_split : (captures : List Capture) (capture : Capture) (others : List Capture) → captures ≡ capture ∷ others → AreUnseen captures → IsUnseen (progress_of capture) × AreUnseen others
unfolding AreUnseen
unseen_split captures capture others are unseen = subst AreUnseen are unseen

pub unseen_join : (capture : Capture) (others : List Capture) → IsUnseen (progress_of capture) → AreUnseen others → AreUnseen (capture ∷ others)
unfolding AreUnseen
unseen_join capture others one rest = (one, rest)

pub based_none : (base lead interface : ℕ) (files : List (List ℕ)) (captures : List Capture) → length captures ≡ 0 → AreReady None lead interface files captures → AreReady (Some base) lead interface files captures
unfolding AreReady
based_none base lead interface [] [] none ready = tt
based_none base lead interface (bytes ∷ files) [] none ready = absurd ready
based_none base lead interface files (capture ∷ more) none ready = absurd (omega (arith, none))

-- no capture was begun yet
pub no_unseen : AreUnseen []
unfolding AreUnseen
no_unseen = tt

-- captures are missing
pub too_few : (base : Option ℕ) (lead interface : ℕ) (held : List ℕ → Held) (name : List ℕ) (names files : List (List ℕ)) (captures : List Capture) → length captures ≡ 0 → AreHeld held (name ∷ names) files
    → AreReady base lead interface files captures → ⊥
too_few base lead interface held name names files [] none are ready = none_ready base lead interface held name names files are ready
too_few base lead interface held name names files (capture ∷ more) none are ready = omega (arith, none)

-- a step of reading a capture to its end
pub reading_more : (held : Held) (from old new : Progress) (bytes : List ℕ) (found : Found) (frame : Lent) → held ≡ File bytes → Passes held old new found → Shows (Next frame) found → ReadSoFar from bytes old → ReadSoFar from bytes new
reading_more held from old new bytes (StopsAt stop) frame is passes shows so_far = absurd shows
reading_more held from old new bytes (Whole passed after) frame is passes shows so_far = read_more held from old new bytes passed after is passes so_far

pub reading_ends : (held : Held) (from old new : Progress) (bytes : List ℕ) (found : Found) → held ≡ File bytes → Passes held old new found → Shows End found → ReadSoFar from bytes old → ReadsOn {T = Unit {0}} from bytes (Ok tt)
reading_ends held from old new bytes (StopsAt Ended) is passes shows so_far = read_stops held from old new bytes Ended is passes tt so_far
reading_ends held from old new bytes (StopsAt (CutAt place)) is passes shows so_far = absurd shows
reading_ends held from old new bytes (StopsAt (Broken fault)) is passes shows so_far = absurd shows
reading_ends held from old new bytes (Whole passed after) is passes shows so_far = absurd shows

pub reading_cut : (held : Held) (from old new : Progress) (bytes : List ℕ) (found : Found) (at : ℕ) → held ≡ File bytes → Passes held old new found → Shows (Cut at) found → ReadSoFar from bytes old → ReadsOn {T = Unit {0}} from bytes (Ok tt)
reading_cut held from old new bytes (StopsAt (CutAt place)) at is passes shows so_far = read_stops held from old new bytes (CutAt place) is passes tt so_far
reading_cut held from old new bytes (StopsAt Ended) at is passes shows so_far = absurd shows
reading_cut held from old new bytes (StopsAt (Broken fault)) at is passes shows so_far = absurd shows
reading_cut held from old new bytes (Whole passed after) at is passes shows so_far = absurd shows
