-- A capture of which no record was found yet: what it has first, and how it reads where another time stands at the lead.
use Rattle.std.proofs.Common.{◌≡◌, ℕ, ◌+◌, ◌≤◌, ◌<◌, nat_lt, Bool, true, false, if◌then◌else◌, List, [], ◌∷◌, length, take, drop, Option, Some, None, Result, Ok, Err, inl, inr, refl, sym, ap, subst, ◌∙◌, arith}
use Rattle.std.specs.Prelude.{⊤}
use Rattle.std.specs.Option.{is_some}
use Rattle.rm_edge.specs.Outside.{Held, File}
use Rattle.std.proofs.lemmas.Bool.Decides.{nat_tests}
use Rattle.rm_model.specs.Journal.{Frame}
use Rattle.rm_pcap.specs.declared.form.Form.{Form}
use Rattle.rm_pcap.specs.declared.start.Start.{Start}
use Rattle.rm_pcap.specs.declared.fault.PcapFault.{PcapFault}
use Rattle.rm_pcap.specs.declared.fault.PcapFault.TheVariants.{Magic, Version, LinkType, Included, Original, Late, TooMany, Read, NoMemory}
use Rattle.rm_pcap.specs.declared.reach.Reach.{Reach}
use Rattle.rm_pcap.specs.declared.position.Position.{Position}
use Rattle.rm_pcap.specs.declared.capture.Capture.{Capture}
use Rattle.rm_pcap.specs.declared.record.Heading.{Heading}
use Rattle.rm_pcap.specs.declared.record.Seen.{Seen}
use Rattle.rm_pcap.specs.declared.record.Seen.TheVariants.{Whole as SeenWhole, End as SeenEnd, Cut as SeenCut}
use Rattle.rm_pcap.specs.Records.{Stop, Ended, CutAt, Broken, included_of, time_of}
use Rattle.rm_pcap.specs.Steps.{Found, Whole, Stops, IsThere, found_at, found_in, found_with, fault_at, is_late, frame_at, reach_after, beginning}
use Rattle.rm_pcap.specs.First.{first_of, first_in, first_with}
use Rattle.rm_pcap.specs.Progress.{Progress, Agrees, HasRead, IsUnseen, next_in, with_base, based_at, reading}
use Rattle.rm_pcap.specs.Calls.{IsBroken, IsFaultAt, IsFirst, IsFirstRecordFault, LooksFirst}
use Rattle.rm_pcap.specs.Seen.{IsWholePart}
use Rattle.rm_pcap.specs.View.{progress_of, ahead_of}
use Rattle.rm_window.specs.Filling.{IsFront}
use Rattle.rm_window.specs.Window.{octets_of}
use Rattle.rm_window.proofs.WindowLemmas.{front_of}
use Rattle.rm_pcap.proofs.FrontLemmas.{time_front}

-- the records stop without a fault
abbrev pub IsPlain : Stop → Type 0
IsPlain (Broken fault) = ⊥
IsPlain stop = ⊤

abbrev pub IsPlainFound : Found → Type 0
IsPlainFound (Stops stop) = IsPlain stop
IsPlainFound (Whole frame after) = ⊥

no_fault : (stop : Stop) (fault : PcapFault) → IsPlain stop → Stops (Broken fault) ≡ Stops stop → ⊥
no_fault stop fault plain e = let same : Broken fault ≡ stop = cc in subst IsPlain (sym same) plain

-- what was looked at where no record was found
plain_of : (position : Position) (octets : List ℕ) (seen : Option Seen) (found : Found) → ((frame : Frame) (after : Reach) → ahead_of position octets seen ≡ Some (Whole frame after) → ⊥)
    → ahead_of position octets seen ≡ Some found → IsPlainFound found
plain_of position octets None found unfound e = absurd cc
plain_of position octets (Some (SeenWhole whole)) found unfound e = absurd (unfound _ _ refl)
plain_of position octets (Some SeenEnd) found unfound e = let same : Stops Ended ≡ found = cc in subst IsPlainFound same tt
plain_of position octets (Some SeenCut) found unfound e = let same : Stops (CutAt position.reach.at) ≡ found = cc in subst IsPlainFound same tt

-- the faults of a first header don't depend on the time that stands at the lead
fault_based : (form : Form) (start : Start) (base : ℕ) (xs : List ℕ) → fault_at form (with_base base start) (beginning (with_base base start)) xs ≡ fault_at form start (beginning start) xs
unfolding fault_at
fault_based form start base xs = refl

-- nor does it that no whole record is first
with_based : (form : Form) (start other : Start) (xs : List ℕ) (fault : Option PcapFault) (stop : Stop) → IsPlain stop → found_with form start (beginning start) xs fault ≡ Stops stop
    → found_with form other (beginning other) xs fault ≡ Stops stop
with_based form start other xs (Some fault) stop plain is = is
with_based form start other xs None stop plain is = by_test (nat_lt (length xs) (16 + included_of form xs)) (is_late form start (beginning start) xs) is
  where
    by_test : (short late : Bool)
        → (if short then Stops (CutAt 24) else if late then Stops (Broken (Late 24)) else Whole (frame_at form start (beginning start) xs) (reach_after form start (beginning start) xs)) ≡ Stops stop
        → (if short then Stops (CutAt 24) else if is_late form other (beginning other) xs then Stops (Broken (Late 24)) else Whole (frame_at form other (beginning other) xs) (reach_after form other (beginning other) xs)) ≡ Stops stop
    by_test true late e = e
    by_test false true e = absurd (no_fault stop (Late 24) plain e)
    by_test false false e = absurd cc

in_based : (form : Form) (start : Start) (base : ℕ) (xs : List ℕ) (stop : Stop) → IsPlain stop → found_in form start (beginning start) xs ≡ Stops stop
    → found_in form (with_base base start) (beginning (with_base base start)) xs ≡ Stops stop
in_based form start base [] stop plain is = is
in_based form start base (x ∷ xs) stop plain is = by_test (nat_lt (length (x ∷ xs)) 16) is
  where
    by_test : (few : Bool) → (if few then Stops (CutAt 24) else found_with form start (beginning start) (x ∷ xs) (fault_at form start (beginning start) (x ∷ xs))) ≡ Stops stop
        → (if few then Stops (CutAt 24) else found_with form (with_base base start) (beginning (with_base base start)) (x ∷ xs) (fault_at form (with_base base start) (beginning (with_base base start)) (x ∷ xs))) ≡ Stops stop
    by_test true e = e
    by_test false e =
        rw (fault_based form start base (x ∷ xs)) (with_based form start (with_base base start) (x ∷ xs) (fault_at form start (beginning start) (x ∷ xs)) stop plain e)

found_based : (form : Form) (start : Start) (base : ℕ) (bytes : List ℕ) (found : Found) → IsPlainFound found → found ≡ found_at form start (beginning start) bytes
    → found ≡ found_at form (with_base base start) (beginning (with_base base start)) bytes
unfolding found_at
found_based form start base bytes (Whole frame after) plain is = absurd plain
found_based form start base bytes (Stops stop) plain is = sym (in_based form start base (drop 24 bytes) stop plain (sym is))

pub agrees_based : (base : ℕ) (capture : Capture) (bytes : List ℕ) → IsUnseen (progress_of capture) → Agrees (progress_of capture) bytes → Agrees (based_at base (progress_of capture)) bytes
unfolding progress_of
agrees_based base capture bytes unseen agrees =
    let p = progress_of capture in record {
      ahead = λ found is. found_based p.form p.start base bytes found (plain_of capture.position (octets_of capture.window) capture.seen found unseen.unseen is)
          (agrees.ahead found is ∙ ap (λ (reach : Reach). found_at p.form p.start reach bytes) unseen.first);
      read = subst (λ (reach : Reach). IsFront p.read (drop reach.at bytes)) unseen.first agrees.read;
    }

-- a first record of which all was read is still there
pub read_based : (base : ℕ) (progress : Progress) → IsUnseen progress → HasRead progress → HasRead (based_at base progress)
read_based base progress unseen read = record {
  long = read.long;
  faultless = fault_based progress.form progress.start base progress.read ∙ ap (λ (r : Reach). fault_at progress.form progress.start r progress.read) (sym unseen.first) ∙ read.faultless;
}

-- the time of a record that isn't cut short
abbrev told : Bool → ℕ → Result (Option ℕ) PcapFault
told short time = if short then Ok None else Ok (Some time)

-- what stands first, by what is found there
plain_with : (form : Form) (start : Start) (xs : List ℕ) (fault : Option PcapFault) (stop : Stop) → IsPlain stop → found_with form start (beginning start) xs fault ≡ Stops stop → first_with form xs fault ≡ Ok None
plain_with form start xs (Some fault) stop plain is = absurd (no_fault stop fault plain is)
plain_with form start xs None stop plain is = by_test (nat_lt (length xs) (16 + included_of form xs)) (is_late form start (beginning start) xs) is
  where
    by_test : (short late : Bool)
        → (if short then Stops (CutAt 24) else if late then Stops (Broken (Late 24)) else Whole (frame_at form start (beginning start) xs) (reach_after form start (beginning start) xs)) ≡ Stops stop
        → told short (time_of form xs) ≡ Ok None
    by_test true late e = refl
    by_test false true e = absurd (no_fault stop (Late 24) plain e)
    by_test false false e = absurd cc

plain_in : (form : Form) (start : Start) (xs : List ℕ) (stop : Stop) → IsPlain stop → found_in form start (beginning start) xs ≡ Stops stop → first_in form start xs ≡ Ok None
plain_in form start [] stop plain is = refl
plain_in form start (x ∷ xs) stop plain is = by_test (nat_lt (length (x ∷ xs)) 16) is
  where
    by_test : (few : Bool) → (if few then Stops (CutAt 24) else found_with form start (beginning start) (x ∷ xs) (fault_at form start (beginning start) (x ∷ xs))) ≡ Stops stop
        → (if few then Ok None else first_with form (x ∷ xs) (fault_at form start (beginning start) (x ∷ xs))) ≡ Ok None
    by_test true e = refl
    by_test false e = plain_with form start (x ∷ xs) (fault_at form start (beginning start) (x ∷ xs)) stop plain e

broken_with : (form : Form) (start : Start) (xs : List ℕ) (at : Option PcapFault) (why : PcapFault) → ((place : ℕ) → why ≡ Late place → ⊥) → found_with form start (beginning start) xs at ≡ Stops (Broken why)
    → first_with form xs at ≡ Err why
broken_with form start xs (Some fault) why late is = let same : fault ≡ why = cc in ap Err same
broken_with form start xs None why late is = by_test (nat_lt (length xs) (16 + included_of form xs)) (is_late form start (beginning start) xs) is
  where
    by_test : (short late_one : Bool)
        → (if short then Stops (CutAt 24) else if late_one then Stops (Broken (Late 24)) else Whole (frame_at form start (beginning start) xs) (reach_after form start (beginning start) xs)) ≡ Stops (Broken why)
        → told short (time_of form xs) ≡ Err why
    by_test true late_one e = absurd cc
    by_test false true e = absurd (late 24 (let same : Late 24 ≡ why = cc in sym same))
    by_test false false e = absurd cc

broken_in : (form : Form) (start : Start) (xs : List ℕ) (why : PcapFault) → ((place : ℕ) → why ≡ Late place → ⊥) → found_in form start (beginning start) xs ≡ Stops (Broken why) → first_in form start xs ≡ Err why
broken_in form start [] why late is = absurd cc
broken_in form start (x ∷ xs) why late is = by_test (nat_lt (length (x ∷ xs)) 16) is
  where
    by_test : (few : Bool) → (if few then Stops (CutAt 24) else found_with form start (beginning start) (x ∷ xs) (fault_at form start (beginning start) (x ∷ xs))) ≡ Stops (Broken why)
        → (if few then Ok None else first_with form (x ∷ xs) (fault_at form start (beginning start) (x ∷ xs))) ≡ Err why
    by_test true e = absurd cc
    by_test false e = broken_with form start (x ∷ xs) (fault_at form start (beginning start) (x ∷ xs)) why late e

whole_in : (form : Form) (start : Start) (xs : List ℕ) (heading : Heading) → IsWholePart form start (beginning start) xs heading → first_in form start xs ≡ Ok (Some (time_of form xs))
whole_in form start xs heading part =
    let included : heading.included ≡ included_of form xs = ap (λ (t : Heading). t.included) part.numbers in
    let many : nat_lt (length xs) 16 ≡ false = grind (arith, nat_tests) in
    let long : nat_lt (length xs) (16 + included_of form xs) ≡ false = grind (arith, nat_tests) in
    rw (many, part.faultless, long) refl

-- the same of a file
pub first_plain : (form : Form) (start : Start) (reach : Reach) (bytes : List ℕ) (stop : Stop) → reach ≡ beginning start → IsPlain stop → Stops stop ≡ found_at form start reach bytes → first_of form start bytes ≡ Ok None
unfolding first_of found_at
first_plain form start reach bytes stop first plain is =
    plain_in form start (drop 24 bytes) stop plain (sym (is ∙ ap (λ (r : Reach). found_in form start r (drop r.at bytes)) first))

pub first_broken : (form : Form) (start : Start) (reach : Reach) (bytes : List ℕ) (why : PcapFault) → reach ≡ beginning start → ((place : ℕ) → why ≡ Late place → ⊥)
    → found_at form start reach bytes ≡ Stops (Broken why) → first_of form start bytes ≡ Err why
unfolding first_of found_at
first_broken form start reach bytes why first late is =
    broken_in form start (drop 24 bytes) why late (sym (ap (λ (r : Reach). found_in form start r (drop r.at bytes)) first) ∙ is)

pub first_whole : (form : Form) (start : Start) (reach : Reach) (bytes octets : List ℕ) (heading : Heading) → reach ≡ beginning start → IsWholePart form start reach (drop reach.at bytes) heading
    → IsFront octets (drop reach.at bytes) → 16 ≤ length octets → first_of form start bytes ≡ Ok (Some (time_of form octets))
unfolding first_of
first_whole form start reach bytes octets heading first part front enough =
    let same : take 16 octets ≡ take 16 (drop reach.at bytes) = front_of 16 octets (drop reach.at bytes) front enough in
    let time : time_of form (drop reach.at bytes) ≡ time_of form octets = sym (time_front form (drop reach.at bytes)) ∙ ap (time_of form) (sym same) ∙ time_front form octets in
    let there : IsWholePart form start (beginning start) (drop 24 bytes) heading = subst (λ (r : Reach). IsWholePart form start r (drop r.at bytes) heading) first part in
    whole_in form start (drop 24 bytes) heading there ∙ ap (λ (r : Reach). Ok (Some (time_of form (drop r.at bytes)))) (sym first) ∙ ap (λ (t : ℕ). Ok (Some t)) time

-- what a capture that was looked at before has first
pub first_seen : (capture : Capture) (bytes : List ℕ) (seen : Seen) → capture.seen ≡ Some seen → IsUnseen (progress_of capture) → Agrees (progress_of capture) bytes
    → first_of (progress_of capture).form (progress_of capture).start bytes ≡ Ok None
unfolding progress_of
first_seen capture bytes seen is unseen agrees = by_seen seen (ap (ahead_of capture.position (octets_of capture.window)) is)
  where
    by_seen : (seen : Seen) → (progress_of capture).ahead ≡ ahead_of capture.position (progress_of capture).read (Some seen) → first_of (progress_of capture).form (progress_of capture).start bytes ≡ Ok None
    by_seen (SeenWhole whole) e = absurd (unseen.unseen _ _ e)
    by_seen SeenEnd e = first_plain (progress_of capture).form (progress_of capture).start (progress_of capture).reach bytes Ended unseen.first tt (agrees.ahead (Stops Ended) e)
    by_seen SeenCut e = first_plain (progress_of capture).form (progress_of capture).start (progress_of capture).reach bytes (CutAt (progress_of capture).reach.at) unseen.first tt (agrees.ahead _ e)

-- the faults of the first record
pub is_first_fault : (reach : Reach) (start : Start) (fault : PcapFault) → reach ≡ beginning start → IsFaultAt reach fault → ((at : ℕ) → fault ≡ Late at → 0 < reach.count) → IsFirstRecordFault fault
is_first_fault reach start (Included at) first is late = is ∙ ap (λ (r : Reach). r.at + 8) first
is_first_fault reach start (Original at) first is late = is ∙ ap (λ (r : Reach). r.at + 12) first
is_first_fault reach start (Late at) first is late = absurd (omega (arith, late at refl, ap (λ (r : Reach). r.count) first))
is_first_fault reach start TooMany first is late = absurd (omega (arith, is, ap (λ (r : Reach). r.count) first))
is_first_fault reach start Read first is late = absurd is
is_first_fault reach start fault first is late = absurd is

-- what a fault of the first record says of a file
pub is_first_broken : (form : Form) (start : Start) (bytes : List ℕ) (fault : PcapFault) → (¬ (fault ≡ Read) → first_of form start bytes ≡ Err fault) → IsFirst form start bytes (Err fault)
is_first_broken form start bytes Read is = tt
is_first_broken form start bytes Magic is = is (λ e. cc)
is_first_broken form start bytes Version is = is (λ e. cc)
is_first_broken form start bytes LinkType is = is (λ e. cc)
is_first_broken form start bytes (Included at) is = is (λ e. cc)
is_first_broken form start bytes (Original at) is = is (λ e. cc)
is_first_broken form start bytes (Late at) is = is (λ e. cc)
is_first_broken form start bytes TooMany is = is (λ e. cc)
is_first_broken form start bytes NoMemory is = is (λ e. cc)

pub first_again : (capture : Capture) (bytes : List ℕ) → is_some capture.seen ≡ true → IsUnseen (progress_of capture) → Agrees (progress_of capture) bytes
    → first_of (progress_of capture).form (progress_of capture).start bytes ≡ Ok None
first_again capture bytes some unseen agrees = by_seen capture.seen refl some
  where
    by_seen : (seen : Option Seen) → capture.seen ≡ seen → is_some seen ≡ true → first_of (progress_of capture).form (progress_of capture).start bytes ≡ Ok None
    by_seen None e is = absurd cc
    by_seen (Some seen) e is = first_seen capture bytes seen e unseen agrees

pub none_seen : (seen : Option Seen) → is_some seen ≡ false → seen ≡ None
none_seen None is = refl
none_seen (Some seen) is = absurd cc

-- a look at the first record, by what is in the window then
pub looks_first : (held : Held) (old : Progress) (ahead : Option Found) (octets : List ℕ) (result : Result (Option ℕ) PcapFault) → IsUnseen old
    → ((frame : Frame) (after : Reach) → ahead ≡ Some (Whole frame after) → ⊥)
    → ((bytes : List ℕ) → held ≡ File bytes → IsFront old.read (drop old.reach.at bytes)
    → IsFront octets (drop old.reach.at bytes) × IsFirst old.form old.start bytes result × ((found : Found) → ahead ≡ Some found → found ≡ next_in old bytes))
    → ((time : ℕ) → result ≡ Ok (Some time) → IsThere old.form old.start old.reach octets × (time_of old.form octets ≡ time))
    → LooksFirst held old (reading old ahead octets) result
looks_first held old ahead octets result unseen plain there all = record {
  place = refl;
  unseen = record { first = unseen.first; unseen = plain };
  told = all;
  stands = λ bytes is agrees. let t = there bytes is agrees.read in (t.1, record { ahead = t.2; read = t.0 });
}

-- a look that fails
pub looks_broken : (held : Held) (old new : Progress) (fault : PcapFault) → new ≡ old → IsUnseen old → IsBroken held old.form old.start old.reach old.read fault
    → ((at : ℕ) → fault ≡ Late at → 0 < old.reach.count) → LooksFirst held old new (Err fault)
looks_broken held old new fault same unseen broken late = subst (λ (p : Progress). LooksFirst held old p (Err fault)) (sym same) (record {
  place = refl;
  unseen = unseen;
  told = λ time e. absurd cc;
  stands = λ bytes is agrees. (is_first_broken old.form old.start bytes fault (λ other. found bytes is agrees other broken), agrees);
})
  where
    found : (bytes : List ℕ) → held ≡ File bytes → Agrees old bytes → ¬ (fault ≡ Read) → IsBroken held old.form old.start old.reach old.read fault → first_of old.form old.start bytes ≡ Err fault
    found bytes is agrees other (inl read) = absurd (other read)
    found bytes is agrees other (inr breaks) =
        first_broken old.form old.start old.reach bytes fault unseen.first (λ place e. omega (arith, late place e, ap (λ (r : Reach). r.count) unseen.first)) (breaks.stands bytes is agrees.read)

pub kind_first : (held : Held) (old : Progress) (fault : PcapFault) → IsUnseen old → IsBroken held old.form old.start old.reach old.read fault
    → ((at : ℕ) → fault ≡ Late at → 0 < old.reach.count) → IsFirstRecordFault fault
kind_first held old fault unseen (inl read) late = subst IsFirstRecordFault (sym read) tt
kind_first held old fault unseen (inr breaks) late = is_first_fault old.reach old.start fault unseen.first breaks.place late

-- the position before the first record, where another time stands at the lead
abbrev pub position_based : ℕ → Position → Position
position_based base position = record position { start = with_base base position.start; reach = record position.reach { base = Some base } }

ahead_based : (base : ℕ) (position : Position) (octets : List ℕ) (seen : Option Seen) → ahead_of (position_based base position) octets seen ≡ ahead_of position octets seen
ahead_based base position octets None = refl
ahead_based base position octets (Some (SeenWhole whole)) = refl
ahead_based base position octets (Some SeenEnd) = refl
ahead_based base position octets (Some SeenCut) = refl

pub progress_based : (base : ℕ) (position : Position) (octets : List ℕ) (seen : Option Seen) → position.reach ≡ beginning position.start
    → (let p : Progress = record { form = position.form; start = with_base base position.start; reach = record position.reach { base = Some base }; ahead = ahead_of (position_based base position) octets seen; read = octets } in p)
    ≡ (let q : Progress = record { form = position.form; start = with_base base position.start; reach = beginning (with_base base position.start); ahead = ahead_of position octets seen; read = octets } in q)
progress_based base position octets seen first =
    ap (λ (found : Option Found). let p : Progress = record { form = position.form; start = with_base base position.start; reach = record position.reach { base = Some base }; ahead = found; read = octets } in p)
    (ahead_based base position octets seen)
    ∙ ap (λ (r : Reach). let p : Progress = record { form = position.form; start = with_base base position.start; reach = record r { base = Some base }; ahead = ahead_of position octets seen; read = octets } in p) first
