-- Frames that pass up to a moment.
use Rattle.std.proofs.Common.{◌≡◌, ℕ, suc, ◌+◌, ◌*◌, ◌<◌, ◌≤◌, true, false, List, [], ◌∷◌, ◌++◌, length, map, take, drop, Option, Some, None, Ok, Err, inl, inr, refl, sym, ap, subst, ◌∙◌, arith, take_while, append_assoc}
use Rattle.std.specs.List.{prefix_len}
use Rattle.std.proofs.lemmas.List.{append-nil, take-append-le}
use Rattle.std.proofs.Math.Seq.{take-length}
use Rattle.std.proofs.lemmas.Bool.Decides.{nat_tests}
use Rattle.rm_edge.specs.Outside.{Held}
use Rattle.rm_model.specs.Journal.{Frame, Journal, passes}
use Rattle.rm_pcap.specs.Records.{Stop}
use Rattle.rm_pcap.specs.Steps.{Found, Whole, Stops as StopsAt}
use Rattle.rm_pcap.specs.Progress.{Progress, moment_found, IsLawful, IsLawfulFind, IsUnseen}
use Rattle.rm_pcap.specs.Calls.{Looks, Steps}
use Rattle.rm_pcap.specs.declared.capture.Capture.{Capture}
use Rattle.rm_pcap.specs.declared.frame.Frame.{Frame as Lent}
use Rattle.rm_pcap.specs.declared.frame.Step.TheVariants.{Next}
use Rattle.rm_pcap.specs.declared.reach.Reach.{Reach}
use Rattle.rm_pcap.specs.View.{progress_of}
use Rattle.rm_captures.specs.Left.{AreLeft, IsNext, LooksAll, StepsOne, coming_of, passed_of}
use Rattle.rm_captures.specs.Merge.{is_by, frames_after}
use Rattle.rm_captures.specs.Reading.{AreHeld, AreUnseen}
use Rattle.rm_captures.specs.declared.coming.Coming.{Coming}
use Rattle.rm_captures.proofs.ComingLemmas.{AreFrom, IsFrom, none_least, told_is_lent, told_least, told_within}
use Rattle.rm_settings.specs.declared.settings.Settings.{Settings}
use Rattle.rm_probe.specs.Advance.{IsAdvanced}
use Rattle.rm_probe.specs.Probe.{IsFresh, settings_of, last_given, frames_given, Stands}
use Rattle.rm_probe.specs.Steps.{ArePassing, HasBegun, Advanced, AreFew, AreNotBefore, HasPassed, IsNotBefore, Keeps, SaysNext}
use Rattle.rm_probe.specs.Notes.{Note}
use Rattle.rm_probe.specs.Said.{Said, Notified, SaysMore}
use Rattle.rm_probe.specs.declared.probe.Probe.{Probe}
use Rattle.rm_probe.specs.declared.status.Status.{Status}
use Rattle.rm_probe.specs.declared.status.Status.TheVariants.{ReadFault}
use Rattle.rm_probe.proofs.PassingLemmas.{passing_more}

-- of the frames left, so many have passed, with these notifications
pub record Passed (settings : Settings) (moment : ℕ) (files : List (List ℕ)) (captures : List Capture) (probe : Probe) (before : ℕ) (frames : List Frame) (stop : Stop) (journal : Journal) (notes : List Note) : Type 0 where
  pub passed : List Frame
  pub left : List Frame
  pub reached : Journal
  pub passing : ArePassing settings journal passed notes reached
  pub leaves : AreLeft 1 captures files left stop
  pub stands : Stands probe reached
  pub taken : take_while (is_by moment) frames ≡ passed ++ take_while (is_by moment) left
  pub after : frames_after moment frames ≡ frames_after moment left
  pub count : passed_of captures + length left ≡ before + length frames

pub passed_none : (settings : Settings) (moment : ℕ) (files : List (List ℕ)) (captures : List Capture) (probe : Probe) (frames : List Frame) (stop : Stop) (journal : Journal)
    → AreLeft 1 captures files frames stop → Stands probe journal → Passed settings moment files captures probe (passed_of captures) frames stop journal []
passed_none settings moment files captures probe frames stop journal left stands =
    record { passed = []; left = frames; reached = journal; passing = (refl, refl); leaves = left; stands = stands; taken = refl; after = refl; count = refl }

-- so far some have passed
pub has_begun : (settings : Settings) (moment : ℕ) (files : List (List ℕ)) (captures : List Capture) (probe : Probe) (before : ℕ) (frames : List Frame) (stop : Stop) (journal : Journal) (notes : List Note)
    → Passed settings moment files captures probe before frames stop journal notes → HasBegun settings moment frames journal notes
has_begun settings moment files captures probe before frames stop journal notes p =
    record { passed = p.passed; left = p.left; reached = p.reached; passing = p.passing; taken = p.taken; orderly = p.stands.orderly }

one_longer : (m : ℕ) (f : Frame) (fs : List Frame) → is_by m f ≡ true → prefix_len (is_by m) (f ∷ fs) ≡ suc (prefix_len (is_by m) fs)
one_longer m f fs early = rw early (omega arith)

take_one : (m : ℕ) (f : Frame) (fs : List Frame) → is_by m f ≡ true → take_while (is_by m) (f ∷ fs) ≡ f ∷ take_while (is_by m) fs
take_one m f fs early = ap (λ (k : ℕ). take k (f ∷ fs)) (one_longer m f fs early)

take_no : (m : ℕ) (f : Frame) (fs : List Frame) → is_by m f ≡ false → take_while (is_by m) (f ∷ fs) ≡ []
take_no m f fs late = rw late refl

after_one : (m : ℕ) (f : Frame) (fs : List Frame) → is_by m f ≡ true → frames_after m (f ∷ fs) ≡ frames_after m fs
after_one m f fs early = ap (λ (k : ℕ). drop k (f ∷ fs)) (one_longer m f fs early)

after_no : (m : ℕ) (f : Frame) (fs : List Frame) → is_by m f ≡ false → frames_after m (f ∷ fs) ≡ f ∷ fs
after_no m f fs late = rw late refl

-- all were looked at
unfoldable pub passed_looking : (settings : Settings) (m : ℕ) (files : List (List ℕ)) (old new : List Capture) (probe probe' : Probe) (before : ℕ) (frames : List Frame) (stop : Stop) (journal : Journal) (notes : List Note)
    → (p : Passed settings m files old probe before frames stop journal notes) → AreLeft 1 new files p.left stop → passed_of new ≡ passed_of old → probe' ≡ probe
    → Passed settings m files new probe' before frames stop journal notes
passed_looking settings m files old new probe probe' before frames stop journal notes p leaves same alike = record {
  passed = p.passed;
  left = p.left;
  reached = p.reached;
  passing = p.passing;
  leaves = leaves;
  stands = subst (λ (q : Probe). Stands q p.reached) (sym alike) p.stands;
  taken = p.taken;
  after = p.after;
  count = omega (arith, same, p.count);
}

-- a frame comes next, which is the first of what is left
pub record FirstLeft (left : List Frame) (coming : Coming) : Type 0 where
  pub frame : Frame
  pub more : List Frame
  pub is : left ≡ frame ∷ more
  pub coming_is : coming ≡ coming_of frame

pub first_left : (left : List Frame) (coming : Coming) → IsNext left (Some coming) → FirstLeft left coming
first_left [] coming is = absurd (let e : Some coming ≡ None = is in cc)
first_left (frame ∷ more) coming is = record { frame = frame; more = more; is = refl; coming_is = let e : Some coming ≡ Some (coming_of frame) = is in cc }

-- one more frame passes
pub passed_one : (settings : Settings) (m : ℕ) (held : List ℕ → Held) (names files : List (List ℕ)) (old new : List Capture) (probe next : Probe) (before : ℕ) (frames : List Frame) (stop : Stop) (journal : Journal)
    (notes more : List Note) (coming : Coming) → AreHeld held names files → settings_of probe ≡ settings → coming.moment ≤ m → HasPassed held names old new probe next coming more → passed_of new ≡ passed_of old + 1
    → (p : Passed settings m files old probe before frames stop journal notes) → IsNext p.left (Some coming) → Passed settings m files new next before frames stop journal (notes ++ more)
passed_one settings m held names files old new probe next before frames stop journal notes more coming are same le counted one p is =
    let f = first_left p.left coming is in
    let (leaves, (ready, advanced, stood)) = counted files f.frame f.more stop p.reached are f.coming_is (subst (λ (fs : List Frame). AreLeft 1 old files fs stop) f.is p.leaves) p.stands in
    let moment : f.frame.moment ≡ coming.moment = sym (ap (λ (c : Coming). c.moment) f.coming_is) in
    let by : f.frame.moment ≤ m = omega (arith, le, moment) in
    let early : is_by m f.frame ≡ true = grind (arith, nat_tests) in
    record {
      passed = p.passed ++ f.frame ∷ [];
      left = f.more;
      reached = passes f.frame ∷ ready;
      passing = passing_more settings journal p.passed notes p.reached f.frame more ready p.passing (subst (λ (s : Settings). IsAdvanced s f.frame.moment p.reached more ready) same advanced);
      leaves = leaves;
      stands = stood;
      taken = p.taken ∙ ap (λ (xs : List Frame). p.passed ++ take_while (is_by m) xs) f.is ∙ ap (λ (xs : List Frame). p.passed ++ xs) (take_one m f.frame f.more early)
          ∙ sym (append_assoc p.passed (f.frame ∷ []) (take_while (is_by m) f.more));
      after = p.after ∙ ap (frames_after m) f.is ∙ after_one m f.frame f.more early;
      count = omega (arith, p.count, one, ap length f.is);
    }

-- no frame is left that passes
pub record Halts (m : ℕ) (left : List Frame) : Type 0 where
  pub taken : take_while (is_by m) left ≡ []
  pub after : frames_after m left ≡ left

halts_none : (m : ℕ) (left : List Frame) → left ≡ [] → Halts m left
halts_none m left e = rw e (record { taken = refl; after = refl })

halts_later : (m : ℕ) (f : Frame) (fs left : List Frame) → left ≡ f ∷ fs → m < f.moment → Halts m left
halts_later m f fs left e later =
    let late : is_by m f ≡ false = grind (arith, nat_tests) in
    rw e (record { taken = take_no m f fs late; after = after_no m f fs late })

-- none comes next
pub next_none : (m : ℕ) (left : List Frame) → IsNext left None → left ≡ []
next_none m [] is = refl
next_none m (frame ∷ more) is = absurd (let none : Option Coming = None in let e : none ≡ Some (coming_of frame) = is in cc)

pub halts_end : (m : ℕ) (left : List Frame) → IsNext left None → Halts m left
halts_end m left is = halts_none m left (next_none m left is)

-- what comes next is later
pub halts_next : (m : ℕ) (left : List Frame) (coming : Coming) → IsNext left (Some coming) → m < coming.moment → Halts m left
halts_next m left coming is later =
    let f = first_left left coming is in
    halts_later m f.frame f.more left f.is (omega (arith, later, ap (λ (c : Coming). c.moment) f.coming_is))

-- the frames up to the moment have passed
pub halt : (settings : Settings) (m : ℕ) (files : List (List ℕ)) (captures : List Capture) (probe : Probe) (before : ℕ) (frames : List Frame) (stop : Stop) (journal : Journal) (notes : List Note)
    → (p : Passed settings m files captures probe before frames stop journal notes) → Halts m p.left → Advanced settings m files captures probe before frames stop journal notes
halt settings m files captures probe before frames stop journal notes p s =
    let after : frames_after m frames ≡ p.left = p.after ∙ s.after in
    let taken : take_while (is_by m) frames ≡ p.passed = p.taken ∙ ap (λ (xs : List Frame). p.passed ++ xs) s.taken ∙ append-nil p.passed in
    record {
      left = rw after p.leaves;
      reached = p.reached;
      passing = subst (λ (fs : List Frame). ArePassing settings journal fs notes p.reached) (sym taken) p.passing;
      stands = p.stands;
      count = rw after p.count;
    }

-- and all have
pub all_after : (settings : Settings) (m : ℕ) (files : List (List ℕ)) (captures : List Capture) (probe : Probe) (before : ℕ) (frames : List Frame) (stop : Stop) (journal : Journal) (notes : List Note)
    → (p : Passed settings m files captures probe before frames stop journal notes) → IsNext p.left None → frames_after m frames ≡ []
all_after settings m files captures probe before frames stop journal notes p is = p.after ∙ ap (frames_after m) (next_none m p.left is)

-- a read failed, after some notifications
pub read_says : (IsNext : List Said → Type 0) (IsBegun : List Note → Type 0) (notes : List Note) (status : Status) → status ≡ ReadFault → IsBegun notes → SaysNext {T = Unit {0}} IsNext IsBegun (map Notified notes) (Err status)
read_says IsNext IsBegun notes status is begun =
    subst (λ (s : Status). SaysNext {T = Unit {0}} IsNext IsBegun (map Notified notes) (Err s)) (sym is) (notes, begun, refl)

-- captures that were looked at are at the same places
pub looked_length : (held : List ℕ → Held) (from : ℕ) (names : List (List ℕ)) (olds news : List Capture) (next : Option Coming) → LooksAll held from names olds news next → length news ≡ length olds
unfolding LooksAll
looked_length held from [] olds news next looks = ap length looks.0
looked_length held from (name ∷ names) [] news next looks = ap length looks.0
looked_length held from (name ∷ names) (old ∷ olds) [] next looks = absurd looks
looked_length held from (name ∷ names) (old ∷ olds) (new ∷ news) next (own, others, here, rest, is) = omega (arith, looked_length held (from + 1) names olds news others rest)

pub looked_passed : (held : List ℕ → Held) (from : ℕ) (names : List (List ℕ)) (olds news : List Capture) (next : Option Coming) → LooksAll held from names olds news next → passed_of news ≡ passed_of olds
unfolding LooksAll passed_of
looked_passed held from [] olds news next looks = ap passed_of looks.0
looked_passed held from (name ∷ names) [] news next looks = ap passed_of looks.0
looked_passed held from (name ∷ names) (old ∷ olds) [] next looks = absurd looks
looked_passed held from (name ∷ names) (old ∷ olds) (new ∷ news) next (own, others, (found, here, moment), rest, is) =
    omega (arith, ap (λ (p : Progress). p.reach.count) here.place, looked_passed held (from + 1) names olds news others rest)

looked_few : (held : List ℕ → Held) (from : ℕ) (names : List (List ℕ)) (olds news : List Capture) (next : Option Coming) → LooksAll held from names olds news next → AreFew olds → AreFew news
unfolding LooksAll AreFew
looked_few held from [] olds news next looks few = subst AreFew (sym looks.0) few
looked_few held from (name ∷ names) [] news next looks few = subst AreFew (sym looks.0) few
looked_few held from (name ∷ names) (old ∷ olds) [] next looks few = absurd looks
looked_few held from (name ∷ names) (old ∷ olds) (new ∷ news) next (own, others, (found, here, moment), rest, is) few =
    (omega (arith, ap (λ (p : Progress). p.reach.count) here.place, few.0), looked_few held (from + 1) names olds news others rest few.1)

-- what stands next isn't before a moment, where a look found it
looked_one : (held : Held) (moment : ℕ) (old new : Progress) (found : Found) → Looks held old new found → IsNotBefore moment old.reach old.ahead → IsNotBefore moment new.reach new.ahead
looked_one held moment old new found looks before =
    subst (λ (p : Progress). IsNotBefore moment p.reach p.ahead) (sym looks.place) (next_found found old.ahead refl (λ was e. looks.finds.again was e) looks.finds.lawful before)
  where
    next_found : (found : Found) (ahead : Option Found) → ahead ≡ old.ahead → ((was : Found) → old.ahead ≡ Some was → found ≡ was) → IsLawfulFind old.reach found → IsNotBefore moment old.reach ahead → IsNotBefore moment old.reach (Some found)
    next_found (StopsAt at) ahead is again lawful before = tt
    next_found (Whole frame after) None is again lawful before = omega (arith, before, lawful.moment)
    next_found (Whole frame after) (Some was) is again lawful before = subst (λ (f : Found). IsNotBefore moment old.reach (Some f)) (sym (again was (sym is))) before

looked_before : (held : List ℕ → Held) (from : ℕ) (names : List (List ℕ)) (olds news : List Capture) (next : Option Coming) (moment : ℕ) → LooksAll held from names olds news next → AreNotBefore moment olds → AreNotBefore moment news
unfolding LooksAll AreNotBefore
looked_before held from [] olds news next moment looks before = subst (AreNotBefore moment) (sym looks.0) before
looked_before held from (name ∷ names) [] news next moment looks before = subst (AreNotBefore moment) (sym looks.0) before
looked_before held from (name ∷ names) (old ∷ olds) [] next moment looks before = absurd looks
looked_before held from (name ∷ names) (old ∷ olds) (new ∷ news) next moment (own, others, (found, here, told), rest, is) before =
    (looked_one (held name) moment (progress_of old) (progress_of new) found here before.0, looked_before held (from + 1) names olds news others moment rest before.1)

pub keeps_looking : (held : List ℕ → Held) (names : List (List ℕ)) (named moment : ℕ) (probe probe' : Probe) (olds news : List Capture) (next : Option Coming) → LooksAll held 1 names olds news next → probe' ≡ probe
    → Keeps named moment probe olds → Keeps named moment probe' news
keeps_looking held names named moment probe probe' olds news next looks same keeps =
    subst (λ (p : Probe). Keeps named moment p news) (sym same) (record {
      all = looked_length held 1 names olds news next looks ∙ keeps.all;
      last = keeps.last;
      next = looked_before held 1 names olds news next moment looks keeps.next;
      count = keeps.count ∙ sym (looked_passed held 1 names olds news next looks);
      few = looked_few held 1 names olds news next looks keeps.few;
    })

pub keeps_again : (held : List ℕ → Held) (names : List (List ℕ)) (named : ℕ) (probe probe' : Probe) (olds news : List Capture) (next : Option Coming) → LooksAll held 1 names olds news next → probe' ≡ probe
    → Keeps named (last_given probe) probe olds → Keeps named (last_given probe') probe' news
keeps_again held names named probe probe' olds news next looks same keeps =
    subst (λ (p : Probe). Keeps named (last_given p) p news) (sym same) (keeps_looking held names named (last_given probe) probe probe olds news next looks refl keeps)

-- a capture whose next record is passed
record OneStep (old new : Progress) (lent : Lent) : Type 0 where
  pub count : new.reach.count ≡ old.reach.count + 1
  pub few : new.reach.count ≤ 100000000
  pub last : new.reach.last ≡ lent.moment
  pub unseen : new.ahead ≡ None
  pub later : (earlier : ℕ) → IsNotBefore earlier old.reach old.ahead → earlier ≤ lent.moment
  pub captured : length lent.bytes.now ≤ lent.original
  pub most : lent.original ≤ 262144

one_step : (held : Held) (old new : Progress) (lent : Lent) → Steps held old new (Ok (Next lent)) → OneStep old new lent
one_step held old new lent (StopsAt stop, moves, shows) = absurd shows
one_step held old new lent (Whole frame after, moves, shows) =
    let lawful : IsLawful old.reach frame after = moves.finds.lawful in
    let moment : frame.moment ≡ lent.moment = ap (λ (f : Frame). f.moment) shows in
    record {
      count = ap (λ (p : Progress). p.reach.count) moves.place ∙ lawful.count ∙ lawful.number;
      few = omega (arith, ap (λ (p : Progress). p.reach.count) moves.place, lawful.count, lawful.few);
      last = ap (λ (p : Progress). p.reach.last) moves.place ∙ lawful.last ∙ moment;
      unseen = ap (λ (p : Progress). p.ahead) moves.place;
      later = λ earlier before. by_ahead earlier old.ahead refl lawful moment before;
      captured = subst (λ (f : Frame). length f.octets ≤ f.original) shows lawful.captured;
      most = subst (λ (f : Frame). f.original ≤ 262144) shows lawful.most;
    }
  where
    by_ahead : (earlier : ℕ) (ahead : Option Found) → old.ahead ≡ ahead → IsLawful old.reach frame after → frame.moment ≡ lent.moment → IsNotBefore earlier old.reach ahead → earlier ≤ lent.moment
    by_ahead earlier None is lawful moment before = omega (arith, before, lawful.moment, moment)
    by_ahead earlier (Some was) is lawful moment before =
        let here : IsNotBefore earlier old.reach (Some (Whole frame after)) = subst (λ (f : Found). IsNotBefore earlier old.reach (Some f)) (sym (moves.finds.again was is)) before in
        omega (arith, here, moment)

-- captures of which none has a frame before a moment
from_before : (moment : ℕ) (reach : Reach) (found : Found) (ahead : Option Found) → ahead ≡ Some found → IsFrom moment (moment_found found) → IsNotBefore moment reach ahead
from_before moment reach (Whole frame after) ahead is from = subst (IsNotBefore moment reach) (sym is) from
from_before moment reach (StopsAt stop) ahead is from = subst (IsNotBefore moment reach) (sym is) tt

all_before : (moment : ℕ) (captures : List Capture) → AreFrom moment captures → AreNotBefore moment captures
unfolding AreFrom AreNotBefore
all_before moment [] from = tt
all_before moment (capture ∷ more) ((found, ahead, here), rest) = (from_before moment (progress_of capture).reach found (progress_of capture).ahead ahead here, all_before moment more rest)

few_passed : (captures : List Capture) → AreFew captures → passed_of captures ≤ 100000000 * length captures
unfolding AreFew passed_of
few_passed [] few = omega arith
few_passed (capture ∷ more) few = omega (arith, few.0, few_passed more few.1)

-- of captures that were looked at, the one whose frame comes next takes a step
pub record Stepped (moment : ℕ) (olds news : List Capture) (lent : Lent) : Type 0 where
  pub as_many : length news ≡ length olds
  pub count : passed_of news ≡ passed_of olds + 1
  pub room : passed_of olds + 1 ≤ 100000000 * length olds
  pub few : AreFew news
  pub next : AreNotBefore moment news
  pub later : (earlier : ℕ) → AreNotBefore earlier olds → earlier ≤ lent.moment
  pub captured : length lent.bytes.now ≤ lent.original
  pub most : lent.original ≤ 262144

pub stepped : (held : List ℕ → Held) (from interface : ℕ) (names : List (List ℕ)) (olds news : List Capture) (lent : Lent) (moment : ℕ) → StepsOne held from interface names olds news (Ok (Next lent))
    → AreFrom moment olds → lent.moment ≡ moment → AreFew olds → Stepped moment olds news lent
unfolding StepsOne AreFrom AreFew AreNotBefore passed_of
stepped held from interface [] olds news lent moment steps ahead same few = absurd steps
stepped held from interface (name ∷ names) [] news lent moment steps ahead same few = absurd steps
stepped held from interface (name ∷ names) (old ∷ olds) [] lent moment steps ahead same few = absurd steps
stepped held from interface (name ∷ names) (old ∷ olds) (new ∷ news) lent moment (inl (here, step_so, alike)) ahead same few =
    let one = one_step (held name) (progress_of old) (progress_of new) lent step_so in
    subst (λ (cs : List Capture). Stepped moment (old ∷ olds) (new ∷ cs) lent) (sym alike) (record {
      as_many = refl;
      count = omega (arith, one.count);
      room = omega (arith, one.count, one.few, few_passed olds few.1);
      few = (one.few, few.1);
      next = (
        subst (λ (found : Option Found). IsNotBefore moment (progress_of new).reach found) (sym one.unseen) (omega (arith, one.last, same)),
        all_before moment olds ahead.1,
      );
      later = λ earlier before. one.later earlier before.0;
      captured = one.captured;
      most = one.most;
    })
stepped held from interface (name ∷ names) (old ∷ olds) (new ∷ news) lent moment (inr (above, alike, rest)) ((found, seen, here), ahead) same few =
    let more = stepped held (from + 1) interface names olds news lent moment rest ahead same few.1 in
    subst (λ (c : Capture). Stepped moment (old ∷ olds) (c ∷ news) lent) (sym alike) (record {
      as_many = omega (arith, more.as_many);
      count = omega (arith, more.count);
      room = omega (arith, few.0, more.room);
      few = (few.0, more.few);
      next = (from_before moment (progress_of old).reach found (progress_of old).ahead seen here, more.next);
      later = λ earlier before. more.later earlier before.1;
      captured = more.captured;
      most = more.most;
    })

-- a frame that was told to come next may pass
pub record MayPass (named : ℕ) (probe : Probe) (lent : Lent) (olds news : List Capture) : Type 0 where
  pub later : last_given probe ≤ lent.moment
  pub room : frames_given probe < 400000000
  pub captured : length lent.bytes.now ≤ lent.original
  pub most : lent.original ≤ 262144
  pub count : passed_of news ≡ passed_of olds + 1
  pub keeps : (probe' : Probe) → last_given probe' ≡ lent.moment → frames_given probe' ≡ frames_given probe + 1 → Keeps named (last_given probe') probe' news

pub may_pass : (named : ℕ) (probe : Probe) (lent : Lent) (moment : ℕ) (olds news : List Capture) → named ≤ 4 → lent.moment ≡ moment → Stepped moment olds news lent → Keeps named (last_given probe) probe olds
    → MayPass named probe lent olds news
may_pass named probe lent moment olds news few same step keeps = record {
  later = step.later (last_given probe) keeps.next;
  room = omega (arith, keeps.count, step.room, keeps.all, few);
  captured = step.captured;
  most = step.most;
  count = step.count;
  keeps = λ probe' last frames. record {
    all = step.as_many ∙ keeps.all;
    last = omega arith;
    next = subst (λ (m : ℕ). AreNotBefore m news) (sym (last ∙ same)) step.next;
    count = omega (arith, frames, keeps.count, step.count);
    few = step.few;
  };
}

-- a probe to which nothing came can take any frame
pub keeps_begun : (named : ℕ) (probe : Probe) (captures : List Capture) → last_given probe ≡ 0 → Keeps named 0 probe captures → Keeps named (last_given probe) probe captures
keeps_begun named probe captures first keeps = subst (λ (m : ℕ). Keeps named m probe captures) (sym first) keeps

-- captures of which no record was found yet
unseen_one : (progress : Progress) → IsUnseen progress → (progress.reach.count ≡ 0) × IsNotBefore 0 progress.reach progress.ahead
unseen_one progress unseen = (ap (λ (r : Reach). r.count) unseen.first, by_ahead progress.ahead refl)
  where
    by_ahead : (ahead : Option Found) → progress.ahead ≡ ahead → IsNotBefore 0 progress.reach ahead
    by_ahead None is = omega arith
    by_ahead (Some (Whole frame after)) is = absurd (unseen.unseen frame after is)
    by_ahead (Some (StopsAt stop)) is = tt

pub unseen_passed : (captures : List Capture) → AreUnseen captures → passed_of captures ≡ 0
unfolding AreUnseen passed_of
unseen_passed [] unseen = refl
unseen_passed (capture ∷ more) unseen = omega (arith, (unseen_one (progress_of capture) unseen.0).0, unseen_passed more unseen.1)

unseen_few : (captures : List Capture) → AreUnseen captures → AreFew captures
unfolding AreUnseen AreFew
unseen_few [] unseen = tt
unseen_few (capture ∷ more) unseen = (omega (arith, (unseen_one (progress_of capture) unseen.0).0), unseen_few more unseen.1)

unseen_before : (captures : List Capture) → AreUnseen captures → AreNotBefore 0 captures
unfolding AreUnseen AreNotBefore
unseen_before [] unseen = tt
unseen_before (capture ∷ more) unseen = ((unseen_one (progress_of capture) unseen.0).1, unseen_before more unseen.1)

-- a probe to which nothing came, and captures of which no record is passed
pub keeps_first : (named : ℕ) (probe : Probe) (captures : List Capture) → IsFresh probe → length captures ≡ named → AreUnseen captures → Keeps named 0 probe captures
keeps_first named probe captures fresh all unseen = record {
  all = all;
  last = omega (arith, fresh.last);
  next = unseen_before captures unseen;
  count = fresh.frames ∙ sym (unseen_passed captures unseen);
  few = unseen_few captures unseen;
}

-- captures whose frames pass up to a moment
pub record Advancing {F N : Type 0} (held : F → List ℕ → Held) (faults : F → List ℕ → ℕ) (first now : F) (names : List (List ℕ)) (since : N → N → List Said → Type 0) (notes notes' : N) (named moment : ℕ) (olds captures : List Capture) (probe probe' : Probe) : Type 0 where
  pub same : (each : List ℕ) → held now each ≡ held first each
  pub quiet : (each : List ℕ) → faults now each ≡ faults first each
  pub settings : settings_of probe' ≡ settings_of probe
  pub more : List Note
  pub noted : SaysMore since notes notes' (map Notified more)
  pub early : last_given probe' ≤ moment
  pub keeps : Keeps named (last_given probe') probe' captures
  pub passed : (files : List (List ℕ)) → AreHeld (held first) names files → (frames : List Frame) (stop : Stop) (journal : Journal) → AreLeft 1 olds files frames stop → Stands probe journal
      → Passed (settings_of probe) moment files captures probe' (passed_of olds) frames stop journal more

-- captures that were lent as a slice, and are all there again
pub whole_slice : (n : ℕ) (news rest : List Capture) → length news ≡ n → take n (news ++ rest) ≡ news
whole_slice n news rest is = ap (λ (k : ℕ). take k (news ++ rest)) (sym is) ∙ take-append-le (length news) news rest (omega arith) ∙ take-length news

-- a frame that was told to come next is lent, and may pass
pub told_passes : (held held' : List ℕ → Held) (names : List (List ℕ)) (named : ℕ) (olds mids news : List Capture) (coming : Coming) (lent : Lent) (probe : Probe) → named ≤ 4 → length names ≡ named
    → LooksAll held 1 names olds mids (Some coming) → StepsOne held' 1 coming.interface names mids news (Ok (Next lent)) → Keeps named (last_given probe) probe mids
    → MayPass named probe lent mids news × (lent.moment ≡ coming.moment)
told_passes held held' names named olds mids news coming lent probe few all looks steps keeps =
    let same = told_is_lent held held' 1 names olds mids news coming (Ok (Next lent)) looks steps in
    let from = told_least held 1 names olds mids coming (omega (arith, looked_length held 1 names olds mids (Some coming) looks, keeps.all, all)) looks in
    let step = stepped held' 1 coming.interface names mids news lent coming.moment steps from same keeps.few in
    (may_pass named probe lent coming.moment mids news few same step keeps, same)

-- how many interfaces there are, as a step of one wants it
pub told_place : (held : List ℕ → Held) (names : List (List ℕ)) (named : ℕ) (olds mids : List Capture) (coming : Coming) → length names ≡ named → LooksAll held 1 names olds mids (Some coming)
    → (1 ≤ coming.interface) × (coming.interface ≤ length mids) × (coming.interface ≤ named)
told_place held names named olds mids coming all looks =
    let within = told_within held 1 names olds mids coming looks in (within.0, omega (arith, within.1), omega (arith, within.2, all))

-- where no frame comes up to a moment, none is left before it
before_sooner : (moment later : ℕ) (captures : List Capture) → moment ≤ later → AreNotBefore later captures → AreNotBefore moment captures
unfolding AreNotBefore
before_sooner moment later [] le before = tt
before_sooner moment later (capture ∷ more) le (here, rest) = (by_ahead (progress_of capture).ahead here, before_sooner moment later more le rest)
  where
    by_ahead : (ahead : Option Found) → IsNotBefore later (progress_of capture).reach ahead → IsNotBefore moment (progress_of capture).reach ahead
    by_ahead None is = omega (arith, is, le)
    by_ahead (Some (Whole frame after)) is = omega (arith, is, le)
    by_ahead (Some (StopsAt stop)) is = tt

-- a probe that was given nothing later than a moment, where no frame is left before it
keeps_until : (named moment : ℕ) (probe : Probe) (captures : List Capture) → Keeps named (last_given probe) probe captures → last_given probe ≤ moment → AreNotBefore moment captures → Keeps named moment probe captures
keeps_until named moment probe captures keeps early before = record { all = keeps.all; last = early; next = before; count = keeps.count; few = keeps.few }

pub keeps_end : (held : List ℕ → Held) (names : List (List ℕ)) (named moment : ℕ) (probe probe' : Probe) (olds news : List Capture) → length names ≡ named → LooksAll held 1 names olds news None → probe' ≡ probe
    → last_given probe ≤ moment → Keeps named (last_given probe) probe olds → Keeps named moment probe' news
keeps_end held names named moment probe probe' olds news all looks same early keeps =
    let there = keeps_looking held names named (last_given probe) probe probe olds news None looks refl keeps in
    subst (λ (p : Probe). Keeps named moment p news) (sym same)
    (keeps_until named moment probe news there early (all_before moment news (none_least held 1 names olds news moment (omega (arith, keeps.all, all)) looks)))

pub keeps_later : (held : List ℕ → Held) (names : List (List ℕ)) (named moment : ℕ) (probe probe' : Probe) (olds news : List Capture) (coming : Coming) → length names ≡ named → LooksAll held 1 names olds news (Some coming) → probe' ≡ probe
    → last_given probe ≤ moment → moment < coming.moment → Keeps named (last_given probe) probe olds → Keeps named moment probe' news
keeps_later held names named moment probe probe' olds news coming all looks same early later keeps =
    let there = keeps_looking held names named (last_given probe) probe probe olds news (Some coming) looks refl keeps in
    subst (λ (p : Probe). Keeps named moment p news) (sym same)
    (keeps_until named moment probe news there early
    (before_sooner moment coming.moment news (omega (arith, later)) (all_before coming.moment news (told_least held 1 names olds news coming (omega (arith, keeps.all, all)) looks))))

-- a probe that has answered at a moment
pub keeps_answered : (named moment : ℕ) (probe probe' : Probe) (captures : List Capture) → last_given probe' ≡ moment → frames_given probe' ≡ frames_given probe → Keeps named moment probe captures → Keeps named (last_given probe') probe' captures
keeps_answered named moment probe probe' captures last frames keeps = record {
  all = keeps.all;
  last = omega arith;
  next = subst (λ (m : ℕ). AreNotBefore m captures) (sym last) keeps.next;
  count = frames ∙ keeps.count;
  few = keeps.few;
}

-- at most so many frames are passed
pub most_passed : (named moment : ℕ) (probe : Probe) (captures : List Capture) → named ≤ 4 → Keeps named moment probe captures → passed_of captures ≤ 400000000
most_passed named moment probe captures few keeps = omega (arith, few_passed captures keeps.few, keeps.all, few)
