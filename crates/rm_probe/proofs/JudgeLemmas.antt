-- The lines of a request file that were passed so far.
use Rattle.std.proofs.Common.{◌≡◌, ℕ, ◌+◌, ◌<◌, ◌≤◌, List, [], ◌∷◌, ◌++◌, length, Result, Ok, Err, refl, sym, ap, ◌∙◌, arith, append_assoc}
use Rattle.std.proofs.lemmas.List.{append-nil}
use Rattle.std.specs.Str.Lines.{lines}
use Rattle.rm_edge.specs.Outside.{Held, Untold, Absent, File, OfFile}
use Rattle.rm_requests.specs.Lines.{TimedDatagram, AreRequests, HasTooManyLines, IsWrongAt}
use Rattle.rm_requests.specs.Reading.{Reached, Agrees, Answers, Passes, IsWrongNext, beginning, lines_left}
use Rattle.rm_requests.specs.declared.fault.RequestsFault.{RequestsFault}
use Rattle.rm_requests.specs.declared.fault.RequestsFault.TheVariants.{Line, TooLong, Read}
use Rattle.rm_requests.proofs.Steps.{with_first, requests_from, requests_of, left, left_passes, left_wrong, wrong_behind}
use Rattle.rm_requests.proofs.EachLineLemmas.{are_the_lines, is_first_wrong}
use Rattle.rm_probe.specs.Requests.{JudgesRequests}

-- the datagrams that were taken and those that are left, or the first wrong line
abbrev pub behind : List TimedDatagram → Result (List TimedDatagram) ℕ → Result (List TimedDatagram) ℕ
behind taken (Ok more) = Ok (taken ++ more)
behind taken (Err line) = Err line

-- the lines of a file up to there are these datagrams
pub record HasTaken (taken : List TimedDatagram) (reached : Reached) (bytes : List ℕ) : Type 0 where
  pub agrees : Agrees reached bytes
  pub are : requests_of bytes ≡ behind taken (left reached bytes)
  pub all : length (lines bytes) + 1 ≡ reached.number + length (lines_left reached bytes)

pub taken_none : (bytes : List ℕ) → HasTaken [] beginning bytes
taken_none bytes = record { agrees = refl; are = none (requests_of bytes); all = omega arith }
  where
    none : (r : Result (List TimedDatagram) ℕ) → r ≡ behind [] r
    none (Ok more) = refl
    none (Err line) = refl

pub taken_more : (taken : List TimedDatagram) (request : TimedDatagram) (reached new : Reached) (bytes : List ℕ) → HasTaken taken reached bytes → Passes reached new request bytes → new.number ≡ reached.number + 1
    → reached.last ≤ request.moment → new.last ≡ request.moment → HasTaken (taken ++ request ∷ []) new bytes
taken_more taken request reached new bytes has passes next order last = record {
  agrees = passes.agrees;
  are = has.are ∙ ap (behind taken) (left_passes reached new request bytes passes next order last) ∙ one_more (left new bytes);
  all = omega (arith, has.all, ap length passes.first, next);
}
  where
    one_more : (r : Result (List TimedDatagram) ℕ) → behind taken (with_first request r) ≡ behind (taken ++ request ∷ []) r
    one_more (Ok more) = ap Ok (sym (append_assoc taken (request ∷ []) more))
    one_more (Err line) = refl

-- no line is left
pub taken_all : (taken : List TimedDatagram) (reached : Reached) (bytes : List ℕ) → HasTaken taken reached bytes → lines_left reached bytes ≡ [] → reached.number ≤ 1000001 → AreRequests bytes taken
unfolding requests_from
taken_all taken reached bytes has none few =
    let gone : left reached bytes ≡ Ok [] = ap (requests_from reached.number reached.last) none in record {
      few = omega (arith, has.all, ap length none, few);
      are = (are_the_lines bytes taken).0 (has.are ∙ ap (behind taken) gone ∙ ap Ok (append-nil taken));
    }

-- the next line is wrong
pub taken_wrong : (taken : List TimedDatagram) (reached : Reached) (bytes : List ℕ) (line : ℕ) → HasTaken taken reached bytes → IsWrongNext reached bytes → line ≡ reached.number → line ≤ 1000000 → IsWrongAt line bytes
taken_wrong taken reached bytes line has wrong here few =
    ((is_first_wrong bytes line).0 (has.are ∙ ap (behind taken) (left_wrong reached bytes wrong) ∙ ap Err (sym here)), few)

-- the line behind the last that there may be is reached
pub taken_many : (taken : List TimedDatagram) (reached : Reached) (bytes : List ℕ) → HasTaken taken reached bytes → reached.number ≡ 1000001 → 0 < length (lines_left reached bytes) → HasTooManyLines bytes
taken_many taken reached bytes has last some = record {
  many = omega (arith, has.all, last, some);
  good = λ line first. omega (arith, last, wrong_behind reached.number reached.last (lines_left reached bytes) line (wrong_left (left reached bytes) line (sym has.are ∙ (is_first_wrong bytes line).1 first)));
}
  where
    wrong_left : (r : Result (List TimedDatagram) ℕ) (line : ℕ) → behind taken r ≡ Err line → r ≡ Err line
    wrong_left (Ok more) line e = absurd cc
    wrong_left (Err other) line e = e

-- what is left of a request file
pub record Remains (taken asked : List TimedDatagram) (reached : Reached) (bytes : List ℕ) : Type 0 where
  pub more : List TimedDatagram
  pub all : asked ≡ taken ++ more
  pub left_are : left reached bytes ≡ Ok more

pub remains : (taken asked : List TimedDatagram) (reached : Reached) (bytes : List ℕ) → HasTaken taken reached bytes → AreRequests bytes asked → Remains taken asked reached bytes
remains taken asked reached bytes has are = by_left (left reached bytes) refl (sym has.are ∙ (are_the_lines bytes asked).1 are.are)
  where
    by_left : (r : Result (List TimedDatagram) ℕ) → left reached bytes ≡ r → behind taken r ≡ Ok asked → Remains taken asked reached bytes
    by_left (Ok more) is e = record { more = more; all = cc; left_are = is }
    by_left (Err line) is e = absurd cc

-- a request file has no wrong line, and not too many
pub wrong_not_asked : (taken asked : List TimedDatagram) (reached : Reached) (bytes : List ℕ) → HasTaken taken reached bytes → AreRequests bytes asked → IsWrongNext reached bytes → ⊥
wrong_not_asked taken asked reached bytes has are wrong =
    let e : Ok asked ≡ Err reached.number = sym ((are_the_lines bytes asked).1 are.are) ∙ (has.are ∙ ap (behind taken) (left_wrong reached bytes wrong)) in cc

pub many_not_asked : (taken asked : List TimedDatagram) (reached : Reached) (bytes : List ℕ) → HasTaken taken reached bytes → AreRequests bytes asked → reached.number ≡ 1000001 → 0 < length (lines_left reached bytes) → ⊥
many_not_asked taken asked reached bytes has are last some = omega (arith, has.all, are.few, last, some)

-- how far a request file was judged
pub record Judging {F : Type 0} (held : F → List ℕ → Held) (faults : F → List ℕ → ℕ) (first now : F) (name : List ℕ) (reached : Reached) : Type 0 where
  pub same : (each : List ℕ) → held now each ≡ held first each
  pub quiet : (each : List ℕ) → faults now each ≡ faults first each
  pub few : reached.number ≤ 1000001
  pub none : held first name ≡ Absent → reached.read ≡ []
  pub file : (bytes : List ℕ) → held first name ≡ File bytes → (taken : List TimedDatagram) × HasTaken taken reached bytes

-- a fact of a file, which the name has
pub of_file : (held : Held) (P : List ℕ → Type 0) → (held ≡ Absent → ⊥) → ((bytes : List ℕ) → held ≡ File bytes → P bytes) → OfFile held P
of_file Untold P there p = tt
of_file Absent P there p = there refl
of_file (File bytes) P there p = p bytes refl

-- the next line is refused
pub refuses : (held : Held) (old new : Reached) (datagram : List ℕ) (fault : RequestsFault) → (held ≡ Absent → fault ≡ Read) → Answers held old new datagram (Err fault)
    → ((bytes : List ℕ) → held ≡ File bytes → (taken : List TimedDatagram) × HasTaken taken old bytes) → JudgesRequests {T = Unit {0}} held (Err fault)
refuses held old new datagram (Line line) absent (stays, number, few, wrong) file =
    of_file held (IsWrongAt line) (λ none. let e = absent none in cc) (λ bytes is. let (taken, has) = file bytes is in taken_wrong taken old bytes line has (wrong bytes is has.agrees) number few)
refuses held old new datagram TooLong absent (stays, last, some) file =
    of_file held HasTooManyLines (λ none. let e = absent none in cc) (λ bytes is. let (taken, has) = file bytes is in taken_many taken old bytes has last (some bytes is has.agrees))
refuses held old new datagram Read absent stays file = tt
