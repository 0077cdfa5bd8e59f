-- The first line of a file, of which a window has the front.
use Rattle.std.proofs.Common.{◌≡◌, ℕ, ◌+◌, ◌-◌, ◌<◌, ◌≤◌, Bool, true, false, List, [], ◌∷◌, length, take, drop, Option, Some, None, refl, sym, ap, subst, ◌∙◌, arith, position, inl, inr, get_or}
use Rattle.std.specs.Prelude.{◌==◌, if◌then◌else◌}
use Rattle.std.specs.List.{position_or_len, slice_index}
use Rattle.std.specs.Str.Lines.{lines, strip_carriage_return}
use Rattle.std.proofs.lemmas.Bool.{cases_lt}
use Rattle.std.proofs.lemmas.List.{drop_all, length-take-le, length-drop, drop-drop, get_or-take}
use Rattle.std.proofs.lemmas.List.Quantifiers.{position-Some}
use Rattle.std.proofs.lemmas.List.Sums.{position_or_len_is}
use Rattle.std.proofs.lemmas.Bool.{lt-ltb}
use Rattle.std.proofs.lemmas.Bool.Decides.{nat_tests}
use Rattle.rm_window.specs.Filling.{IsFront}
use Rattle.rm_window.proofs.WindowLemmas.{front_of, front_short, front_behind}
use Rattle.rm_requests.specs.Lines.{TimedDatagram, datagram_of, is_blank, both, parts_of, request_of}
use Rattle.rm_edge.specs.Digits.{number_in}
use Rattle.rm_requests.specs.Reading.{Reached, is_newline, lines_left, IsFirst, HoldsLine, IsWrongAfter, IsWrongNext, Passes}
use Rattle.rm_requests.proofs.LineLemmas.{lines_first, lines_last, none_stands}

-- the digits of a moment, and those of a datagram, are so many at most
moment_short : (digits : List ℕ) (moment : ℕ) → number_in digits ≡ Some moment → length digits ≤ 10
unfolding number_in
moment_short digits moment is = grind (arith, nat_tests)

datagram_short : (digits datagram : List ℕ) → datagram_of digits ≡ Some datagram → length digits ≤ 131070
unfolding datagram_of
datagram_short digits datagram is = grind (arith, nat_tests)

-- so is a line
pub line_short : (line : List ℕ) (request : TimedDatagram) → request_of line ≡ Some request → length line ≤ 131081
unfolding request_of
line_short line request is = by_blank (position is_blank line) refl is
  where
    by_parts : (moment : Option ℕ) (datagram : Option (List ℕ)) → both moment datagram ≡ Some request → (m : ℕ) × (d : List ℕ) × (moment ≡ Some m) × (datagram ≡ Some d)
    by_parts (Some moment) (Some datagram) e = (moment, datagram, refl, refl)
    by_parts (Some moment) None e = absurd cc
    by_parts None datagram e = absurd cc

    by_blank : (blank : Option ℕ) → position is_blank line ≡ blank → parts_of blank line ≡ Some request → length line ≤ 131081
    by_blank None stands e = absurd cc
    by_blank (Some blank) stands e =
        let within = (position-Some is_blank line blank 0 stands).0 in
        let (m, d, moment, datagram) = by_parts (number_in (take blank line)) (datagram_of (drop (blank + 1) line)) e in
        omega (arith, moment_short (take blank line) m moment, datagram_short (drop (blank + 1) line) d datagram, length-take-le blank line (omega (arith, within)), length-drop (blank + 1) line)

pub line_long : (line : List ℕ) → 131081 < length line → request_of line ≡ None
line_long line long = by_request (request_of line) refl
  where
    by_request : (o : Option TimedDatagram) → request_of line ≡ o → request_of line ≡ None
    by_request None is = is
    by_request (Some request) is = absurd (let short = line_short line request is in omega (arith, short, long))

-- at most one octet is stripped
strip_short : (line : List ℕ) → length line ≤ length (strip_carriage_return line) + 1
strip_short line = by_last (slice_index line (length line - 1) == 13)
  where
    by_last : (last : Bool) → length line ≤ length (if last then take (length line - 1) line else line) + 1
    by_last true = omega (arith, length-take-le (length line - 1) line (omega arith))
    by_last false = omega arith

-- the first line feed of a front is that of the whole
pub end_of_front : (part whole : List ℕ) (end : ℕ) → IsFront part whole → position is_newline part ≡ Some end → position is_newline whole ≡ Some end
end_of_front part whole end front stands =
    let (within, here, before) = position-Some is_newline part end 0 stands in
    let fits = front_short part whole front in
    let same : (k : ℕ) → k < length part → get_or part k 0 ≡ get_or whole k 0 =
    λ k lt. ap (λ (xs : List ℕ). get_or xs k 0) front ∙ get_or-take (length part) whole k 0 lt in
    let at : position_or_len is_newline whole ≡ end = position_or_len_is is_newline whole end 0 (omega (arith, within, fits))
    (λ k lt. ap is_newline (sym (same k (omega (arith, lt, within)))) ∙ before k lt) (λ _. ap is_newline (sym (same end within)) ∙ here) in
    rw (at, lt-ltb end (length whole) (omega (arith, within, fits))) refl

-- where a front has no line feed, the first one stands behind it
end_behind : (part whole : List ℕ) (end : ℕ) → IsFront part whole → position is_newline part ≡ None → position is_newline whole ≡ Some end → length part ≤ end
end_behind part whole end front none stands =
    elim (cases_lt end (length part)) [
      | inl before ↦ absurd (
          let here = (position-Some is_newline whole end 0 stands).1 in
          let away = none_stands is_newline part none end 0 before in
          let same : get_or part end 0 ≡ get_or whole end 0 = ap (λ (xs : List ℕ). get_or xs end 0) front ∙ get_or-take (length part) whole end 0 before in
          let e : true ≡ false = sym here ∙ ap is_newline (sym same) ∙ away in cc)
      | inr past ↦ omega (arith, past)
    ]

-- a line doesn't take more octets than there are
pub passed_within : (end : Option ℕ) (octets line : List ℕ) (passed : ℕ) → position is_newline octets ≡ end → IsFirst end octets line passed → passed ≤ length octets
passed_within (Some end) octets line passed stands first = omega (arith, (position-Some is_newline octets end 0 stands).0, first.1)
passed_within None octets line passed stands first = omega (arith, first.1)

-- the line that ends in a window
ends_in : (octets rest line : List ℕ) (passed end : ℕ) → IsFront octets rest → position is_newline octets ≡ Some end → IsFirst (Some end) octets line passed
    → lines rest ≡ line ∷ lines (drop passed rest)
ends_in octets rest line passed end front stands first =
    let within = (position-Some is_newline octets end 0 stands).0 in
    let same : take end octets ≡ take end rest = front_of end octets rest front (omega (arith, within)) in
    let is : line ≡ strip_carriage_return (take end rest) = first.0 ∙ ap strip_carriage_return same in
    lines_first rest end (end_of_front octets rest end front stands) ∙ ap (λ (l : List ℕ). l ∷ lines (drop (end + 1) rest)) (sym is)
    ∙ ap (λ (k : ℕ). line ∷ lines (drop k rest)) (sym first.1)

-- a line without an end, which is all that is left
is_last : (octets rest line : List ℕ) (passed : ℕ) → octets ≡ rest → 0 < length octets → position is_newline octets ≡ None → IsFirst None octets line passed
    → lines rest ≡ line ∷ lines (drop passed rest)
is_last octets rest line passed all some none first =
    let gone : drop passed rest ≡ [] = drop_all passed rest (omega (arith, first.1, ap length all)) in
    let is : lines rest ≡ rest ∷ [] = lines_last rest (subst (λ (xs : List ℕ). position is_newline xs ≡ None) all none) (omega (arith, some, ap length all)) in
    is ∙ ap (λ (l : List ℕ). l ∷ []) (sym (first.0 ∙ all)) ∙ ap (λ (xs : List ℕ). line ∷ lines xs) (sym gone)

-- a line that is a request is the first of the file
pub first_of_file : (end : Option ℕ) (octets rest line : List ℕ) (passed : ℕ) (request : TimedDatagram) → position is_newline octets ≡ end → HoldsLine octets rest → 0 < length octets
    → IsFirst end octets line passed → request_of line ≡ Some request → lines rest ≡ line ∷ lines (drop passed rest)
first_of_file (Some end) octets rest line passed request stands holds some first is = ends_in octets rest line passed end holds.front stands first
first_of_file None octets rest line passed request stands holds some first is =
    elim (cases_lt (length octets) 131083) [
      | inl short ↦ is_last octets rest line passed (holds.whole stands short) some stands first
      | inr long ↦ absurd (let few = line_short line request is in omega (arith, few, long, ap length first.0))
    ]

-- the first of some lines isn't of the form
pub record BeginsWrong (texts : List (List ℕ)) : Type 0 where
  pub first : List ℕ
  pub more : List (List ℕ)
  pub are : texts ≡ first ∷ more
  pub wrong : request_of first ≡ None

-- a line that is longer than any
long_in_file : (octets rest : List ℕ) → IsFront octets rest → position is_newline octets ≡ None → 131083 ≤ length octets → BeginsWrong (lines rest)
long_in_file octets rest front none long = by_end (position is_newline rest) refl
  where
    fits : length octets ≤ length rest
    fits = front_short octets rest front

    by_end : (end : Option ℕ) → position is_newline rest ≡ end → BeginsWrong (lines rest)
    by_end None stands = record { first = rest; more = []; are = lines_last rest stands (omega (arith, long, fits)); wrong = line_long rest (omega (arith, long, fits)) }
    by_end (Some end) stands =
        let behind = end_behind octets rest end front none stands in
        let within = (position-Some is_newline rest end 0 stands).0 in
        let line = strip_carriage_return (take end rest) in
        let long : 131081 < length line = omega (arith, behind, long, strip_short (take end rest), length-take-le end rest (omega (arith, within))) in
        record { first = line; more = lines (drop (end + 1) rest); are = lines_first rest end stands; wrong = line_long line long }

-- a line that isn't of the form is the first of the file, or longer than any
pub wrong_in_file : (end : Option ℕ) (octets rest line : List ℕ) (passed : ℕ) → position is_newline octets ≡ end → HoldsLine octets rest → 0 < length octets
    → IsFirst end octets line passed → request_of line ≡ None → BeginsWrong (lines rest)
wrong_in_file (Some end) octets rest line passed stands holds some first is =
    record { first = line; more = lines (drop passed rest); are = ends_in octets rest line passed end holds.front stands first; wrong = is }
wrong_in_file None octets rest line passed stands holds some first is =
    elim (cases_lt (length octets) 131083) [
      | inl short ↦ record { first = line; more = lines (drop passed rest); are = is_last octets rest line passed (holds.whole stands short) some stands first; wrong = is }
      | inr long ↦ long_in_file octets rest holds.front stands (omega (arith, long))
    ]

-- octets have a line
pub has_line : (bytes : List ℕ) → 0 < length bytes → 0 < length (lines bytes)
has_line bytes some = by_end (position is_newline bytes) refl
  where
    by_end : (end : Option ℕ) → position is_newline bytes ≡ end → 0 < length (lines bytes)
    by_end None is = omega (arith, ap length (lines_last bytes is some))
    by_end (Some end) is = omega (arith, ap length (lines_first bytes end is))

-- what is left of a file, behind a line that was passed in the window
pub left_behind : (octets : List ℕ) (bytes : List ℕ) (at passed : ℕ) → IsFront octets (drop at bytes) → passed ≤ length octets → IsFront (drop passed octets) (drop (at + passed) bytes)
left_behind octets bytes at passed front within =
    subst (λ (xs : List ℕ). IsFront (drop passed octets) xs) (drop-drop passed at bytes) (front_behind passed octets (drop at bytes) front within)

-- what a window that stands at a line of a file says of the next line
module _ (reached : Reached) (octets line : List ℕ) (passed : ℕ) (bytes : List ℕ) (holds : HoldsLine octets (drop reached.at bytes)) (some : 0 < length octets)
    (first : IsFirst (position is_newline octets) octets line passed) where
  pub reaches_line : 0 < length (lines_left reached bytes)
  reaches_line = has_line (drop reached.at bytes) (omega (arith, some, front_short octets (drop reached.at bytes) holds.front))

  pub wrong_line : IsWrongAfter reached.last line → IsWrongNext reached bytes
  wrong_line wrong = by_request (request_of line) refl
    where
      by_request : (o : Option TimedDatagram) → request_of line ≡ o → IsWrongNext reached bytes
      by_request None is =
          let begins = wrong_in_file (position is_newline octets) octets (drop reached.at bytes) line passed refl holds some first is in record {
            line = begins.first;
            more = begins.more;
            first = begins.are;
            wrong = λ request other. absurd (let e : None ≡ Some request = sym begins.wrong ∙ other in cc);
          }
      by_request (Some request) is = record {
        line = line;
        more = lines (drop passed (drop reached.at bytes));
        first = first_of_file (position is_newline octets) octets (drop reached.at bytes) line passed request refl holds some first is;
        wrong = wrong;
      }

  pub takes_line : (new : Reached) (request : TimedDatagram) → request_of line ≡ Some request → new.at ≡ reached.at + passed → new.read ≡ drop passed octets → Passes reached new request bytes
  takes_line new request is at read =
      let rest = drop reached.at bytes in
      let are = first_of_file (position is_newline octets) octets rest line passed request refl holds some first is in
      let behind : drop passed rest ≡ drop new.at bytes = drop-drop passed reached.at bytes ∙ ap (λ (n : ℕ). drop n bytes) (sym at) in
      record {
        agrees = rw (read, at) (left_behind octets bytes reached.at passed holds.front (passed_within (position is_newline octets) octets line passed refl first));
        line = line;
        first = are ∙ ap (λ (xs : List ℕ). line ∷ lines xs) behind;
        gives = is;
      }
