-- What lines come to that are read one after another.
use Rattle.std.proofs.Common.{◌≡◌, ℕ, ◌+◌, ◌<◌, ◌≤◌, ◌⊎◌, Bool, true, false, List, [], ◌∷◌, Option, Some, None, Result, Ok, Err, refl, sym, ap, ◌∙◌, arith, inl, inr, nat_lt}
use Rattle.std.specs.Prelude.{if◌then◌else◌}
use Rattle.std.specs.Str.Lines.{lines}
use Rattle.std.proofs.lemmas.Bool.{lt-ltb, le-ltb}
use Rattle.rm_requests.specs.Lines.{TimedDatagram, request_of}
use Rattle.rm_requests.specs.Reading.{Reached, lines_left, Passes, IsWrongNext}

abbrev pub with_first : TimedDatagram → Result (List TimedDatagram) ℕ → Result (List TimedDatagram) ℕ
with_first request (Ok requests) = Ok (request ∷ requests)
with_first request (Err number) = Err number

-- The datagrams of lines whose moments don't fall, or the number of the first line that isn't of the form or
-- whose moment is below the one before. The first of these lines has the number given, and the one before it
-- that moment.
unfoldable pub requests_from : ℕ → ℕ → List (List ℕ) → Result (List TimedDatagram) ℕ
requests_from number last [] = Ok []
requests_from number last (line ∷ more) = elim (request_of line) [
  | None ↦ Err number
  | Some request ↦ if nat_lt request.moment last then Err number
      else with_first request (requests_from (number + 1) request.moment more)
]

-- the datagrams of a file, or the number of its first wrong line
abbrev pub requests_of : List ℕ → Result (List TimedDatagram) ℕ
requests_of bytes = requests_from 1 0 (lines bytes)

-- the datagrams that are left, or the number of the first wrong line
abbrev pub left : Reached → List ℕ → Result (List TimedDatagram) ℕ
left reached bytes = requests_from reached.number reached.last (lines_left reached bytes)

-- what a first line that is that request, or none, makes of lines
from_first : ℕ → ℕ → List (List ℕ) → Option TimedDatagram → Result (List TimedDatagram) ℕ
from_first number last more None = Err number
from_first number last more (Some request) = if nat_lt request.moment last then Err number else with_first request (requests_from (number + 1) request.moment more)

by_first : (number last : ℕ) (line : List ℕ) (more : List (List ℕ)) → requests_from number last (line ∷ more) ≡ from_first number last more (request_of line)
unfolding requests_from from_first
by_first number last line more = by_request (request_of line) refl
  where
    by_request : (o : Option TimedDatagram) → request_of line ≡ o → requests_from number last (line ∷ more) ≡ from_first number last more o
    by_request None is = ap (λ (r : Option TimedDatagram). elim r [ None ↦ Err number | Some request ↦ if nat_lt request.moment last then Err number else with_first request (requests_from (number + 1) request.moment more) ]) is
    by_request (Some request) is = ap (λ (r : Option TimedDatagram). elim r [ None ↦ Err number | Some request ↦ if nat_lt request.moment last then Err number else with_first request (requests_from (number + 1) request.moment more) ]) is

-- lines of which the first isn't of the form
pub wrong_first : (number last : ℕ) (texts : List (List ℕ)) (line : List ℕ) (more : List (List ℕ)) → texts ≡ line ∷ more → request_of line ≡ None → requests_from number last texts ≡ Err number
unfolding from_first
wrong_first number last texts line more are is =
    ap (requests_from number last) are ∙ by_first number last line more ∙ ap (from_first number last more) is

-- lines of which the first is a request whose moment falls
pub falls_first : (number last : ℕ) (texts : List (List ℕ)) (line : List ℕ) (more : List (List ℕ)) (request : TimedDatagram) → texts ≡ line ∷ more → request_of line ≡ Some request → request.moment < last
    → requests_from number last texts ≡ Err number
unfolding from_first
falls_first number last texts line more request are is falls =
    ap (requests_from number last) are ∙ by_first number last line more ∙ ap (from_first number last more) is ∙ rw (lt-ltb request.moment last falls) refl

-- lines of which the first is a request
pub takes_first : (number last : ℕ) (texts : List (List ℕ)) (line : List ℕ) (more : List (List ℕ)) (request : TimedDatagram) → texts ≡ line ∷ more → request_of line ≡ Some request → last ≤ request.moment
    → requests_from number last texts ≡ with_first request (requests_from (number + 1) request.moment more)
unfolding from_first requests_from
takes_first number last texts line more request are is order =
    ap (requests_from number last) are ∙ by_first number last line more ∙ ap (from_first number last more) is ∙ rw (le-ltb request.moment last order) refl

-- lines that are wrong are so at the first one, or behind it
first_error : (number last : ℕ) (text : List ℕ) (more : List (List ℕ)) (line : ℕ) → requests_from number last (text ∷ more) ≡ Err line
    → (number ≡ line) ⊎ ((request : TimedDatagram) × (requests_from (number + 1) request.moment more ≡ Err line))
unfolding from_first
first_error number last text more line e = by_request (request_of text) (sym (by_first number last text more) ∙ e)
  where
    by_rest : (request : TimedDatagram) (rest : Result (List TimedDatagram) ℕ) → with_first request rest ≡ Err line → rest ≡ Err line
    by_rest request (Ok more) e = absurd cc
    by_rest request (Err other) e = e

    by_order : (request : TimedDatagram) (falls : Bool) → (if falls then Err number else with_first request (requests_from (number + 1) request.moment more)) ≡ Err line
        → (number ≡ line) ⊎ ((request : TimedDatagram) × (requests_from (number + 1) request.moment more ≡ Err line))
    by_order request true e = inl cc
    by_order request false e = inr (request, by_rest request (requests_from (number + 1) request.moment more) e)

    by_request : (o : Option TimedDatagram) → from_first number last more o ≡ Err line → (number ≡ line) ⊎ ((request : TimedDatagram) × (requests_from (number + 1) request.moment more ≡ Err line))
    by_request None e = inl cc
    by_request (Some request) e = by_order request (nat_lt request.moment last) e

pub wrong_behind : (number last : ℕ) (texts : List (List ℕ)) (line : ℕ) → requests_from number last texts ≡ Err line → number ≤ line
unfolding requests_from
wrong_behind number last [] line e = absurd cc
wrong_behind number last (text ∷ more) line e =
    elim (first_error number last text more line e) [
      | inl same ↦ omega (arith, same)
      | inr (request, rest) ↦ omega (arith, wrong_behind (number + 1) request.moment more line rest)
    ]

-- a line that is passed gives the first of the requests that are left
pub left_passes : (old new : Reached) (request : TimedDatagram) (bytes : List ℕ) → Passes old new request bytes → new.number ≡ old.number + 1 → old.last ≤ request.moment → new.last ≡ request.moment
    → left old bytes ≡ with_first request (left new bytes)
left_passes old new request bytes passes number order last =
    rw (number, last) (takes_first old.number old.last (lines_left old bytes) passes.line (lines_left new bytes) request passes.first passes.gives order)

-- where the next line is wrong, it is the first wrong one
pub left_wrong : (reached : Reached) (bytes : List ℕ) → IsWrongNext reached bytes → left reached bytes ≡ Err reached.number
left_wrong reached bytes next = by_request (request_of next.line) refl
  where
    by_request : (o : Option TimedDatagram) → request_of next.line ≡ o → left reached bytes ≡ Err reached.number
    by_request None is = wrong_first reached.number reached.last (lines_left reached bytes) next.line next.more next.first is
    by_request (Some request) is = falls_first reached.number reached.last (lines_left reached bytes) next.line next.more request next.first is (next.wrong request is)
