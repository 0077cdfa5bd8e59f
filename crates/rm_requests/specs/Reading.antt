-- How far a request file was read, and what reading its next line answers.
use Rattle.std.specs.Prelude.{◌≡◌, ◌<◌, ◌≤◌, ◌+◌, ◌^◌, ◌==◌, ℕ, Bool, List, [], ◌∷◌, length, take, drop, position, Option, Some, None, Result, Ok, Err}
use Rattle.std.specs.Str.Lines.{lines, strip_carriage_return}
use Rattle.rm_edge.specs.Outside.{Held, File}
use Rattle.rm_window.specs.Filling.{IsFront}
use Rattle.rm_window.specs.Window.{octets_of}
use Rattle.rm_requests.specs.Lines.{TimedDatagram, request_of}
use Rattle.rm_requests.specs.declared.fault.RequestsFault.{RequestsFault}
use Rattle.rm_requests.specs.declared.fault.RequestsFault.TheVariants.{Line, TooLong, Read}
use Rattle.rm_requests.specs.declared.requests.Request.{Request}
use Rattle.rm_requests.specs.declared.requests.Requests.{Requests}

abbrev pub is_newline : ℕ → Bool
is_newline b = b == 10

-- the line that stands first in octets whose first line feed is there, and how many octets it takes with its end
abbrev pub IsFirst : Option ℕ → List ℕ → List ℕ → ℕ → Type 0
IsFirst (Some end) octets line passed = (line ≡ strip_carriage_return (take end octets)) × (passed ≡ end + 1)
IsFirst None octets line passed = (line ≡ octets) × (passed ≡ length octets)

-- The octets are those that are left of a file, or a front of them in which a line ends, or that is longer than any line.
pub record HoldsLine (octets rest : List ℕ) : Type 0 where
  pub front : IsFront octets rest
  pub whole : position is_newline octets ≡ None → length octets < 131083 → octets ≡ rest

-- a line isn't of the form, or its moment is below the one before
abbrev pub IsWrongAfter : ℕ → List ℕ → Type 0
IsWrongAfter last line = (request : TimedDatagram) → request_of line ≡ Some request → request.moment < last

-- How far a request file was read: where the next line stands, its number, the moment of the line before, and the octets
-- that were read from there on.
pub record Reached : Type 0 where
  pub at : ℕ
  pub number : ℕ
  pub last : ℕ
  pub read : List ℕ

-- before the first line
abbrev pub beginning : Reached
beginning = record { at = 0; number = 1; last = 0; read = [] }

-- how far a file was read
abbrev pub reached_of : Requests → Reached
reached_of requests = record { at = requests.at; number = requests.number; last = requests.last; read = octets_of requests.window }

-- the datagram of the line that was read last
abbrev pub datagram_in : Requests → List ℕ
datagram_in requests = take requests.count requests.datagram.items

-- the octets that were read are those of a file
abbrev pub Agrees : Reached → List ℕ → Type 0
Agrees reached bytes = IsFront reached.read (drop reached.at bytes)

-- the lines of a file that are left
abbrev pub lines_left : Reached → List ℕ → List (List ℕ)
lines_left reached bytes = lines (drop reached.at bytes)

-- nothing was passed, and what was read is kept
pub record Stays (old new : Reached) : Type 0 where
  pub at : new.at ≡ old.at
  pub number : new.number ≡ old.number
  pub last : new.last ≡ old.last
  pub read : IsFront old.read new.read

-- a line was passed in a file that agrees, and gives that request
pub record Passes (old new : Reached) (request : TimedDatagram) (bytes : List ℕ) : Type 0 where
  pub agrees : Agrees new bytes
  pub line : List ℕ
  pub first : lines_left old bytes ≡ line ∷ lines_left new bytes
  pub gives : request_of line ≡ Some request

-- the next line isn't of the form, or its moment is below the one before
pub record IsWrongNext (reached : Reached) (bytes : List ℕ) : Type 0 where
  pub line : List ℕ
  pub more : List (List ℕ)
  pub first : lines_left reached bytes ≡ line ∷ more
  pub wrong : IsWrongAfter reached.last line

-- the next line is a request, which is passed
pub record Takes (held : Held) (old new : Reached) (request : Request) (datagram : List ℕ) : Type 0 where
  pub number : request.number ≡ old.number
  pub next : new.number ≡ old.number + 1
  pub few : old.number ≤ 1000000
  pub moment : new.last ≡ request.moment
  pub order : old.last ≤ request.moment
  pub range : request.moment < 2 ^ 32
  pub passes : (bytes : List ℕ) → held ≡ File bytes → Agrees old bytes → Passes old new (record { moment = request.moment; datagram = datagram }) bytes

-- What reading the next line answers, with that datagram.
abbrev pub Answers : Held → Reached → Reached → List ℕ → Result (Option Request) RequestsFault → Type 0
Answers held old new datagram (Ok (Some request)) = Takes held old new request datagram
Answers held old new datagram (Ok None) =
    Stays old new × ((bytes : List ℕ) → held ≡ File bytes → Agrees old bytes → lines_left old bytes ≡ [])
Answers held old new datagram (Err (Line line)) =
    Stays old new × (line ≡ old.number) × (line ≤ 1000000) × ((bytes : List ℕ) → held ≡ File bytes → Agrees old bytes → IsWrongNext old bytes)
Answers held old new datagram (Err TooLong) =
    Stays old new × (old.number ≡ 1000001) × ((bytes : List ℕ) → held ≡ File bytes → Agrees old bytes → 0 < length (lines_left old bytes))
Answers held old new datagram (Err Read) = Stays old new
