-- The lines of a request file. A line is a moment in one to ten digits, a blank, and the octets of a datagram as
-- hexadecimal digits, at most 131070 of them. It ends with a line feed, or with a carriage return and a line
-- feed; the last line may have no end.
use Rattle.std.specs.Prelude.{◌≡◌, ◌≤◌, ◌<◌, ℕ, ◌+◌, ◌-◌, Bool, ◌==◌, nat_le, if◌then◌else◌, List, map, length, take, drop, position, Option, Some, None, Result, Ok, Err}
use Rattle.std.specs.List.Sorted.{IsNonDecreasingBy}
use Rattle.std.specs.Str.Lines.{lines}
use Rattle.hex.specs.Hex.{decode_of}
use Rattle.hex.specs.declared.error.FromHexError.{FromHexError}
use Rattle.rm_edge.specs.Digits.{number_in}

-- a datagram, and the moment in milliseconds at which it comes
pub record TimedDatagram : Type 0 where
  pub moment : ℕ
  pub datagram : List ℕ

abbrev pub ok_value : {A : Type 0} → Result A FromHexError → Option A
ok_value (Ok x) = Some x
ok_value (Err e) = None

-- the octets that an even number of hexadecimal digits are, in either case, at most 131070 of them
unfoldable pub datagram_of : List ℕ → Option (List ℕ)
datagram_of digits = if nat_le (length digits) 131070 then ok_value (decode_of digits) else None

abbrev pub both : Option ℕ → Option (List ℕ) → Option TimedDatagram
both (Some moment) (Some datagram) = Some (record { moment = moment; datagram = datagram })
both (Some moment) None = None
both None datagram = None

abbrev pub is_blank : ℕ → Bool
is_blank c = c == 32

-- the moment before the first blank, and the datagram after it
abbrev pub parts_of : Option ℕ → List ℕ → Option TimedDatagram
parts_of None line = None
parts_of (Some blank) line = both (number_in (take blank line)) (datagram_of (drop (blank + 1) line))

-- the datagram of a line, if it is of the form
unfoldable pub request_of : List ℕ → Option TimedDatagram
request_of line = parts_of (position is_blank line) line

-- the lines are of the form, and each gives one of the requests, in their order, whose moments don't fall
pub record AreOf (texts : List (List ℕ)) (requests : List TimedDatagram) : Type 0 where
  pub each : map request_of texts ≡ map Some requests
  pub order : IsNonDecreasingBy (λ (request : TimedDatagram). request.moment) requests

-- that line is the first that isn't of the form or whose moment falls: the lines before it give requests, and with it they don't
pub record IsFirstWrong (line : ℕ) (texts : List (List ℕ)) : Type 0 where
  pub some : 1 ≤ line
  pub within : line ≤ length texts
  pub before : (requests : List TimedDatagram) × AreOf (take (line - 1) texts) requests
  pub wrong : (requests : List TimedDatagram) → AreOf (take line texts) requests → ⊥

-- line 1000001 is reached: there is one, and none before it is wrong
pub record HasTooManyLines (bytes : List ℕ) : Type 0 where
  pub many : 1000000 < length (lines bytes)
  pub good : (line : ℕ) → IsFirstWrong line (lines bytes) → 1000000 < line

-- that line is the first that is wrong, among those that there may be
abbrev pub IsWrongAt : ℕ → List ℕ → Type 0
IsWrongAt line bytes = IsFirstWrong line (lines bytes) × (line ≤ 1000000)

-- a file of at most 1000000 lines, which give these requests
pub record AreRequests (bytes : List ℕ) (requests : List TimedDatagram) : Type 0 where
  pub few : length (lines bytes) ≤ 1000000
  pub are : AreOf (lines bytes) requests

-- the octets are a request file
abbrev pub IsRequestFile : List ℕ → Type 0
IsRequestFile bytes = (requests : List TimedDatagram) × AreRequests bytes requests
