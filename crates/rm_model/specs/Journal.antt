-- What happened to the probe: its acts, the newest first.
use Rattle.std.specs.Prelude.{ℕ, ℤ, List, [], ◌∷◌, Option, find}
use Rattle.std.specs.Option.{option_map}
use Rattle.std.specs.Str.{bytes_eq}
use Rattle.rm_val.specs.Val.{Val}

-- a frame that the probe saw: the number of its interface, its moment in milliseconds, its number in the capture of that
-- interface from 1, the octets captured, and how many octets it had where it was captured, its check sequence left out
pub record Frame : Type 0 where
  pub interface : ℕ
  pub moment : ℕ
  pub number : ℕ
  pub octets : List ℕ
  pub original : ℕ

-- a variable that a Set names, and the value that it gives to it
pub record Assignment : Type 0 where
  pub name : List ℕ
  pub value : Val

-- What a Set gives, in rising order of the names, each name once. So the order of its bindings isn't there to matter.
abbrev pub Assignments : Type 0
Assignments = List Assignment

-- the value that a Set gives to the variable with a name, if it gives it one
abbrev pub value_given : Assignments → List ℕ → Option Val
value_given values name = option_map (λ assignment. assignment.value) (find (λ assignment. bytes_eq assignment.name name) values)

-- A frame passed; a Set was accepted at a moment; an alarm was sampled at a moment, by the number of its
-- row, with the number that it read, or nothing where its variable was gone.
pub data Act : Type 0 where
  passes : Frame → Act
  assigns : (moment : ℕ) (values : Assignments) → Act
  samples : (moment alarm : ℕ) (reading : Option ℤ) → Act

-- the acts so far, the newest first
abbrev pub Journal : Type 0
Journal = List Act

-- the moment of an act
abbrev pub moment_of : Act → ℕ
moment_of (passes frame) = frame.moment
moment_of (assigns moment values) = moment
moment_of (samples moment alarm reading) = moment

-- the moment of the newest act, 0 before the first
abbrev pub last_moment : Journal → ℕ
last_moment [] = 0
last_moment (act ∷ earlier) = moment_of act

-- the frames of a journal, the newest first
abbrev pub frames_in : Journal → List Frame
frames_in [] = []
frames_in (passes frame ∷ earlier) = frame ∷ frames_in earlier
frames_in (assigns moment values ∷ earlier) = frames_in earlier
frames_in (samples moment alarm reading ∷ earlier) = frames_in earlier
