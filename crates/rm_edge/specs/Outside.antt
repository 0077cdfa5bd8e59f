-- What the calls on the outside do to what an object holds, and to its count of faults.
use Rattle.std.specs.Prelude.{◌≡◌, ℕ, ◌+◌, ◌-◌, ◌^◌, ◌≤◌, min, List, ◌++◌, length, take, drop, Option, Some, None, Result, Ok, Err, OnErr, IsErr, ◌⊎◌}

-- a count after one more, which stands still at the end of 64 bits
abbrev pub one_more : ℕ → ℕ
one_more count = min (count + 1) (2 ^ 64 - 1)

-- a count that stands still at the end of 64 bits has risen by one or more
abbrev pub Rose : ℕ → ℕ → Type 0
Rose before now = one_more before ≤ now

-- the count doesn't fall, and it has risen where the call failed
pub record HasCause {T E : Type 0} (before now : ℕ) (result : Result T E) : Type 0 where
  pub later : before ≤ now
  pub failed : OnErr result (Rose before now)

-- what a shelf tells of a name: nothing, that it has no file, or the octets of its file
pub data Held : Type 0 where
  Untold : Held
  Absent : Held
  File : List ℕ → Held

-- a fact of the octets of a file, where they are told; a name that has no file has none
abbrev pub OfFile : Held → (List ℕ → Type 0) → Type 0
OfFile Untold P = Unit {0}
OfFile Absent P = ⊥
OfFile (File bytes) P = P bytes

-- of a file, read gives the octets from a place on, as many as it says, and none only at the end or into no room
pub record Gives (bytes : List ℕ) (at count : ℕ) (into : List ℕ) : Type 0 where
  pub octets : take count into ≡ take count (drop at bytes)
  pub within : count ≤ length bytes - at
  pub some : count ≡ 0 → length into ≡ 0 ⊎ length bytes ≤ at

-- what a read answers of what is held
abbrev pub Reads : {E : Type 0} → Held → ℕ → List ℕ → Result ℕ E → Type 0
Reads Untold at into result = Unit {0}
Reads Absent at into result = IsErr result
Reads (File bytes) at into (Ok count) = Gives bytes at count into
Reads (File bytes) at into (Err e) = Unit {0}

-- what is held is what was before, and these, octets or datagrams; nothing is said where it isn't told
abbrev pub Adds : {A : Type 0} → Option (List A) → Option (List A) → List A → Type 0
Adds None new piece = Unit {0}
Adds (Some old) new piece = new ≡ Some (old ++ piece)

-- a front of the piece was added
abbrev pub AddsFront : {A : Type 0} → Option (List A) → Option (List A) → List A → Type 0
AddsFront old new piece = (n : ℕ) × Adds old new (take n piece)

-- a put adds the whole piece, or fails and adds a front of it
abbrev pub Puts : {A T E : Type 0} → Option (List A) → Option (List A) → List A → Result T E → Type 0
Puts old new piece (Ok done) = Adds old new piece
Puts old new piece (Err e) = AddsFront old new piece
