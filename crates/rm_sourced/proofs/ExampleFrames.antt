-- Frames and Sets of examples.
use Rattle.std.proofs.Common.{ℕ, List, [], ◌∷◌, ◌++◌}
use Rattle.std.specs.Prelude.{pos}
use Rattle.rm_val.specs.Val.{int}
use Rattle.rm_model.specs.Journal.{Act, passes, assigns, Journal}

-- three hosts
abbrev address : ℕ → List ℕ
address last = 2 ∷ 0 ∷ 0 ∷ 0 ∷ 0 ∷ last ∷ []

abbrev pub a : List ℕ
a = address 10

abbrev pub b : List ℕ
b = address 11

abbrev pub c : List ℕ
c = address 12

-- a frame from one host to another, with so many octets beside the check sequence
abbrev pub sized : (original moment : ℕ) (source dest : List ℕ) → Act
sized original moment source dest = passes (record { interface = 1; moment = moment; number = 1; octets = dest ++ source; original = original })

abbrev pub frame : (moment : ℕ) (source dest : List ℕ) → Act
frame = sized 60

-- the status of row 1 of the control table with an entry is set
abbrev pub set_status : (entry : List ℕ) (moment status : ℕ) → Act
set_status entry moment status = assigns moment (record { name = entry ++ 6 ∷ 1 ∷ []; value = int (pos status) } ∷ [])

-- row 1 is made at 1100 and becomes valid at 2000
abbrev pub begun : (entry : List ℕ) → Journal
begun entry = set_status entry 2000 1 ∷ set_status entry 1100 2 ∷ []
