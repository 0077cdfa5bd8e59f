-- What writing a text does to a sink.
use Rattle.std.specs.Prelude.{◌≡◌, ℕ, List, Option, Result, Ok, Err}
use Rattle.rm_edge.specs.Outside.{Adds, AddsFront}
use Rattle.rm_decode.specs.declared.writing.Unwritten.{Unwritten}
use Rattle.rm_decode.specs.declared.writing.Unwritten.TheVariants.{NoMemory, Failed}

-- The whole text is added to the octets put, or a front of it where the put fails. Without memory nothing is.
abbrev pub Writes : {T : Type 0} → Option (List ℕ) → Option (List ℕ) → List ℕ → Result T Unwritten → Type 0
Writes old new text (Ok done) = Adds old new text
Writes old new text (Err Failed) = AddsFront old new text
Writes old new text (Err NoMemory) = new ≡ old
