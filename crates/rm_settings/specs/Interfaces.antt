-- Which interfaces have captures.
use Rattle.std.specs.Prelude.{ℕ, List, Option, IsSome}
use Rattle.std.specs.Borrow.{Bor}

-- no interface has a capture where one with a lower number has none; the names are those of the captures of interfaces 2 to 4
abbrev pub IsLadder : Option (Bor (List ℕ)) → Option (Bor (List ℕ)) → Option (Bor (List ℕ)) → Type 0
IsLadder if2 if3 if4 = (IsSome if3 → IsSome if2) × (IsSome if4 → IsSome if3)
