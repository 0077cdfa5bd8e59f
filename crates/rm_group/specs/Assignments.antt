-- What a list of the bindings of a Set shows.
use Rattle.std.specs.Prelude.{ℕ, List, map, All}
use Rattle.rm_val.specs.Val.{Val, val_of}
use Rattle.rm_val.specs.Spellable.{IsSpellable, HasSpelling}
use Rattle.rm_model.specs.Journal.{Assignment}
use Rattle.rm_model.specs.Judgement.{Bindings}
use Rattle.rm_group.specs.declared.assignments.Assigned.{Assigned}

-- a variable, and the value that it is given
abbrev pub giving : List ℕ → Val → Assignment
giving name value = record { name = name; value = value }

-- the binding that is kept
abbrev pub given_as : Assigned → Assignment
given_as assigned = giving assigned.name (val_of assigned.value)

abbrev pub given_in : List Assigned → Bindings
given_in assigned = map given_as assigned

-- its name and its value have a spelling
pub record IsSpelled (assigned : Assigned) : Type 0 where
  pub name : IsSpellable assigned.name
  pub value : HasSpelling (val_of assigned.value)

abbrev pub AreSpelled : List Assigned → Type 0
AreSpelled assigned = All IsSpelled assigned
