-- What is wrong with the bindings of a Set alone, by what is wrong with a name and a value.
use Rattle.std.specs.Prelude.{ℕ, ◌≤◌, List, length, Bool, not, Option}
use Rattle.rm_val.specs.Val.{Val}
use Rattle.rm_val.specs.declared.error.ErrorStatus.{ErrorStatus}
use Rattle.rm_val.specs.declared.error.ErrorStatus.TheVariants.{NotWritable}
use Rattle.rm_model.specs.declared.verdict.Verdict.{Verdict}
use Rattle.rm_model.specs.declared.verdict.Verdict.TheVariants.{Fine, Wrong}
use Rattle.rm_model.specs.Judgement.{Bindings, name_at, value_at, IsFirstFault, unless}

-- what is wrong with the binding at a place
abbrev pub alone_at : (List ℕ → Val → Option ErrorStatus) → Bindings → ℕ → Option ErrorStatus
alone_at alone bindings place = alone (name_at bindings place) (value_at bindings place)

-- nothing is wrong with any of them
abbrev pub AreFineAlone : (List ℕ → Val → Option ErrorStatus) → Bindings → Type 0
AreFineAlone alone bindings = IsFirstFault (length bindings) (alone_at alone bindings) Fine

-- what is wrong with a name where none of these objects is writable
abbrev pub read_only : (List ℕ → Bool) → List ℕ → Val → Option ErrorStatus
read_only objects name value = unless (not (objects name)) NotWritable

-- a verdict finds nothing wrong, or names one of so many bindings
abbrev pub IsWithin : ℕ → Verdict → Type 0
IsWithin count Fine = Unit {0}
IsWithin count (Wrong status index) = index ≤ count
