-- What the bindings of an accepted Set give: a finite map from names to values.
use Rattle.std.specs.Prelude.{[], ◌∷◌}
use Rattle.std.specs.Ordering.{nat_cmp}
use Rattle.std.specs.declared.cmp.Ordering.{Ordering}
use Rattle.std.specs.declared.cmp.Ordering.TheVariants.{Less, Equal, Greater}
use Rattle.std.specs.Cmp.Lexicographic.{slice_cmp}
use Rattle.rm_model.specs.Journal.{Assignment, Assignments}
use Rattle.rm_model.specs.Judgement.{Bindings}

-- an assignment before some others, the first of which has a name that is above, the same, or below
abbrev pub placed : Ordering → Assignment → Assignment → Assignments → Assignments → Assignments
placed Less new first more later = new ∷ first ∷ more
placed Equal new first more later = new ∷ more
placed Greater new first more later = first ∷ later

-- assignments in rising order of their names, with one more in its place, which counts before one of the same name
abbrev pub with_assignment : Assignment → Assignments → Assignments
with_assignment new [] = new ∷ []
with_assignment new (first ∷ more) = placed (slice_cmp nat_cmp new.name first.name) new first more (with_assignment new more)

-- what bindings give, in rising order of the names; of several bindings of one variable the first counts
abbrev pub assignments_of : Bindings → Assignments
assignments_of [] = []
assignments_of (binding ∷ more) = with_assignment binding (assignments_of more)
