use Rattle.std.proofs.Common.{List, ℕ, [], ◌∷◌}
use Rattle.rm_model.specs.Names.{Below}
use Rattle.rm_group.proofs.group.Group.least.Goals as goal

nothing_below : (name : List ℕ) → Below name [] → ⊥
nothing_below [] under = cc
nothing_below (x ∷ name) under = cc

pub returns-clause-from : goal.returns-clause-from
returns-clause-from g c settings journal now name under = absurd (nothing_below name under)
