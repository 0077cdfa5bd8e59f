use Rattle.std.proofs.Common.{◌≡◌, take}
use Rattle.rm_keyed.proofs.indexed.index_of.Given as goal

abbrev pub invariant-loop-place : goal.invariant-loop-place
invariant-loop-place g l = l.index ≡ take l.place (g.K.Indexed.index l.key)
