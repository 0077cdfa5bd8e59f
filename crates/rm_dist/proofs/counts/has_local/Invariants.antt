use Rattle.rm_dist.proofs.MarkLemmas.{HasNone}
use Rattle.rm_dist.proofs.counts.has_local.Given as goal

abbrev pub invariant-loop-slot : goal.invariant-loop-slot
invariant-loop-slot l = HasNone l.protocols l.local l.slot
