use Rattle.std.proofs.Common.{◌-◌}
use Rattle.rm_requests.specs.Reading.{reached_of}
use Rattle.rm_probe.proofs.JudgeLemmas.{Judging}
use Rattle.rm_probe.proofs.requests.judge.Given as goal

abbrev pub invariant-loop-fault : goal.invariant-loop-fault
invariant-loop-fault g l = Judging g.F.Shelf.held g.F.Shelf.faults l.fn.shelf l.shelf l.name (reached_of l.requests)

abbrev pub decreases-loop-fault : goal.decreases-loop-fault
decreases-loop-fault g l = 1000001 - (reached_of l.requests).number
