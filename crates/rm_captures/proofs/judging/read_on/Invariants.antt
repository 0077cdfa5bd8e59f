use Rattle.std.proofs.Common.{◌-◌}
use Rattle.rm_pcap.specs.View.{progress_of}
use Rattle.rm_captures.proofs.RoundLemmas.{ReadingOn}
use Rattle.rm_captures.proofs.judging.read_on.Given as goal

abbrev pub invariant-loop-fault : goal.invariant-loop-fault
invariant-loop-fault g l = ReadingOn g.F.Shelf.held g.F.Shelf.faults l.fn.shelf l.shelf l.name (progress_of l.fn.capture) (progress_of l.capture)

abbrev pub decreases-loop-fault : goal.decreases-loop-fault
decreases-loop-fault g l = 100000001 - (progress_of l.capture).reach.count
