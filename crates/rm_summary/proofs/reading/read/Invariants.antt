use Rattle.std.proofs.Common.{◌-◌}
use Rattle.rm_pcap.specs.View.{progress_of}
use Rattle.rm_summary.proofs.ReadLemmas.{CountedSoFar}
use Rattle.rm_summary.proofs.reading.read.Given as goal

abbrev pub invariant-loop-capture : goal.invariant-loop-capture
invariant-loop-capture g l = CountedSoFar g.F.Shelf.held g.F.Shelf.faults l.fn.shelf l.shelf l.name l.lead l.keep_short (progress_of l.capture) l.counts

abbrev pub decreases-loop-capture : goal.decreases-loop-capture
decreases-loop-capture g l = 100000001 - (progress_of l.capture).reach.count
