use Rattle.rm_pcap.specs.Progress.{frame_of}
use Rattle.rm_summary.proofs.CountLemmas.{counted_more}
use Rattle.rm_summary.proofs.counts.Counts.count.Goals as goal

pub returns-clause-counted : goal.returns-clause-counted
returns-clause-counted c = λ frames counted.
    counted_more c.args.keep_short frames (frame_of c.args.frame.now) c.facts-facts.result c.args.self.now c.with.result c.facts-facts.ensures counted c.with.ensures
