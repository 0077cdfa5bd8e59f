use Rattle.std.proofs.Common.{◌+◌, ap, ◌∙◌}
use Rattle.rm_ether.specs.declared.statistics.Statistics.{Statistics}
use Rattle.circular_buffer.specs.Buffer.{Buffer}
use Rattle.rm_history.specs.Run.{counter_in}
use Rattle.rm_history.proofs.Rings.{one_closed}
use Rattle.rm_history.proofs.run.Run.close_one.Goals as goal

pub returns-clause-buckets : goal.returns-clause-buckets
returns-clause-buckets c = λ bucket each one left.
    let run = c.args.self.now in
    ap (λ (ring : Buffer Statistics). counter_in (run.closed + 1) ring.items c.new-self.result bucket each) c.push_front.ensures.items
    ∙ one_closed run.closed run.ring.capacity run.ring.items run.current c.new-self.result c.new-self.ensures.counters bucket each left
