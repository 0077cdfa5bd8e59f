use Rattle.rm_alarm.proofs.NextDue.{begins, goes_on, ends}
use Rattle.rm_alarm.proofs.due.earliest.Goals as goal

pub loop-index-init : goal.loop-index-init
loop-index-init c = begins c.args.rows.now c.len.ensures.rows.1

pub loop-index-preserved : goal.loop-index-preserved
loop-index-preserved c =
    rw c.nearer-next.ensures (goes_on c.args.rows.now c.loop-index.last c.in-Some.index c.loop-index.next c.due.result c.in-Some.ensures.least c.due.ensures c.loop-index.invariant)

pub returns : goal.returns
returns c = ends c.args.rows.now c.loop-index.last c.loop-index.next c.in_default.ensures.least c.loop-index.invariant
