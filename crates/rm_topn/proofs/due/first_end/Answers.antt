use Rattle.rm_topn.proofs.Dues.{begins, goes_on, ends}
use Rattle.rm_topn.proofs.due.first_end.Goals as goal

pub loop-row-init : goal.loop-row-init
loop-row-init c = begins c.args.courses.now c.args.rows.now c.len.ensures.rows.1 c.requires

pub loop-row-preserved : goal.loop-row-preserved
loop-row-preserved c =
    goes_on c.args.courses.now c.args.rows.now c.requires c.loop-row.last c.in-Some.row c.loop-row.next _ c.in-Some.ensures.least (rw c.due_end.ensures at c.sooner-next.ensures) c.loop-row.invariant

pub returns : goal.returns
returns c = ends c.args.courses.now c.args.rows.now c.requires c.loop-row.last c.loop-row.next c.in_default.ensures.least c.loop-row.invariant
