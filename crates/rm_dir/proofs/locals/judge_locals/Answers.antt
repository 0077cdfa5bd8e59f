use Rattle.std.proofs.Common.{below_more}
use Rattle.rm_dir.proofs.Judged.{none_found}
use Rattle.rm_dir.proofs.locals.judge_locals.Goals as goal

pub loop-place-preserved : goal.loop-place-preserved
loop-place-preserved g c =
    below_more _ _ c.loop-place.invariant
    (none_found c.args.rows.now (g.A.Assigns.bindings c.args.set.now) c.args.given c.are_used_up-used_up.result c.are_used_up-used_up.ensures c.loop-place.place c.local_fault.result c.local_fault.ensures c.in_default.is)
