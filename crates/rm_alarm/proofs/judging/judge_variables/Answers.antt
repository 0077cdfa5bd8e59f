use Rattle.std.proofs.Common.{sym, ◌∙◌, below_more}
use Rattle.rm_alarm.proofs.judging.judge_variables.Goals as goal

pub loop-place-preserved : goal.loop-place-preserved
loop-place-preserved g c =
    (below_more _ _ c.loop-place.invariant.0 (sym c.variable_fault.ensures.fault ∙ c.in_default.is), below_more _ _ c.loop-place.invariant.1 c.variable_fault.ensures.spelled)
