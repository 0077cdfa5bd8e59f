use Rattle.rm_acts.proofs.CrossingLaws.{crosses_where}
use Rattle.rm_alarm.proofs.laws.crossing_conditions.Goals as goal

pub returns : goal.returns
returns c threshold value earlier = crosses_where threshold value earlier
