use Rattle.std.proofs.Common.{length}
use Rattle.rm_agent.proofs.firing.+fire_each.Given as goal

abbrev pub decreases-fire_each : goal.decreases-fire_each
decreases-fire_each l = length l.accepting.now
