use Rattle.rm_agent.specs.Agent.{dues_left_of}
use Rattle.rm_probe.proofs.SampleLemmas.{Sampling}
use Rattle.rm_probe.proofs.probe.Probe.advance.Given as goal

abbrev pub invariant-loop-moment : goal.invariant-loop-moment
invariant-loop-moment g l = Sampling g.N.Notes.since l.initial.notes l.notes l.to l.initial.self l.self

abbrev pub decreases-loop-moment : goal.decreases-loop-moment
decreases-loop-moment g l = dues_left_of l.self.agent l.to
