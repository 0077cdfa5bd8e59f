use Rattle.std.proofs.Common.{◌-◌, ◌≡◌, ℕ, ◌+◌, ◌<◌, ◌≤◌}
use Rattle.rm_ether.specs.declared.counter.Counter.{Counter}
use Rattle.rm_history.specs.Run.{kept_counter}
use Rattle.rm_history.proofs.run.Run.close.Given as goal

abbrev pub invariant-loop-self : goal.invariant-loop-self
invariant-loop-self l = record {
  buckets : (bucket : ℕ) (each : Counter) → 1 ≤ bucket → l.count < bucket + l.fn.self.ring.capacity → kept_counter l.self bucket each ≡ kept_counter l.fn.self bucket each;
  within : l.self.closed ≤ l.count;
  plan : l.self.plan ≡ l.fn.self.plan;
  source : l.self.source ≡ l.fn.self.source;
  packets : l.self.current.packets ≤ l.fn.self.current.packets;
}

abbrev pub decreases-loop-self : goal.decreases-loop-self
decreases-loop-self l = l.count - l.self.closed
