use Rattle.std.proofs.Common.{◌≡◌, ◌≤◌, length, take}
use Rattle.rm_dist.specs.Resting.{sifted}
use Rattle.rm_dist.proofs.counts.sifted.Given as goal

abbrev pub invariant-loop-count : goal.invariant-loop-count
invariant-loop-count l = record { are : l.kept.items ≡ sifted l.protocols (take l.count-index l.counts); few : length l.kept.items ≤ l.count-index }
