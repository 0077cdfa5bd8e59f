use Rattle.std.proofs.Common.{◌≡◌, drop, None, ◌<◌, ◌^◌}
use Rattle.std.specs.Prelude.{IfSome}
use Rattle.rm_upper.specs.Walk.{best_of}
use Rattle.rm_upper.proofs.walk.next_protocol.Given as goal

abbrev pub invariant-loop-place : goal.invariant-loop-place
invariant-loop-place g l = record {
  best : best_of l.mark l.from (drop l.place l.slots) (drop l.place l.applications) l.best ≡ best_of l.mark l.from l.slots l.applications None;
  reached : IfSome l.best (λ p. l.mark < 2 ^ 32);
}
