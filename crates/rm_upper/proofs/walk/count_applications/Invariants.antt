use Rattle.std.proofs.Common.{◌≡◌, ◌≤◌, drop, ◌+◌}
use Rattle.rm_layers.specs.Applications.{used}
use Rattle.rm_upper.specs.Shown.{shown_all}
use Rattle.rm_upper.proofs.walk.count_applications.Given as goal

abbrev pub invariant-loop-place : goal.invariant-loop-place
invariant-loop-place g l = record {
  count : l.count + used (shown_all (drop l.place l.slots) (drop l.place l.applications)) ≡ used (shown_all l.slots l.applications);
  few : l.count ≤ l.place;
}
