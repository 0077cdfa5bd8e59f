use Rattle.std.proofs.Common.{◌≡◌, take}
use Rattle.rm_upper.specs.Kept.{is_among, all_with, all_made}
use Rattle.rm_upper.proofs.applications.take_all.Given as goal

abbrev pub invariant-loop-place : goal.invariant-loop-place
invariant-loop-place g l = record {
  applications : l.applications ≡ all_with g.N.Counts.tally (is_among (take l.place l.path)) l.stamp l.tick l.gain l.slots l.fn.applications;
  made : l.made ≡ all_made (is_among (take l.place l.path)) l.slots l.fn.applications;
}
