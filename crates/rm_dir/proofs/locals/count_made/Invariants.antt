use Rattle.std.proofs.Common.{◌≡◌, ◌≤◌}
use Rattle.rm_status.specs.Commit.{count_made}
use Rattle.rm_status.specs.Rows.{state_in}
use Rattle.rm_dir.specs.ProtocolDir.{protocol_dir}
use Rattle.rm_dir.proofs.locals.count_made.Given as goal

abbrev pub invariant-loop-place : goal.invariant-loop-place
invariant-loop-place g l = record {
  few : l.made ≤ l.place;
  value : l.made ≡ count_made protocol_dir (state_in l.rows) (g.A.Assigns.bindings l.set) l.place;
}
