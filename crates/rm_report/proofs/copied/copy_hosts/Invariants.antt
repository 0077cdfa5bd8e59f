use Rattle.std.proofs.Common.{◌≡◌, ◌≤◌, map, take, vec_len, vec_capacity}
use Rattle.rm_rows.specs.Table.{keys_of}
use Rattle.rm_report.specs.Copies.{copy_in}
use Rattle.rm_report.proofs.copied.copy_hosts.Given as goal

abbrev pub invariant-loop-place : goal.invariant-loop-place
invariant-loop-place l = record {
  copies : l.copies.items ≡ map (copy_in l.base l.hosts.rows) (take l.place (keys_of l.hosts.rows));
  len : vec_len l.copies ≤ l.place;
  room : vec_capacity l.copies ≡ vec_capacity l.fn.copies;
}
