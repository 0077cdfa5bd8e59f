use Rattle.std.proofs.Common.{◌≡◌, ◌≤◌, filter, map, take, vec_len, vec_capacity}
use Rattle.rm_rows.specs.Table.{keys_of}
use Rattle.rm_report.specs.Copies.{AreRising}
use Rattle.rm_report.specs.Ranking.{gains_something, rated}
use Rattle.rm_report.proofs.ranked.rate_hosts.Given as goal

abbrev pub invariant-loop-place : goal.invariant-loop-place
invariant-loop-place l = record {
  rates : AreRising l.copies → l.ranked.items ≡ filter gains_something (map (rated l.base l.copies l.hosts.rows) (take l.place (keys_of l.hosts.rows)));
  len : vec_len l.ranked ≤ l.place;
  room : vec_capacity l.ranked ≡ vec_capacity l.fn.ranked;
}
