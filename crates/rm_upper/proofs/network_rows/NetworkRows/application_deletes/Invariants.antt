use Rattle.std.proofs.Common.{◌≡◌, ◌-◌, ◌^◌, take, min}
use Rattle.rm_upper.specs.Count.{held_by_keys}
use Rattle.rm_upper.proofs.network_rows.NetworkRows.application_deletes.Given as goal

abbrev pub invariant-loop-place : goal.invariant-loop-place
invariant-loop-place g l = l.held ≡ min (held_by_keys g.K.PartialEq.eq l.self (take l.place l.self.table.rows)) (2 ^ 64 - 1)
