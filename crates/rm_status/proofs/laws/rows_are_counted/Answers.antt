use Rattle.std.proofs.Common.{ap, nat_lt}
use Rattle.rm_status.proofs.OfRows.{held_rows, valid_rows, valid_rows_after}
use Rattle.rm_status.proofs.laws.rows_are_counted.Goals as goal

pub returns : goal.returns
returns c = record {
  crowded = λ table journal bindings one sets alone. ap (nat_lt table.most) (held_rows table one journal sets bindings alone);
  valid = λ table journal one sets. valid_rows table one journal sets;
  valid_after = λ table journal bindings one sets alone. valid_rows_after table one journal sets bindings alone;
}
