-- Counting for examples.
use Rattle.std.proofs.Common.{false}
use Rattle.rm_model.specs.Readings.{nothing_read}
use Rattle.rm_model.specs.Counting.{Counting}

-- tables of 1024 rows, one interface, short frames padded, and nothing that alarms may sample
abbrev pub plain : Counting
plain = record {
  hosts = 1024;
  pairs = 1024;
  upper = 1024;
  interfaces = 1;
  keep_short = false;
  readings = λ journal now. nothing_read;
}
