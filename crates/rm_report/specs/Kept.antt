-- What callers see of the storage of a report.
use Rattle.std.specs.Prelude.{List}
use Rattle.rm_report.specs.declared.copied.Copied.{Copied}
use Rattle.rm_report.specs.declared.ranked.Ranked.{Ranked}

-- the copies that were taken when it began, and the hosts that are reported
pub record Kept : Type 0 where
  pub copies : List Copied
  pub rows : List Ranked
