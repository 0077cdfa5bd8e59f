-- What a row asks of a report that begins.
use Rattle.std.specs.Prelude.{◌≡◌, ℕ, min}
use Rattle.std.specs.Option.{option_map_or}
use Rattle.rm_model.specs.Journal.{Journal}
use Rattle.rm_columns.specs.Values.{natural_of}
use Rattle.rm_topn.specs.declared.control_columns.ControlColumns.{ControlColumns}
use Rattle.rm_topn.specs.declared.plan.Plan.{Plan}
use Rattle.rm_topn.specs.Control.{host_row, rate_base, seconds_set, size_granted}

-- what a row with these columns asks of a report
abbrev pub plan_of : ControlColumns → Plan
plan_of columns = record {
  host = option_map_or natural_of columns.host_index 0;
  base = columns.base;
  most = min (natural_of columns.requested) 100;
  seconds = natural_of columns.seconds;
}

-- it is what a row asks after a journal
pub record IsPlan (plan : Plan) (journal : Journal) (row : ℕ) : Type 0 where
  pub host : plan.host ≡ host_row journal row
  pub base : plan.base ≡ rate_base journal row
  pub most : plan.most ≡ size_granted journal row
  pub seconds : plan.seconds ≡ seconds_set journal row
