use Rattle.rm_model.specs.ControlRows.{no_rows}
use Rattle.rm_acts.specs.Alarms.{alarm_table}
use Rattle.rm_status.proofs.RowsAfterLemmas.{rows_passes}
use Rattle.rm_alarm.specs.Rows.{set_to}
use Rattle.rm_alarm.proofs.Samples.{kept_passes, based_passes}
use Rattle.rm_alarm.proofs.laws.frames_pass.Goals as goal

pub returns-clause-stands : goal.returns-clause-stands
returns-clause-stands c alarms settings journal frame stands = record {
  rows = rows_passes alarm_table no_rows set_to alarms.rows journal frame stands.rows;
  kept = kept_passes settings journal frame alarms.rows stands.rows stands.kept;
}

pub returns-clause-based : goal.returns-clause-based
returns-clause-based c alarms settings journal frame stands based = based_passes settings journal frame alarms.rows stands.rows stands.kept based
