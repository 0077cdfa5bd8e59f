-- The columns of a row, as the cells of an alarm show them.
use Rattle.std.specs.Prelude.{◌≡◌, ℕ, [], ◌∷◌}
use Rattle.rm_val.specs.Val.{Val, int, name}
use Rattle.rm_model.specs.Counting.{Counting}
use Rattle.rm_model.specs.Journal.{Journal}
use Rattle.rm_acts.specs.Alarms.{saturated}
use Rattle.rm_alarm.specs.declared.row.AlarmRow.{AlarmRow}
use Rattle.rm_alarm.specs.AlarmTable.{alarm_shown}
use Rattle.rm_alarm.specs.Rows.{variable_kept}
use Rattle.rm_alarm.specs.SampleType.{type_number}
use Rattle.rm_alarm.specs.Shown.{last_value}

-- what a column of an alarm shows after a journal
abbrev pub cell_of_alarm : Counting → Journal → (alarm column : ℕ) → Val
cell_of_alarm settings journal alarm column = alarm_shown settings journal column (alarm ∷ [])

-- Columns of a row are what the cells of an alarm show after a journal: alarmVariable, alarmSampleType, alarmValue, alarmRisingThreshold,
-- alarmFallingThreshold, alarmRisingEventIndex and alarmFallingEventIndex.
pub record AreShown (settings : Counting) (journal : Journal) (alarm : ℕ) (row : AlarmRow) : Type 0 where
  pub variable : cell_of_alarm settings journal alarm 3 ≡ name (variable_kept row)
  pub sample_type : cell_of_alarm settings journal alarm 4 ≡ int (type_number row.sample_type)
  pub value : cell_of_alarm settings journal alarm 5 ≡ int (saturated (last_value row.course))
  pub rising : cell_of_alarm settings journal alarm 7 ≡ int row.thresholds.rising
  pub falling : cell_of_alarm settings journal alarm 8 ≡ int row.thresholds.falling
  pub rising_event : cell_of_alarm settings journal alarm 9 ≡ int row.rising_event
  pub falling_event : cell_of_alarm settings journal alarm 10 ≡ int row.falling_event
