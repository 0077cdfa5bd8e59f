-- How the columns of an alarm are set.
use Rattle.std.specs.Prelude.{[], refl}
use Rattle.rm_model.specs.ControlTable.{owner_column}
use Rattle.rm_acts.specs.Alarms.{alarm_table, interval_column, variable_column, sample_type_column, startup_column, rising_column, falling_column, rising_event_column, falling_event_column}
use Rattle.rm_columns.specs.Kinds.{texts, numbers, needed_numbers, needed_names}
use Rattle.rm_columns.specs.RowForm.{RowForm}
use Rattle.rm_columns.proofs.ColumnLaws.{no_columns, one_more}
use Rattle.rm_columns.proofs.RowForms.{row_form}
use Rattle.rm_alarm.specs.declared.row.AlarmRow.{AlarmRow}
use Rattle.rm_alarm.specs.AlarmTable.{alarm_columns}
use Rattle.rm_alarm.specs.SampleType.{sample_types}
use Rattle.rm_alarm.specs.StartupAlarm.{startup_alarms}
use Rattle.rm_alarm.specs.Rows.{set_to, with_column, blank_row}

-- the form of the rows
abbrev pub alarm_rows : RowForm AlarmRow
alarm_rows =
    row_form alarm_table alarm_columns set_to blank_row with_column (λ n. refl)
    (λ row n value.
    one_more needed_numbers interval_column refl _ n value row.interval _ _
    (one_more needed_names variable_column refl _ n value row.variable _ _
    (one_more sample_types sample_type_column refl _ n value row.sample_type _ _
    (one_more startup_alarms startup_column refl _ n value row.thresholds.startup _ _
    (one_more numbers rising_column refl _ n value row.thresholds.rising _ _
    (one_more numbers falling_column refl _ n value row.thresholds.falling _ _
    (one_more numbers rising_event_column refl _ n value row.rising_event _ _
    (one_more numbers falling_event_column refl _ n value row.falling_event _ _
    (one_more (texts 127) (owner_column 11) refl [] n value row.owner _ _ (no_columns n value))))))))))
    refl refl refl refl refl
