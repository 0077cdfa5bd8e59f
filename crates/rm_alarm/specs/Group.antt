-- The group alarm, as a caller sees it.
use Rattle.std.specs.Prelude.{◌≡◌, ℕ, ◌<◌, pos, List, [], ◌∷◌, length, Bool, true, false, ◌&&◌, is_none, nat_eq, Contains, if◌then◌else◌, Option, Some, None, unwrap_or}
use Rattle.std.specs.Option.{option_or}
use Rattle.std.specs.Ordering.{int_eq}
use Rattle.rm_val.specs.Val.{Val, int}
use Rattle.rm_val.specs.Spellable.{HasSpelling}
use Rattle.rm_val.specs.declared.error.ErrorStatus.{ErrorStatus}
use Rattle.rm_val.specs.declared.error.ErrorStatus.TheVariants.{InconsistentValue}
use Rattle.rm_model.specs.Counting.{Counting}
use Rattle.rm_model.specs.Journal.{Journal, value_given}
use Rattle.rm_model.specs.Cells.{cells_of}
use Rattle.rm_model.specs.Finite.{AreFinite}
use Rattle.rm_model.proofs.Finite.{table_finite}
use Rattle.rm_model.specs.Indexes.{indexes_of}
use Rattle.rm_model.proofs.Rows.{row_listed}
use Rattle.rm_model.specs.ControlTable.{default_of}
use Rattle.rm_model.specs.ControlRows.{Beginning, cell_name, no_rows}
use Rattle.rm_model.specs.Judgement.{Bindings, name_at, value_at, place_of, alone_fault, second_pass}
use Rattle.rm_acts.specs.Alarms.{alarm_entry, alarm_table, name_of}
use Rattle.rm_model.specs.Readings.{Readings}
use Rattle.rm_model.specs.declared.place.Place.{Place}
use Rattle.rm_model.specs.declared.place.Place.TheVariants.{Cell}
use Rattle.rm_model.specs.declared.row.State.{State}
use Rattle.rm_model.specs.declared.row.State.TheVariants.{UnderCreation, Valid, Absent}
use Rattle.rm_status.specs.declared.row.Row.{Row}
use Rattle.rm_status.specs.Fine as rows
use Rattle.rm_status.specs.Rows.{row_in}
use Rattle.rm_group.specs.Listed.{ListedTable}
use Rattle.rm_alarm.specs.declared.alarms.Alarms.{Alarms}
use Rattle.rm_alarm.specs.declared.row.AlarmRow.{AlarmRow}
use Rattle.rm_alarm.specs.RowForm.{alarm_rows}
use Rattle.rm_alarm.specs.Due.{due_at}
use Rattle.rm_alarm.specs.AlarmTable.{alarm_columns, alarms_table}

-- the one table of the group
abbrev pub alarm_tables : List ListedTable
alarm_tables = record { entry = alarm_entry; columns = alarm_columns } ∷ []

-- what is wrong with a binding alone
abbrev pub alarm_alone : List ℕ → Val → Option ErrorStatus
alarm_alone numbers value = alone_fault alarm_table (place_of alarm_table numbers) value

-- whether a value of a status makes a row valid
abbrev pub makes_valid : Val → Bool
makes_valid (int n) = int_eq n (pos 1)
makes_valid other = false

abbrev pub is_under_creation : State → Bool
is_under_creation UnderCreation = true
is_under_creation Valid = false
is_under_creation Absent = false

-- the variable of a row with what a Set gives to it
abbrev pub variable_then : Beginning → Bindings → ℕ → List ℕ
variable_then before bindings row =
    name_of (unwrap_or (option_or (value_given bindings (cell_name alarm_entry 3 (row ∷ []))) (before.set (row ∷ []) 3)) (default_of alarm_table 3))

-- What is wrong with a binding that makes a row valid which was under creation: the row's variable is none that an alarm may
-- sample, since there is no reading of it.
abbrev pub unread_fault : Readings → Beginning → Bindings → Val → Place → Option ErrorStatus
unread_fault readings before bindings value (Cell column row) =
    if nat_eq column 12 && (makes_valid value && (is_under_creation (before.state (row ∷ [])) && is_none (readings (variable_then before bindings row))))
    then Some InconsistentValue
    else None
unread_fault readings before bindings value elsewhere = None

abbrev pub variable_fault : Readings → Beginning → Bindings → ℕ → Option ErrorStatus
variable_fault readings before bindings place =
    unread_fault readings before bindings (value_at bindings place) (place_of alarm_table (name_at bindings place))

-- what is wrong with the binding at a place together with the others of its row
abbrev pub alarm_together : Readings → Beginning → Bindings → ℕ → Option ErrorStatus
alarm_together readings before bindings place =
    option_or (second_pass alarm_table before bindings place) (variable_fault readings before bindings place)

-- each value that a Set gives has a spelling
abbrev pub AreSpelledValues : Bindings → Type 0
AreSpelledValues bindings = (place : ℕ) → place < length bindings → HasSpelling (value_at bindings place)

-- both passes find nothing wrong with a Set, by the rows that there are, and its values have spellings
pub record AreFine (alarms : Alarms) (bindings : Bindings) : Type 0 where
  pub fine : rows.AreFine alarm_rows alarms.rows bindings
  pub values : AreSpelledValues bindings

-- when the next sample of an alarm is due, if it is valid
abbrev pub due_in : Alarms → ℕ → Option ℕ
due_in alarms alarm = due_at alarms.rows alarm

-- no row remembers what its variable reads
abbrev pub HasForgotten : Alarms → Type 0
HasForgotten alarms = (alarm : ℕ) (row : Row AlarmRow) → row_in alarms.rows alarm ≡ Some row → row.columns.base ≡ None

-- a table that begins without a row lists none
pub nothing_begins : (index : List ℕ) → false ≡ true → Contains [] index
nothing_begins index is = absurd (cc)

-- the cells are finitely many
pub alarms_finite : (settings : Counting) (journal : Journal) → AreFinite (cells_of (alarms_table settings journal))
alarms_finite settings journal = table_finite (alarms_table settings journal) (indexes_of alarm_table [] journal) (row_listed alarm_table no_rows [] nothing_begins journal)
