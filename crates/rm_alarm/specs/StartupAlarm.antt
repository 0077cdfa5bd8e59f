-- Which thresholds a first sample may cross (RFC 1757, alarmStartupAlarm).
use Rattle.std.specs.Prelude.{ℕ, ℤ, pos, [], ◌∷◌, refl}
use Rattle.rm_columns.specs.Field.{FieldOf}
use Rattle.rm_columns.specs.Kinds.{variants}
use Rattle.rm_columns.specs.Numbering.{Numbering}
use Rattle.rm_alarm.specs.declared.startup_alarm.StartupAlarm.{StartupAlarm}
use Rattle.rm_alarm.specs.declared.startup_alarm.StartupAlarm.TheVariants.{Rising, Falling, RisingOrFalling}

-- the number of a startup alarm
abbrev pub variant_number : StartupAlarm → ℕ
variant_number Rising = 1
variant_number Falling = 2
variant_number RisingOrFalling = 3

abbrev pub startup_number : StartupAlarm → ℤ
startup_number startup = pos (variant_number startup)

-- the startup alarms, either threshold by default
abbrev pub numbering : Numbering StartupAlarm
numbering = record { number_of = variant_number; first = RisingOrFalling; others = Rising ∷ Falling ∷ [] }

-- the startup alarm as a column
abbrev pub startup_alarms : FieldOf StartupAlarm
startup_alarms = variants numbering 3 (refl, (refl, (refl, tt)))
