-- Whether a channel is on (RFC 1757, channelDataControl).
use Rattle.std.specs.Prelude.{ℕ, [], ◌∷◌, refl}
use Rattle.rm_columns.specs.Field.{FieldOf}
use Rattle.rm_columns.specs.Kinds.{variants}
use Rattle.rm_columns.specs.Numbering.{Numbering}
use Rattle.rm_filter.specs.declared.data_control.DataControl.{DataControl}
use Rattle.rm_filter.specs.declared.data_control.DataControl.TheVariants.{On, Off}

-- the number of a state
abbrev pub control_number : DataControl → ℕ
control_number On = 1
control_number Off = 2

-- the states, on for a number that is none
abbrev pub numbering : Numbering DataControl
numbering = record { number_of = control_number; first = On; others = Off ∷ [] }

-- the state as a column
abbrev pub data_controls : FieldOf DataControl
data_controls = variants numbering 2 (refl, (refl, tt))
