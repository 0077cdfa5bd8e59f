-- What the value of a sample is (RFC 1757, alarmSampleType).
use Rattle.std.specs.Prelude.{ℕ, ℤ, pos, [], ◌∷◌, Bool, true, false, refl}
use Rattle.rm_columns.specs.Field.{FieldOf}
use Rattle.rm_columns.specs.Kinds.{variants}
use Rattle.rm_columns.specs.Numbering.{Numbering}
use Rattle.rm_alarm.specs.declared.sample_type.SampleType.{SampleType}
use Rattle.rm_alarm.specs.declared.sample_type.SampleType.TheVariants.{Absolute, Delta}

-- the number of a type
abbrev pub variant_number : SampleType → ℕ
variant_number Absolute = 1
variant_number Delta = 2

abbrev pub type_number : SampleType → ℤ
type_number type = pos (variant_number type)

-- the types, absolute by default
abbrev pub numbering : Numbering SampleType
numbering = record { number_of = variant_number; first = Absolute; others = Delta ∷ [] }

-- whether the value of a sample of that type is the difference of two readings
abbrev pub is_difference : SampleType → Bool
is_difference Absolute = false
is_difference Delta = true

-- the sample type as a column
abbrev pub sample_types : FieldOf SampleType
sample_types = variants numbering 2 (refl, (refl, tt))
