-- The values of protocolDirHostConfig and protocolDirMatrixConfig (RFC 2021).
use Rattle.std.specs.Prelude.{ℕ, [], ◌∷◌, refl}
use Rattle.rm_columns.specs.Numbering.{Numbering}
use Rattle.rm_columns.specs.Field.{FieldOf}
use Rattle.rm_columns.specs.Kinds.{variants}
use Rattle.rm_dir.specs.declared.support.Support.{Support}
use Rattle.rm_dir.specs.declared.support.Support.TheVariants.{NotSupported, SupportedOff, SupportedOn}

abbrev pub support_number : Support → ℕ
support_number NotSupported = 1
support_number SupportedOff = 2
support_number SupportedOn = 3

abbrev pub supports : Numbering Support
supports = record { number_of = support_number; first = SupportedOn; others = NotSupported ∷ SupportedOff ∷ [] }

abbrev pub supports_field : FieldOf Support
supports_field = variants supports 3 (refl, (refl, (refl, tt)))
