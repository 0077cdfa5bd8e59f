-- Which packets a channel accepts (RFC 1757, channelAcceptType).
use Rattle.std.specs.Prelude.{ℕ, [], ◌∷◌, refl}
use Rattle.rm_columns.specs.Field.{FieldOf}
use Rattle.rm_columns.specs.Kinds.{variants}
use Rattle.rm_columns.specs.Numbering.{Numbering}
use Rattle.rm_filter.specs.declared.accept_type.AcceptType.{AcceptType}
use Rattle.rm_filter.specs.declared.accept_type.AcceptType.TheVariants.{Matched, Failed}

-- the number of a type
abbrev pub type_number : AcceptType → ℕ
type_number Matched = 1
type_number Failed = 2

-- the types, matched by default
abbrev pub numbering : Numbering AcceptType
numbering = record { number_of = type_number; first = Matched; others = Failed ∷ [] }

-- the type as a column
abbrev pub accept_types : FieldOf AcceptType
accept_types = variants numbering 2 (refl, (refl, tt))
