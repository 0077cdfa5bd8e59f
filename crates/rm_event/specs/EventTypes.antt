-- The type of an event as a column.
use Rattle.std.specs.Prelude.{refl}
use Rattle.rm_columns.specs.Field.{FieldOf}
use Rattle.rm_columns.specs.Kinds.{variants}
use Rattle.rm_event.specs.declared.event_type.EventType.{EventType}
use Rattle.rm_event.specs.EventType.{numbering}

abbrev pub types : FieldOf EventType
types = variants numbering 4 (refl, (refl, (refl, (refl, tt))))
