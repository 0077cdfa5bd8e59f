-- What a buffer does where it is full (RFC 1757, bufferControlFullAction).
use Rattle.std.specs.Prelude.{ℕ, [], ◌∷◌, refl}
use Rattle.rm_columns.specs.Field.{FieldOf}
use Rattle.rm_columns.specs.Kinds.{variants}
use Rattle.rm_columns.specs.Numbering.{Numbering}
use Rattle.rm_capture.specs.declared.full_action.FullAction.{FullAction}
use Rattle.rm_capture.specs.declared.full_action.FullAction.TheVariants.{Lock, Wrap}

-- the number of an action
abbrev pub action_number : FullAction → ℕ
action_number Lock = 1
action_number Wrap = 2

-- the actions, lock by default
abbrev pub numbering : Numbering FullAction
numbering = record { number_of = action_number; first = Lock; others = Wrap ∷ [] }

-- the action as a column
abbrev pub full_actions : FieldOf FullAction
full_actions = variants numbering 2 (refl, (refl, tt))
