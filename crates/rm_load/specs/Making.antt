-- The frames of a load as they are made, one by one.
use Rattle.std.specs.Prelude.{◌≡◌, ◌+◌, Option, Some, None}
use Rattle.rm_model.specs.Journal.{Frame}
use Rattle.rm_load.specs.declared.frames.Frames.{Frames}
use Rattle.rm_load.specs.declared.made.MadeFrame.{MadeFrame}
use Rattle.rm_load.specs.Draws.{next, drawn_by}
use Rattle.rm_load.specs.Frames.{frame_by}

-- the frame that was made, as a journal holds it
abbrev pub made_of : MadeFrame → Frame
made_of made = record { interface = 1; moment = 1000 + made.number; number = made.number; octets = made.octets; original = made.original }

-- one more frame has come, by the next number
pub record HasGone (old new : Frames) (made : MadeFrame) : Type 0 where
  pub number : new.number ≡ next old.number
  pub passed : new.passed ≡ old.passed + 1
  pub count : new.count ≡ old.count
  pub frame : made_of made ≡ frame_by new.passed (drawn_by new.number)

-- what is given next: a frame, or none where all have come
abbrev pub GivesFrame : Frames → Option MadeFrame → Frames → Type 0
GivesFrame old None new = (old.passed ≡ old.count) × (new ≡ old)
GivesFrame old (Some made) new = HasGone old new made
