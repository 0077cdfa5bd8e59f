-- The frames that a row has seen.
use Rattle.std.specs.Prelude.{List, [], ◌∷◌, ℕ, if◌then◌else◌}
use Rattle.rm_model.specs.Journal.{Act, Frame, Journal, passes, assigns, samples}
use Rattle.rm_model.specs.ControlTable.{ControlTable}
use Rattle.rm_model.specs.ControlRows.{Beginning, stays_valid}

-- a frame that passed, and the journal before it
pub record Seen : Type 0 where
  pub frame : Frame
  pub before : Journal

-- what is seen where an act comes after a journal, beside what was seen before
abbrev pub with_act : Act → Journal → List Seen → List Seen
with_act (passes frame) earlier seen = record { frame = frame; before = earlier } ∷ seen
with_act (assigns moment values) earlier seen = seen
with_act (samples moment alarm reading) earlier seen = seen

-- The frames since a row last became valid, each with the journal before it, the newest first; none where it isn't valid.
abbrev pub seen_since : ControlTable → Beginning → Journal → List ℕ → List Seen
seen_since table beginning [] index = []
seen_since table beginning (act ∷ earlier) index =
    if stays_valid table beginning act earlier index then with_act act earlier (seen_since table beginning earlier index) else []
