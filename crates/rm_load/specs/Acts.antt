-- What happens to the probe in a load: the two Sets, and then the frames.
use Rattle.std.specs.Prelude.{ℕ, zero, suc, [], ◌∷◌}
use Rattle.rm_model.specs.Accepted.{assignments_of}
use Rattle.rm_model.specs.Journal.{Journal, assigns, passes}
use Rattle.rm_load.specs.Frames.{frame_at}
use Rattle.rm_load.specs.Sets.{first_set, second_set}

-- the Sets at 100 and 200 milliseconds, the newest first
abbrev pub rows_made : Journal
rows_made = assigns 200 (assignments_of second_set) ∷ assigns 100 (assignments_of first_set) ∷ []

-- so many frames after them, the newest first
abbrev pub acts_of : (start count : ℕ) → Journal
acts_of start zero = rows_made
acts_of start (suc i) = passes (frame_at start (suc i)) ∷ acts_of start i
