-- Journals of which no sum of frames or octets is too large to be kept.
use Rattle.std.specs.Prelude.{◌≤◌, length}
use Rattle.std.specs.List.{AllByRecursion}
use Rattle.rm_model.specs.Counting.{Counting}
use Rattle.rm_model.specs.Journal.{Journal, frames_in}
use Rattle.rm_model.specs.FrameFacts.{frame_facts}
use Rattle.rm_group.specs.declared.bounds.TheConstants.{MOST_FRAMES, MOST_OCTETS}

-- there are no more frames, and no frame is longer, than the probe takes
pub record IsMeasured (settings : Counting) (journal : Journal) : Type 0 where
  pub few : length (frames_in journal) ≤ MOST_FRAMES
  pub short : AllByRecursion (λ frame. (frame_facts settings frame).length ≤ MOST_OCTETS) (frames_in journal)
