-- A frame that passes, as groups are given it.
use Rattle.std.specs.Prelude.{◌≡◌, ℕ, List}
use Rattle.rm_model.specs.Counting.{Counting}
use Rattle.rm_model.specs.Journal.{Frame}
use Rattle.rm_model.specs.FrameFacts.{frame_facts}
use Rattle.rm_proto.specs.declared.known.Facts.{Facts}

-- these are the facts of a frame, its captured octets, its number in the capture of its interface and its moment
pub record IsOf (settings : Counting) (frame : Frame) (facts : Facts) (octets : List ℕ) (number moment : ℕ) : Type 0 where
  pub known : facts ≡ frame_facts settings frame
  pub captured : octets ≡ frame.octets
  pub counted : number ≡ frame.number
  pub at : moment ≡ frame.moment
