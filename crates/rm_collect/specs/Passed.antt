-- A frame that passes, as rows that collect are given it.
use Rattle.std.specs.Prelude.{ℕ, List}
use Rattle.rm_proto.specs.declared.known.Facts.{Facts}
use Rattle.rm_model.specs.Counting.{Counting}
use Rattle.rm_model.specs.Journal.{Frame}
use Rattle.rm_model.specs.FrameFacts.{frame_facts}

-- its facts, its captured octets, its number in the capture and its moment
pub record Passed : Type 0 where
  pub facts : Facts
  pub octets : List ℕ
  pub number : ℕ
  pub moment : ℕ

abbrev pub passed : Facts → (octets : List ℕ) → (number moment : ℕ) → Passed
passed facts octets number moment = record { facts = facts; octets = octets; number = number; moment = moment }

-- those of a frame
abbrev pub frame_passed : Counting → Frame → Passed
frame_passed settings frame = passed (frame_facts settings frame) frame.octets frame.number frame.moment
