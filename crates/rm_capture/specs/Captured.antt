-- When the packets that are kept are those of the frames that a buffer accepted.
use Rattle.std.specs.Prelude.{◌≡◌, ℕ, ◌+◌, ◌≤◌, List, length, map, reverse, take, Bool, true, false, nat_lt}
use Rattle.rm_model.specs.Counting.{Counting}
use Rattle.rm_model.specs.Journal.{Frame}
use Rattle.rm_model.specs.FrameFacts.{frame_facts}
use Rattle.rm_acts.specs.Buffers.{Packet, all_or, numbered, stored_size, cost_of, kept_of}
use Rattle.rm_ring.specs.Kept.{Stored}
use Rattle.rm_capture.specs.declared.captured.PacketInfo.{PacketInfo}
use Rattle.rm_capture.specs.declared.captured.Captured.{Captured}
use Rattle.rm_capture.specs.declared.full_action.FullAction.{FullAction}
use Rattle.rm_capture.specs.declared.full_action.FullAction.TheVariants.{Lock, Wrap}

-- whether a buffer drops the oldest packets where it is full
abbrev pub wraps : FullAction → Bool
wraps Lock = false
wraps Wrap = true

-- a packet as it is kept, of which so many octets are stored, 0 for all
abbrev pub stored_of : Counting → (size : ℕ) → Packet → Stored PacketInfo
stored_of settings size packet = record {
  info = record {
    number = packet.number;
    id = packet.frame.number;
    length = (frame_facts settings packet.frame).length;
    moment = packet.frame.moment;
    status = (frame_facts settings packet.frame).status;
  };
  octets = take (stored_size size packet.frame) packet.frame.octets;
}

-- what it costs
abbrev pub cost_at : (size : ℕ) → Packet → ℕ
cost_at size packet = cost_of size packet.frame

-- the packets that are kept of some frames that were accepted, the newest first
abbrev pub kept_in : (is_wrap : Bool) → (size granted : ℕ) → List Frame → List Packet
kept_in is_wrap size granted frames = kept_of is_wrap (cost_at size) granted (numbered frames)

-- The packets that are kept are those of these frames, the newest first, of which each has so many octets stored, 0 for all.
pub record HasKept (captured : Captured) (settings : Counting) (is_wrap : Bool) (size granted : ℕ) (frames : List Frame) : Type 0 where
  pub action : wraps captured.action ≡ is_wrap
  pub sliced : captured.ring.slice ≡ all_or 262144 size
  pub most : captured.ring.granted ≡ granted
  pub one : all_or 262144 size + 32 ≤ granted
  pub packets : captured.ring.packets ≡ map (stored_of settings size) (reverse (kept_in is_wrap size granted frames))
  pub count : captured.accepted ≡ length frames
  pub some_lost : captured.lost ≡ nat_lt (length (kept_in is_wrap size granted frames)) (length frames)
