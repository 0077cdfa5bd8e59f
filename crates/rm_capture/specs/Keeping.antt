-- What becomes of a ring with one more packet, by what a buffer does where it is full.
use Rattle.std.specs.Prelude.{[], ◌∷◌, ◌++◌, Bool, ◌||◌, not, nat_le, nat_lt, if◌then◌else◌}
use Rattle.rm_ring.specs.Kept.{Kept, Stored, cost_of, longest_front, longest_tail}
use Rattle.rm_capture.specs.declared.captured.PacketInfo.{PacketInfo}
use Rattle.rm_capture.specs.declared.full_action.FullAction.{FullAction}
use Rattle.rm_capture.specs.declared.full_action.FullAction.TheVariants.{Lock, Wrap}

-- the packets: in a buffer that locks none is kept once one was lost
abbrev pub ring_after : FullAction → (lost : Bool) → Kept PacketInfo → Stored PacketInfo → Kept PacketInfo
ring_after Lock lost ring packet = if lost then ring else record ring { packets = longest_front ring.granted (ring.packets ++ packet ∷ []) }
ring_after Wrap lost ring packet = record ring { packets = longest_tail ring.granted (ring.packets ++ packet ∷ []) }

-- whether one is lost
abbrev pub lost_after : FullAction → (lost : Bool) → Kept PacketInfo → Stored PacketInfo → Bool
lost_after Lock lost ring packet = lost || not (nat_le (cost_of (ring.packets ++ packet ∷ [])) ring.granted)
lost_after Wrap lost ring packet = nat_lt ring.granted (cost_of (ring.packets ++ packet ∷ [])) || lost
