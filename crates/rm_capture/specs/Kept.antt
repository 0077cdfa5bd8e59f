-- The packets that a buffer keeps, by their numbers.
use Rattle.std.specs.Prelude.{ℕ, ◌+◌, ◌-◌, length, slice_get, nat_le, if◌then◌else◌, Option, None}
use Rattle.rm_ring.specs.Kept.{Stored}
use Rattle.rm_capture.specs.declared.captured.PacketInfo.{PacketInfo}
use Rattle.rm_capture.specs.declared.captured.Captured.{Captured}
use Rattle.rm_capture.specs.declared.full_action.FullAction.{FullAction}
use Rattle.rm_capture.specs.declared.full_action.FullAction.TheVariants.{Lock, Wrap}

-- The number of the oldest packet, by how many were accepted and how many of them are kept: the first ones in a buffer that locks, and
-- the last ones in a buffer that wraps.
abbrev pub oldest : FullAction → (accepted kept : ℕ) → ℕ
oldest Lock accepted kept = 1
oldest Wrap accepted kept = accepted - kept + 1

abbrev pub oldest_in : Captured → ℕ
oldest_in captured = oldest captured.action captured.accepted (length captured.ring.packets)

-- the packet with a number, if it is kept
abbrev pub packet_with : Captured → (number : ℕ) → Option (Stored PacketInfo)
packet_with captured number =
    if nat_le (oldest_in captured) number then slice_get captured.ring.packets (number - oldest_in captured) else None
