-- What a row of bufferControlTable asks for, by its columns as they are kept.
use Rattle.std.specs.Prelude.{ℕ, ◌≤◌, pos, unwrap_or}
use Rattle.rm_val.specs.Val.{int}
use Rattle.rm_val.specs.Contents.{natural_in}
use Rattle.rm_capture.specs.declared.buffer_row.BufferRow.{BufferRow}

-- the channel whose packets it keeps, 0 until that was set, and how many octets of a packet are stored, 0 for all
abbrev pub channel_kept : BufferRow → ℕ
channel_kept row = natural_in (int (unwrap_or row.channel (pos 0)))

abbrev pub slice_kept : BufferRow → ℕ
slice_kept row = natural_in (int row.slice_size)

-- no more octets of a packet are stored than it may have
abbrev pub IsInRange : BufferRow → Type 0
IsInRange row = slice_kept row ≤ 262144
