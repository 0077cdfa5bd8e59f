-- The octets of a packet that are shown (RFC 1757, bufferControlDownloadOffset and bufferControlDownloadSliceSize).
use Rattle.std.specs.Prelude.{ℕ, List, length, take, drop}
use Rattle.rm_acts.specs.Buffers.{all_or}

-- those that are stored from an offset on, at most as many as a size, 0 for all
abbrev pub downloaded : (offset size : ℕ) → (stored : List ℕ) → List ℕ
downloaded offset size stored = let from = drop offset stored in take (all_or (length from) size) from
