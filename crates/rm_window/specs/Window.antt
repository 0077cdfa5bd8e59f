-- The window through which a file is read.
use Rattle.std.specs.Prelude.{ℕ, ◌-◌, List, take, drop, vec_len}
use Rattle.rm_window.specs.declared.window.Window.{Window}

-- the octets that are next
abbrev pub octets_of : Window → List ℕ
octets_of window = take (window.until - window.from) (drop window.from window.buffer.items)

-- so many of the octets that were passed last
abbrev pub passed_of : Window → ℕ → List ℕ
passed_of window count = take count (drop (window.from - count) window.buffer.items)

-- how many octets that were passed are still there
abbrev pub kept_of : Window → ℕ
kept_of window = window.from

-- how many octets there is room for
abbrev pub room_of : Window → ℕ
room_of window = vec_len window.buffer
