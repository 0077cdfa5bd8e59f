-- What a linear generator draws for the frames of a load.
use Rattle.std.specs.Prelude.{ℕ, zero, suc, ◌+◌, ◌*◌, ◌/◌, ◌%◌}

-- the number after a number
abbrev pub next : ℕ → ℕ
next number = (1103515245 * number + 12345) % 2147483648

-- the number of a frame, which is counted from 1; that of the start is given
abbrev pub number_of : (start : ℕ) → ℕ → ℕ
number_of start zero = start
number_of start (suc i) = next (number_of start i)

-- what is drawn by a number
abbrev pub drawn_by : ℕ → ℕ
drawn_by number = number / 65536
