-- How often a key was referred to.
use Rattle.std.specs.Prelude.{◌+◌, ◌%◌, ◌^◌}
use Rattle.million_references.specs.declared.times.Times.{Times}

abbrev pub never : Times
never = record { count = 0 }

abbrev pub once : Times
once = record { count = 1 }

-- counts are kept modulo 2 ^ 64
abbrev pub and_again : Times → Times → Times
and_again times more = record { count = (times.count + more.count) % 2 ^ 64 }
