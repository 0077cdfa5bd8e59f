-- A clock in memory as its callers see it.
use Rattle.std.specs.Prelude.{ℕ, zero, suc, ◌-◌, ◌^◌, max, nat_le, nat_lt, List, [], ◌∷◌, ◌++◌, reverse, find, Option, Some, None, unwrap_or, if◌then◌else◌}
use Rattle.std.specs.Option.{option_map}
use Rattle.rm_edge.specs.declared.memory.clock.Timed.{Timed}

-- the moments given, how often the clock was asked, and before how many calls the next moment given is told at the earliest
pub record ClockState : Type 0 where
  pub moments : List Timed
  pub calls : ℕ
  pub next : ℕ

-- what the call after so many tells: of the moments that are there for it or for an earlier call the last, or 0
abbrev pub moment_after : List Timed → ℕ → ℕ
moment_after moments calls =
    unwrap_or (option_map (λ (timed : Timed). timed.moment) (find (λ (timed : Timed). nat_le timed.after calls) (reverse moments))) 0

-- what the first calls told, so many of them
unfoldable pub told_first : List Timed → ℕ → List ℕ
told_first moments zero = []
told_first moments (suc calls) = told_first moments calls ++ moment_after moments calls ∷ []

-- the moments told, as long as their number is below the end of 64 bits
abbrev pub told_by : ClockState → Option (List ℕ)
told_by clock = if nat_lt clock.calls (2 ^ 64 - 1) then Some (told_first clock.moments clock.calls) else None

-- for the call after how many a moment that is given now stands: for the first one that has none
abbrev pub free_call : ClockState → ℕ
free_call clock = max clock.next clock.calls
