-- When reports begin and end. A report begins right after the Set by which its row becomes valid, unless TimeRemaining is 0 then, and after
-- each Set that gives TimeRemaining to a row that is valid before it and after it.
use Rattle.std.specs.Prelude.{ℕ, ◌+◌, ◌*◌, [], ◌∷◌, Bool, false, not, nat_eq, nat_lt, is_some, if◌then◌else◌, Option, Some, None}
use Rattle.rm_model.specs.Journal.{Act, Journal, passes, assigns, samples, last_moment, moment_of, value_given}
use Rattle.rm_model.specs.ControlRows.{cell_name, is_valid}
use Rattle.rm_topn.specs.Control.{control_entry, control_state, seconds_set}

module _ (row : ℕ) where
  -- whether an act after a journal begins a report, where the row is valid after it
  abbrev pub is_start : Act → Journal → Bool
  is_start (assigns moment values) earlier =
      if is_valid (control_state earlier row) then is_some (value_given values (cell_name control_entry 4 (row ∷ [])))
      else not (nat_eq (seconds_set (assigns moment values ∷ earlier) row) 0)
  is_start (passes frame) earlier = false
  is_start (samples moment alarm reading) earlier = false

  -- The journal right after the Set by which the last report began since the row became valid; nothing where it isn't valid, and where
  -- none began.
  abbrev pub last_start : Journal → Option Journal
  last_start [] = None
  last_start (act ∷ earlier) =
      if is_valid (control_state (act ∷ earlier) row)
      then (if is_start act earlier then Some (act ∷ earlier) else last_start earlier)
      else None

-- the moment at which a report ends that began so, in milliseconds
abbrev pub end_of : (row : ℕ) → (from : Journal) → ℕ
end_of row from = last_moment from + 1000 * seconds_set from row

-- the journal as it was at a moment, before what happens at it: the acts with an earlier moment
abbrev pub before_moment : ℕ → Journal → Journal
before_moment moment [] = []
before_moment moment (act ∷ earlier) = if nat_lt (moment_of act) moment then act ∷ earlier else before_moment moment earlier
