-- Journals whose samples come in order.
use Rattle.std.specs.Prelude.{◌≡◌, ◌<◌, ◌≤◌, ℕ, nat_abs, [], ◌∷◌, true, is_some, Option, Some}
use Rattle.rm_val.specs.Val.{Val}
use Rattle.rm_model.specs.Journal.{Journal, last_moment}
use Rattle.rm_model.specs.ControlRows.{no_rows, is_valid, set_value}
use Rattle.rm_acts.specs.Alarms.{alarm_table, alarm_state, due_of, number_of}

-- no sample is due up to a moment
abbrev pub NoneIsDue : ℕ → Journal → Type 0
NoneIsDue to journal = (alarm moment : ℕ) → due_of journal alarm ≡ Some moment → to < moment

-- what the interval of an alarm was set to, if it was set
abbrev pub interval_set : Journal → ℕ → Option Val
interval_set journal alarm = set_value alarm_table no_rows journal (alarm ∷ []) 2

-- No sample is due before the newest act. An interval that was set is a second or more, and that of a valid alarm was set.
pub record IsOrderly (journal : Journal) : Type 0 where
  pub timely : (alarm moment : ℕ) → due_of journal alarm ≡ Some moment → last_moment journal ≤ moment
  pub interval : (alarm : ℕ) (value : Val) → interval_set journal alarm ≡ Some value → 1 ≤ nat_abs (number_of value)
  pub has_interval : (alarm : ℕ) → is_valid (alarm_state journal alarm) ≡ true → is_some (interval_set journal alarm) ≡ true
