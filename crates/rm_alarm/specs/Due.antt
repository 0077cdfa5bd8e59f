-- Which sample is due next, by the rows.
use Rattle.std.specs.Prelude.{◌≡◌, ◌⊎◌, ℕ, ◌<◌, ◌≤◌, List, Bool, false, nat_eq, Option, Some, None}
use Rattle.std.specs.Option.{option_and_then, option_map}
use Rattle.std.proofs.Common.{inl, inr, ap, arith}
use Rattle.std.proofs.Props.{props}
use Rattle.rm_acts.specs.Alarms.{IsNextDue}
use Rattle.rm_status.specs.declared.row.Row.{Row}
use Rattle.rm_status.specs.Rows.{row_in}
use Rattle.rm_alarm.specs.declared.row.AlarmRow.{AlarmRow}

-- when the next sample of an alarm is due, if it is valid
abbrev pub due_at : List (Row AlarmRow) → ℕ → Option ℕ
due_at rows alarm =
    option_and_then (λ (row : Row AlarmRow). option_map (λ course. course.due) row.columns.course) (row_in rows alarm)

-- whether the sample that is taken next is one of an alarm
abbrev pub is_of : Option (ℕ × ℕ) → ℕ → Bool
is_of None alarm = false
is_of (Some next) alarm = nat_eq next.1 alarm

-- all samples are due after a moment, or at it and of an alarm above one
abbrev pub AreBehind : (ℕ → Option ℕ) → ℕ → ℕ → Type 0
AreBehind due moment last = (other later : ℕ) → due other ≡ Some later → (moment < later) ⊎ ((moment ≡ later) × (last < other))

either_prop : {One Other : Type 0} → IsProp One → IsProp Other → (One → Other → ⊥) → IsProp (One ⊎ Other)
either_prop one other apart (inl a) (inl b) = ap inl (one a b)
either_prop one other apart (inl a) (inr b) = absurd (apart a b)
either_prop one other apart (inr a) (inl b) = absurd (apart b a)
either_prop one other apart (inr a) (inr b) = ap inr (other a b)

before_prop : (moment later alarm other : ℕ) → IsProp ((moment < later) ⊎ ((moment ≡ later) × (alarm ≤ other)))
before_prop moment later alarm other = either_prop (hlevel props) (hlevel props) (λ before same. let is = same.0 in omega arith)

pub next_prop : (due : ℕ → Option ℕ) (next : Option (ℕ × ℕ)) → IsProp (IsNextDue due next)
next_prop due None = hlevel props
next_prop due (Some next) = hlevel (props, before_prop)
