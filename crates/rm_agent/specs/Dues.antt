-- What falls due after a journal: the ends of reports of hosts, and the samples of alarms.
use Rattle.std.specs.Prelude.{◌≡◌, ◌⊎◌, ◌≤◌, ℕ, Option, Some}
use Rattle.std.specs.Option.{option_map}
use Rattle.rm_acts.specs.Alarms.{due_of}
use Rattle.rm_group.specs.Due.{IsFirst}
use Rattle.rm_group.specs.declared.due.Due.{Due}
use Rattle.rm_group.specs.declared.due.TheConstants.{SAMPLES}
use Rattle.rm_model.specs.Journal.{Journal, last_moment}
use Rattle.rm_topn.specs.Due.{IsEnd, end_after}

-- the next sample of an alarm, by when that of each is due
abbrev pub IsSample : (ℕ → Option ℕ) → Due → Type 0
IsSample sample due = (due.kind ≡ SAMPLES) × (sample due.number ≡ Some due.moment)

-- Where reports have ended up to a moment, what falls due is the end of the last report of a row that ends later, and the next sample of an
-- alarm.
abbrev pub FallsDue : (ended : ℕ) → Journal → Due → Type 0
FallsDue ended journal due = IsEnd (end_after ended journal) due ⊎ IsSample (due_of journal) due

-- What comes next after a journal, where an agent was given a last moment: exactly the reports have ended that end up to some moment, which is
-- no earlier than the last act, and no later than that one.
pub record IsNext (journal : Journal) (last : ℕ) (next : Option Due) : Type 0 where
  pub ended : ℕ
  pub acts : last_moment journal ≤ ended
  pub given : ended ≤ last
  pub first : IsFirst (FallsDue ended journal) next

-- the moment of what comes next, if there is something
abbrev pub moment_in : Option Due → Option ℕ
moment_in next = option_map (λ due. due.moment) next
