-- Lemmas on the firings of an act.
use Rattle.std.proofs.Common.{◌≡◌, ℕ, List, [], ◌∷◌, ◌++◌, Bool, true, false, cond, Option, Some, None, refl, ap, arith}
use Rattle.std.proofs.lemmas.Bool.Decides.{nat_tests}
use Rattle.std.specs.Prelude.{◌==◌, length}
use Rattle.rm_model.specs.Journal.{Journal}
use Rattle.rm_model.specs.ControlRows.{is_valid}
use Rattle.rm_model.specs.declared.row.State.{State}
use Rattle.rm_model.specs.declared.row.State.TheVariants.{Absent, UnderCreation, Valid}
use Rattle.rm_acts.specs.Events.{event_table}
use Rattle.rm_acts.specs.Rows.{has_valid}
use Rattle.rm_acts.specs.declared.firing.Firing.{Firing}
use Rattle.rm_event.specs.Standing.{fired_of}
use Rattle.rm_event.specs.declared.event_type.EventType.{EventType}
use Rattle.rm_event.specs.declared.event_type.EventType.TheVariants as type
use Rattle.rm_event.specs.declared.fired.Fired.{Fired}
use Rattle.rm_event.specs.declared.fired.Fired.TheVariants as became
use Rattle.rm_filter.specs.Judging.{firing_asked}
use Rattle.rm_filter.specs.declared.accepted.Accepted.{Accepted}
use Rattle.rm_agent.specs.Firings.{firings_by, firings_asked}

-- a firing, by what becomes of its event
pub fires_so : (state : State) (kind : EventType) (firing : Firing) → firings_by firing (fired_of state kind) ≡ cond (is_valid state) (firing ∷ []) []
fires_so Valid type.None firing = refl
fires_so Valid type.Log firing = refl
fires_so Valid type.SnmpTrap firing = refl
fires_so Valid type.LogAndTrap firing = refl
fires_so UnderCreation kind firing = refl
fires_so Absent kind firing = refl

pub fires_one : (fired : Fired) (firing : Firing) → (fired ≡ became.Absent → ⊥) → firing ∷ [] ≡ firings_by firing fired
fires_one became.Absent firing isnt = absurd (isnt refl)
fires_one became.Silent firing isnt = refl
fires_one became.Logged firing isnt = refl
fires_one became.Trap firing isnt = refl
fires_one became.Both firing isnt = refl

pub none_added : {A : Type 0} (some : List A) → some ≡ some ++ []
none_added [] = refl
none_added (one ∷ more) = ap (λ rest. one ∷ rest) (none_added more)

pub none_there : (accepting : List Accepted) → (length accepting == 0) ≡ true → accepting ≡ []
none_there [] is = refl
none_there (first ∷ more) is = absurd (grind (arith, nat_tests, is))

module _ (journal : Journal) where
  abbrev there : Firing → Bool
  there firing = has_valid event_table journal firing.event

  with_first : (valid : Bool) (first : Firing) (more : List Firing) → cond valid (first ∷ more) more ≡ cond valid (first ∷ []) [] ++ more
  with_first true first more = refl
  with_first false first more = refl

  -- the firings that some channels ask for are that of the first and those of the others
  asked_by : (asked : Option Firing) (first : Accepted) (more : List Accepted) → firing_asked first ≡ asked → firings_asked journal (first ∷ more) ≡ firings_asked journal (first ∷ []) ++ firings_asked journal more
  asked_by None first more is = rw is refl
  asked_by (Some firing) first more is = rw is (with_first (there firing) firing (firings_asked journal more))

  pub asked_more : (first : Accepted) (more : List Accepted) → firings_asked journal (first ∷ more) ≡ firings_asked journal (first ∷ []) ++ firings_asked journal more
  asked_more first more = asked_by (firing_asked first) first more refl

  -- what a channel asks for
  pub asked_one : (accepted : Accepted) (event : ℕ) → accepted.event ≡ Some event
      → firings_asked journal (accepted ∷ []) ≡ cond (has_valid event_table journal event) (record { event = event; channel = Some accepted.channel } ∷ []) []
  asked_one accepted event is = rw is refl

  pub asked_none : (accepted : Accepted) → accepted.event ≡ None → firings_asked journal (accepted ∷ []) ≡ []
  asked_none accepted is = rw is refl
