-- What the agent's groups answer and refuse, by what the probe was set to, and when they stand for a journal.
use Rattle.std.specs.Prelude.{◌≡◌, ◌⊎◌, ℕ, List, ◌∷◌, Bool, false, Option}
use Rattle.rm_val.specs.Val.{Val}
use Rattle.rm_val.specs.declared.error.ErrorStatus.{ErrorStatus}
use Rattle.rm_model.specs.Counting.{Counting}
use Rattle.rm_model.specs.Journal.{Act, Journal}
use Rattle.rm_model.specs.Cells.{Cells}
use Rattle.rm_model.specs.Judgement.{Bindings}
use Rattle.rm_acts.specs.declared.firing.Firing.{Firing}
use Rattle.rm_group.specs.Both.{StandAsOne}
use Rattle.rm_group.specs.declared.due.Due.{Due}
use Rattle.rm_alarm.specs.Left.{IsSampleDue}
use Rattle.rm_alarm.specs.Standing.{AreWhole}
use Rattle.rm_alarm.specs.Watched.{ReadsFrom}
use Rattle.rm_acts.specs.Fired.{is_set}
use Rattle.rm_collectors.specs.Group.{FallsDue as ReportsFallDue}
use Rattle.rm_sources.specs.Group.{IsUnderWay as SourcesUnderWay, sampled_cells}
use Rattle.rm_event.specs.Standing.{IsUnderWay as EventsUnderWay}
use Rattle.rm_settings.specs.declared.settings.Settings.{Settings}
use Rattle.rm_agent.specs.Members.{Groups, Watched, alarms_of, collectors_of, events_of, watched_of, all_groups}
use Rattle.rm_agent.specs.Known.{counting_by}

-- the variables of all groups that have a value after a journal, at a moment in milliseconds
abbrev pub cells : Settings → Journal → ℕ → Cells
cells settings = all_groups.cells (counting_by settings)

-- whether a name begins with the identifier of one of their objects
abbrev pub objects : List ℕ → Bool
objects = all_groups.objects

-- what is wrong with a binding alone, by the group of its object
abbrev pub alone : List ℕ → Val → Option ErrorStatus
alone = all_groups.alone

-- what is wrong with the binding at a place together with the others of its row, after a journal and at a moment in milliseconds
abbrev pub together : Settings → Journal → ℕ → Bindings → ℕ → Option ErrorStatus
together settings = all_groups.together (counting_by settings)

-- After a journal there may be no memory for the row that the binding with that number, from 1, makes valid: it is one of
-- eventTable, of historyControl, of hostControl, of hostTopNControl, of matrixControl, of bufferControlTable, of hlHostControl or of
-- hlMatrixControl, and not the only valid one of its table.
abbrev pub Reserves : Journal → Bindings → ℕ → Type 0
Reserves = all_groups.reserves

-- the groups keep what a journal gives
abbrev pub GroupsStand : Groups → Counting → Journal → Type 0
GroupsStand = all_groups.stands

-- The groups whose variables alarms may sample are in an act after a journal, of which they have taken these firings, and so are the alarms beside
-- them, to which no firing makes a difference.
abbrev pub AreWatchedUnderWay : Watched → Counting → Act → Journal → List Firing → Type 0
AreWatchedUnderWay keeps settings act earlier some =
    StandAsOne (SourcesUnderWay keeps.first settings act earlier some) (AreWhole keeps.second settings (act ∷ earlier)) (ReadsFrom sampled_cells settings)

-- All groups are in an act after a journal, of which they have taken these firings.
abbrev pub AreUnderWay : Groups → Counting → Act → Journal → List Firing → Type 0
AreUnderWay groups settings act earlier some =
    ((is_set act ≡ false) × EventsUnderWay (events_of groups) settings act earlier some)
    × AreWatchedUnderWay (watched_of groups) settings act earlier some

-- they have the storage of one row of each table whose rows take storage
abbrev pub AreStocked : Groups → Type 0
AreStocked = all_groups.stocked

-- the least moment at which they may be given a Set, and how many frames they were given
abbrev pub clock_of : Groups → ℕ
clock_of = all_groups.clock

abbrev pub frames_of : Groups → ℕ
frames_of = all_groups.frames

-- they may be asked at a moment in milliseconds: the reports of hosts have ended that are due by then
abbrev pub AreAskable : Groups → ℕ → Type 0
AreAskable = all_groups.askable

-- what falls due of them is the end of a report of hosts that runs, or the next sample of an alarm
abbrev pub FallDue : Groups → Due → Type 0
FallDue groups due = ReportsFallDue (collectors_of groups) due ⊎ IsSampleDue (alarms_of groups) due

-- a bound of how many of these are left up to a moment, in milliseconds
abbrev pub left_of : Groups → ℕ → ℕ
left_of = all_groups.left
