-- The groups of objects that the agent answers for: the system group, the events, those whose variables alarms may sample, and the alarms that
-- sample them. What holds of a group is a record; two groups are one, and their record is made of both.
use Rattle.std.specs.Prelude.{◌||◌, ◌⊎◌, ℕ, ◌+◌, List, Bool, max, Option, None}
use Rattle.std.specs.Option.{option_or}
use Rattle.rm_val.specs.Val.{Val}
use Rattle.rm_val.specs.declared.error.ErrorStatus.{ErrorStatus}
use Rattle.rm_model.specs.Counting.{Counting}
use Rattle.rm_model.specs.Journal.{Journal}
use Rattle.rm_acts.specs.Alarms.{alarm_table}
use Rattle.rm_model.specs.Cells.{Cells, cells_of, is_of_column}
use Rattle.rm_model.specs.ControlRows.{no_rows}
use Rattle.rm_model.specs.Judgement.{Bindings, second_pass, rows_after}
use Rattle.rm_model.specs.Reserves.{Reserves as ReservesRow}
use Rattle.rm_group.specs.Alone.{read_only}
use Rattle.rm_group.specs.Listed.{is_listed}
use Rattle.rm_group.specs.System.{system_entry, system_columns, system_tables, system_table}
use Rattle.rm_acts.specs.Recurring.{Sampleable}
use Rattle.rm_group.specs.Both.{StandAsOne}
use Rattle.rm_group.specs.declared.both.Both.{Both}
use Rattle.rm_group.specs.declared.system.System.{System}
use Rattle.rm_collectors.specs.declared.collectors.Collectors.{Collectors}
use Rattle.rm_sources.specs.Group.{collectors_of as collectors_in, Stands as SourcesStand, IsAskable as AreSourcesAskable, IsStocked as AreSourcesStocked, frames_given as sources_frames, last_given as sources_last, left_of as sources_left, source_cells, sampled_cells, source_objects, source_alone, source_together, SourceReserves}
use Rattle.rm_sources.specs.declared.sources.Sources.{Sources}
use Rattle.rm_alarm.specs.AlarmTable.{alarms_table}
use Rattle.rm_alarm.specs.Group.{alarm_tables, alarm_alone, alarm_together}
use Rattle.rm_alarm.specs.Left.{samples_left}
use Rattle.rm_alarm.specs.Standing.{AreWhole}
use Rattle.rm_alarm.specs.Watched.{ReadsFrom}
use Rattle.rm_alarm.specs.declared.alarms.Alarms.{Alarms}
use Rattle.rm_event.specs.EventTable.{event_table}
use Rattle.rm_event.specs.Group.{event_cells, event_tables, event_alone, IsStocked as IsEventStocked}
use Rattle.rm_event.specs.Standing.{Stands as EventsStand}
use Rattle.rm_event.specs.declared.events.Events.{Events}

-- The groups as they stand in one another: a pair is a group, and the alarms stand beside the groups whose variables they sample.
abbrev pub Watched : Type 0
Watched = Both Sources Alarms

abbrev pub Groups : Type 0
Groups = Both System (Both Events Watched)

-- each group by its name, and the alarms with the groups whose variables they sample
abbrev pub events_of : Groups → Events
events_of groups = groups.second.first

abbrev pub watched_of : Groups → Watched
watched_of groups = groups.second.second

abbrev pub sources_of : Groups → Sources
sources_of groups = (watched_of groups).first

abbrev pub collectors_of : Groups → Collectors
collectors_of groups = collectors_in (sources_of groups)

abbrev pub alarms_of : Groups → Alarms
alarms_of groups = (watched_of groups).second

-- A group of objects: what it keeps, and what it answers and refuses after a journal, by what the probe was set to.
pub record OfObjects (Keeps : Type 0) : Type 1 where
  -- what it keeps is what the journal gives
  pub stands : Keeps → Counting → Journal → Type 0
  -- what the probe was set to is as it needs it beside another group
  pub tied : Counting → Type 0
  -- the least moment at which it may be given a Set, in milliseconds
  pub clock : Keeps → ℕ
  -- it may be asked at a moment in milliseconds
  pub askable : Keeps → ℕ → Type 0
  -- how many frames it was given
  pub frames : Keeps → ℕ
  -- it has the storage of one row of each of its tables whose rows take storage
  pub stocked : Keeps → Type 0
  -- its variables that have a value, at a moment in milliseconds
  pub cells : Counting → Journal → ℕ → Cells
  -- a bound of how many of those that fall due are left to take up to a moment, in milliseconds
  pub left : Keeps → ℕ → ℕ
  -- whether a name begins with the identifier of one of its objects
  pub objects : List ℕ → Bool
  -- what is wrong with a binding alone
  pub alone : List ℕ → Val → Option ErrorStatus
  -- what is wrong with the binding at a place together with the others of its row, at a moment in milliseconds
  pub together : Counting → Journal → ℕ → Bindings → ℕ → Option ErrorStatus
  -- there may be no memory for the row that the binding with that number, from 1, makes valid
  pub reserves : Journal → Bindings → ℕ → Type 0

-- Two groups as one, of which the second stands beside the first. Where both have a variable of a name, or find something wrong with a binding, the first one's counts.
abbrev pub both : {One Other : Type 0} → OfObjects One → OfObjects Other → OfObjects (Both One Other)
both one other = record {
  stands = λ keeps settings journal. StandAsOne (one.stands keeps.first settings journal) (other.stands keeps.second settings journal) (other.tied settings);
  tied = λ settings. Unit {0};
  clock = λ keeps. max (one.clock keeps.first) (other.clock keeps.second);
  askable = λ keeps moment. one.askable keeps.first moment × other.askable keeps.second moment;
  frames = λ keeps. max (one.frames keeps.first) (other.frames keeps.second);
  stocked = λ keeps. one.stocked keeps.first × other.stocked keeps.second;
  left = λ keeps latest. one.left keeps.first latest + other.left keeps.second latest;
  cells = λ settings journal now name. option_or (one.cells settings journal now name) (other.cells settings journal now name);
  objects = λ name. one.objects name || other.objects name;
  alone = λ name value. option_or (one.alone name value) (other.alone name value);
  together = λ settings journal now bindings place. option_or (one.together settings journal now bindings place) (other.together settings journal now bindings place);
  reserves = λ journal bindings index. one.reserves journal bindings index ⊎ other.reserves journal bindings index;
}

abbrev pub system : OfObjects System
system = record {
  stands = λ keeps settings journal. Unit {0};
  tied = λ settings. Unit {0};
  clock = λ keeps. 0;
  askable = λ keeps moment. Unit {0};
  frames = λ keeps. 0;
  stocked = λ keeps. Unit {0};
  left = λ keeps latest. 0;
  cells = λ settings journal now. cells_of (system_table now);
  objects = is_listed system_tables;
  alone = read_only (is_of_column system_entry system_columns);
  together = λ settings journal now bindings place. None;
  reserves = λ journal bindings index. ⊥;
}

abbrev pub events : OfObjects Events
events = record {
  stands = EventsStand;
  tied = λ settings. Unit {0};
  clock = λ keeps. 0;
  askable = λ keeps moment. Unit {0};
  frames = λ keeps. 0;
  stocked = IsEventStocked;
  left = λ keeps latest. 0;
  cells = λ settings journal now. event_cells settings journal;
  objects = is_listed event_tables;
  alone = event_alone;
  together = λ settings journal now. second_pass event_table (rows_after event_table no_rows journal);
  reserves = λ journal. ReservesRow event_table (rows_after event_table no_rows journal);
}

-- Those with variables that alarms may sample: etherStats, the history, the hosts with their reports, the matrix, the directory of protocols with
-- their distribution, and the filters, channels and buffers.
abbrev pub sources : OfObjects Sources
sources = record {
  stands = SourcesStand;
  tied = λ settings. Unit {0};
  clock = sources_last;
  askable = AreSourcesAskable;
  frames = sources_frames;
  stocked = AreSourcesStocked;
  left = sources_left;
  cells = source_cells;
  objects = source_objects;
  alone = source_alone;
  together = λ settings journal now. source_together settings journal;
  reserves = SourceReserves;
}

-- Alarms that sample variables among these cells. An alarm that becomes valid is judged by what its variable reads then.
abbrev pub alarms : Sampleable → OfObjects Alarms
alarms sampleable = record {
  stands = AreWhole;
  tied = ReadsFrom sampleable;
  clock = λ keeps. 0;
  askable = λ keeps moment. Unit {0};
  frames = λ keeps. 0;
  stocked = λ keeps. Unit {0};
  left = samples_left;
  cells = λ settings journal now. cells_of (alarms_table settings journal);
  objects = is_listed alarm_tables;
  alone = alarm_alone;
  together = λ settings journal now. alarm_together (settings.readings journal now) (rows_after alarm_table no_rows journal);
  reserves = λ journal bindings index. ⊥;
}

-- the sources, and the alarms beside them
abbrev pub watched : OfObjects Watched
watched = both sources (alarms sampled_cells)

-- all groups as one
abbrev pub all_groups : OfObjects Groups
all_groups = both system (both events watched)
