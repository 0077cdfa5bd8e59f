-- The notifications of alarms: a sample that crosses a threshold has its event send a trap (RFC 1757, section 5;
-- RFC 1905, section 4.2.6).
use Rattle.std.specs.Prelude.{ℕ, ◌+◌, ◌%◌, ◌/◌, ◌^◌, pos, List, [], ◌∷◌, Bool, true, false, if◌then◌else◌, Option, Some, None, is_none, find}
use Rattle.rm_val.specs.Val.{Val, name, ticks}
use Rattle.rm_model.specs.Counting.{Counting}
use Rattle.rm_model.specs.Journal.{Act, passes, assigns, samples, Journal}
use Rattle.rm_acts.specs.Alarms.{alarm_entry, sampled}
use Rattle.rm_model.specs.ControlRows.{cell_name}
use Rattle.rm_acts.specs.declared.sampled.Sampled.{Sampled}
use Rattle.rm_acts.specs.declared.sampled.Sampled.TheVariants.{Quiet, Rising, Falling, Gone}
use Rattle.rm_columns.specs.Values.{octets_in}
use Rattle.rm_alarm.specs.AlarmTable.{alarm_shown}
use Rattle.rm_event.specs.declared.event_type.EventType.{EventType}
use Rattle.rm_event.specs.declared.event_type.EventType.TheVariants as type
use Rattle.rm_event.specs.declared.fired.Fired.{Fired}
use Rattle.rm_event.specs.declared.fired.Fired.TheVariants as became
use Rattle.rm_event.specs.EventTable.{event_set, type_of}
use Rattle.rm_acts.specs.declared.firing.Firing.{Firing}
use Rattle.rm_acts.specs.Fired.{act_fires, fired}
use Rattle.rm_pdu.specs.Message.{Binding, Message}
use Rattle.rm_pdu.specs.Draft.{binding_of}
use Rattle.rm_pdu.specs.declared.kind.Kind.TheVariants.{Trap}
use Rattle.rm_agent.specs.declared.trap.AlarmTrap.{AlarmTrap}

-- the names of sysUpTime.0 and of snmpTrapOID.0
abbrev pub up_time_name : List ℕ
up_time_name = 1 ∷ 3 ∷ 6 ∷ 1 ∷ 2 ∷ 1 ∷ 1 ∷ 3 ∷ 0 ∷ []

abbrev pub trap_name : List ℕ
trap_name = 1 ∷ 3 ∷ 6 ∷ 1 ∷ 6 ∷ 3 ∷ 1 ∷ 1 ∷ 4 ∷ 1 ∷ 0 ∷ []

-- risingAlarm, and fallingAlarm: the name of the kind, and the number of the column with the threshold that was crossed
abbrev pub rising_alarm : AlarmTrap
rising_alarm = record { kind = 1 ∷ 3 ∷ 6 ∷ 1 ∷ 2 ∷ 1 ∷ 16 ∷ 0 ∷ 1 ∷ []; threshold_column = 7 }

abbrev pub falling_alarm : AlarmTrap
falling_alarm = record { kind = 1 ∷ 3 ∷ 6 ∷ 1 ∷ 2 ∷ 1 ∷ 16 ∷ 0 ∷ 2 ∷ []; threshold_column = 8 }

-- the trap of a sample that crosses a threshold
abbrev pub trap_of : Sampled → Option AlarmTrap
trap_of Rising = Some rising_alarm
trap_of Falling = Some falling_alarm
trap_of Quiet = None
trap_of Gone = None

-- whether an event of that type sends a trap where it fires
abbrev pub is_sent : EventType → Bool
is_sent type.None = false
is_sent type.Log = false
is_sent type.SnmpTrap = true
is_sent type.LogAndTrap = true

-- whether what became of an event is that a trap is to be sent
abbrev pub is_trap : Fired → Bool
is_trap became.Absent = false
is_trap became.Silent = false
is_trap became.Logged = false
is_trap became.Trap = true
is_trap became.Both = true

-- eventCommunity of an event
abbrev pub community_text : Journal → ℕ → List ℕ
community_text journal event = octets_in (event_set journal (event ∷ []) 4)

-- The bindings of the trap of an alarm at a moment, in milliseconds: the time, the kind of trap, and these values of alarmIndex,
-- alarmVariable, alarmSampleType, alarmValue and the threshold of the alarm.
abbrev pub trap_bindings : (moment alarm : ℕ) → AlarmTrap → (index variable sample_type value threshold : Val) → List Binding
trap_bindings moment alarm trap index variable sample_type value threshold =
    let column : ℕ → List ℕ = λ number. cell_name alarm_entry number (alarm ∷ []) in
    binding_of up_time_name (ticks (moment / 10)) ∷ binding_of trap_name (name trap.kind)
    ∷ binding_of (column 1) index ∷ binding_of (column 3) variable ∷ binding_of (column 4) sample_type ∷ binding_of (column 5) value
    ∷ binding_of (column trap.threshold_column) threshold ∷ []

-- what it tells by a journal: the values that the columns show
abbrev pub told_bindings : Counting → Journal → (moment alarm : ℕ) → AlarmTrap → List Binding
told_bindings settings journal moment alarm trap =
    let shown : ℕ → Val = λ column. alarm_shown settings journal column (alarm ∷ []) in
    trap_bindings moment alarm trap (shown 1) (shown 3) (shown 4) (shown 5) (shown trap.threshold_column)

-- the notification with a number, to a community
abbrev pub numbered_trap : (number : ℕ) → (community : List ℕ) → List Binding → Message
numbered_trap number community bindings =
    record { community = community; kind = Trap; id = pos (number % 2 ^ 31); first = pos 0; second = pos 0; bindings = bindings }

-- the firing by no channel, if there is one: that of a sample
abbrev pub by_no_channel : List Firing → Option Firing
by_no_channel fires = find (λ firing. is_none firing.channel) fires

-- The notification of a sample, by its firing and the trap that it asks for: the event that fires sends it to its community, by the
-- journal before the sample. It tells of the alarm as it is after the sample.
abbrev pub sent_by : Counting → Act → Journal → (moment alarm number : ℕ) → Option Firing → Option AlarmTrap → Option Message
sent_by settings act earlier moment alarm number (Some firing) (Some trap) =
    if is_sent (type_of earlier firing.event)
    then Some (numbered_trap number (community_text earlier firing.event) (told_bindings settings (act ∷ earlier) moment alarm trap))
    else None
sent_by settings act earlier moment alarm number firing trap = None

-- the notification with that number of an act after a journal, if there is one: only samples have some
abbrev pub notification_numbered : Counting → ℕ → Act → Journal → Option Message
notification_numbered settings number (passes frame) earlier = None
notification_numbered settings number (assigns moment values) earlier = None
notification_numbered settings number (samples moment alarm reading) earlier =
    let act : Act = samples moment alarm reading in
    sent_by settings act earlier moment alarm number (by_no_channel (act_fires settings act earlier (fired settings earlier)))
    (trap_of (sampled settings earlier moment alarm reading))

-- how many there are
abbrev pub count_one : Option Message → ℕ
count_one None = 0
count_one (Some message) = 1

-- How many notifications the acts of a journal have. Whether an act has one doesn't depend on its number.
abbrev pub count_notifications : Counting → Journal → ℕ
count_notifications settings [] = 0
count_notifications settings (act ∷ earlier) = count_one (notification_numbered settings 0 act earlier) + count_notifications settings earlier

-- The notification of an act after a journal, if there is one. They are numbered from 1.
abbrev pub notification_of : Counting → Act → Journal → Option Message
notification_of settings act earlier = notification_numbered settings (count_notifications settings earlier + 1) act earlier
