-- Lemmas on the notifications of alarms.
use Rattle.std.proofs.Common.{◌≡◌, ℕ, ◌≤◌, ◌+◌, ◌*◌, ◌%◌, ◌/◌, ◌^◌, List, [], ◌∷◌, length, Bool, true, false, cond, ◌&&◌, Option, Some, None, refl, sym, ap, subst, ◌∙◌, arith}
use Rattle.std.specs.Prelude.{ℤ, pos, ◌↔◌, Result, Ok, Err, IsOk, OnOk, unwrap_or, is_some}
use Rattle.std.specs.List.{sum_by}
use Rattle.std.specs.Option.{option_map}
use Rattle.rm_val.specs.Val.{Val, int, name, ticks, octets}
use Rattle.rm_model.specs.Counting.{Counting}
use Rattle.rm_model.specs.Journal.{Act, Journal, samples}
use Rattle.rm_acts.specs.Alarms.{alarm_entry, alarm_state, number_of, name_of, sampled}
use Rattle.rm_model.specs.ControlRows.{cell_name, no_rows, is_absent, is_valid}
use Rattle.rm_model.specs.declared.row.State.{State}
use Rattle.rm_model.specs.declared.row.State.TheVariants.{Absent, UnderCreation, Valid}
use Rattle.rm_acts.specs.declared.sampled.Sampled.{Sampled}
use Rattle.rm_acts.specs.declared.sampled.Sampled.TheVariants.{Quiet, Rising, Falling, Gone}
use Rattle.rm_columns.specs.Values.{octets_in}
use Rattle.rm_status.proofs.RowsAfterLemmas.{state_sampled}
use Rattle.rm_alarm.specs.declared.row.AlarmRow.{AlarmRow}
use Rattle.rm_alarm.specs.Rows.{variable_kept}
use Rattle.rm_alarm.specs.ShownRow.{AreShown, cell_of_alarm}
use Rattle.rm_alarm.specs.SampleType.{type_number}
use Rattle.rm_alarm.specs.Watched.{number_read}
use Rattle.rm_event.specs.EventTable.{event_table, event_state, event_set, type_of}
use Rattle.rm_acts.specs.declared.firing.Firing.{Firing}
use Rattle.rm_acts.specs.Events.{event_asked}
use Rattle.rm_acts.specs.Fired.{act_fires, fired, by_sample}
use Rattle.rm_event.specs.Standing.{community_of}
use Rattle.rm_pdu.specs.Message.{Binding, Message, binding_octets, message_octets}
use Rattle.rm_pdu.specs.Draft.{Drafted, drafted, binding_of, and_binding}
use Rattle.rm_pdu.specs.declared.kind.Kind.TheVariants.{Trap}
use Rattle.rm_agent.specs.declared.sampling.Taken.{Taken}
use Rattle.rm_agent.specs.declared.told.Told.{Told}
use Rattle.rm_agent.specs.declared.trap.AlarmTrap.{AlarmTrap}
use Rattle.rm_agent.specs.Members.{Groups}
use Rattle.rm_agent.specs.Notifications.{up_time_name, trap_name, rising_alarm, falling_alarm, trap_of, is_sent, is_trap, by_no_channel, community_text, trap_bindings, told_bindings, numbered_trap, sent_by, notification_numbered}
use Rattle.rm_agent.specs.Told.{told_of, stated_bindings, stated_trap, IsTaken}
use Rattle.rm_acts.proofs.DueLaws.{valid_if_due}
use Rattle.rm_agent.proofs.SampleLemmas.{valid_after, is_sending}

-- A binding that has room comes behind the others of a draft.

put_one : {T E : Type 0} (m : Message) (numbers : List ℕ) (v : Val) (old new : Drafted) (result : Result T E)
    → ((n : Message) → old ≡ drafted n → IsOk result ↔ (length (message_octets (and_binding n numbers v)) ≤ 1472))
    → ((n : Message) → old ≡ drafted n → OnOk result (new ≡ drafted (and_binding n numbers v)))
    → old ≡ drafted m → length (message_octets (and_binding m numbers v)) ≤ 1472 → new ≡ drafted (and_binding m numbers v)
put_one m numbers v old new (Ok x) room ok is short = ok m is
put_one m numbers v old new (Err e) room ok is short = let no = (room m is).1 short in absurd (cc)

pub put : {T E : Type 0} (m : Message) (numbers other : List ℕ) (v w : Val) (old new : Drafted) (result : Result T E) → numbers ≡ other → v ≡ w
    → ((n : Message) → old ≡ drafted n → IsOk result ↔ (length (message_octets (and_binding n numbers v)) ≤ 1472))
    → ((n : Message) → old ≡ drafted n → OnOk result (new ≡ drafted (and_binding n numbers v)))
    → old ≡ drafted m → length (message_octets (and_binding m other w)) ≤ 1472 → new ≡ drafted (and_binding m other w)
put m numbers other v w old new result name_is value_is room ok is short =
    let same : and_binding m numbers v ≡ and_binding m other w = λ d. and_binding m (name_is d) (value_is d) in
    put_one m numbers v old new result room ok is (subst (λ (x : Message). length (message_octets x) ≤ 1472) (sym same) short) ∙ ap drafted same

-- A notification has room for all that it tells.

size_of : Binding → ℕ
size_of binding = length (binding_octets binding)

pub stated_short : ((m : Message) → length m.community ≤ 127 → length (message_octets m) ≤ 191 + sum_by (λ binding. length (binding_octets binding)) m.bindings)
    → ((numbers : List ℕ) (z : ℤ) → length (binding_octets (binding_of numbers (int z))) ≤ 5 * length numbers + 23)
    → ((numbers : List ℕ) (n : ℕ) → length (binding_octets (binding_of numbers (ticks n))) ≤ 5 * length numbers + 27)
    → ((numbers others : List ℕ) → length (binding_octets (binding_of numbers (name others))) ≤ 5 * length numbers + 5 * length others + 18)
    → (community : List ℕ) (id moment alarm : ℕ) (trap : AlarmTrap) (told : Told) → length community ≤ 127 → length trap.kind ≤ 9 → length told.variable ≤ 128
    → length (message_octets (stated_trap community id moment alarm trap told)) ≤ 1472
stated_short adds numbers ticked names community id moment alarm trap told short kind variable =
    let cell : ℕ → List ℕ = λ column. cell_name alarm_entry column (alarm ∷ []) in
    omega (
      arith,
      adds (stated_trap community id moment alarm trap told) short,
      ticked up_time_name (moment / 10),
      names trap_name trap.kind,
      numbers (cell 1) told.index,
      names (cell 3) told.variable,
      numbers (cell 4) told.sample_type,
      numbers (cell 5) told.value,
      numbers (cell trap.threshold_column) told.threshold,
      kind,
      variable,
    )

-- What the columns of a valid alarm show.

number_again : (z : ℤ) (v : Val) → v ≡ int z → v ≡ int (number_of v)
number_again z v is = is ∙ ap (λ w. int (number_of w)) (sym is)

name_again : (numbers : List ℕ) (v : Val) → v ≡ name numbers → v ≡ name (name_of v)
name_again numbers v is = is ∙ ap (λ w. name (name_of w)) (sym is)

module _ (settings : Counting) (journal : Journal) (alarm : ℕ) (row : AlarmRow) (shown : AreShown settings journal alarm row) where
  abbrev IsNumber : ℕ → Type 0
  IsNumber column = cell_of_alarm settings journal alarm column ≡ int (number_of (cell_of_alarm settings journal alarm column))

  its_name : cell_of_alarm settings journal alarm 3 ≡ name (name_of (cell_of_alarm settings journal alarm 3))
  its_name = name_again (variable_kept row) (cell_of_alarm settings journal alarm 3) shown.variable

  its_type : IsNumber 4
  its_type = number_again (type_number row.sample_type) (cell_of_alarm settings journal alarm 4) shown.sample_type

  rising_number : IsNumber 7
  rising_number = number_again row.thresholds.rising (cell_of_alarm settings journal alarm 7) shown.rising

  falling_number : IsNumber 8
  falling_number = number_again row.thresholds.falling (cell_of_alarm settings journal alarm 8) shown.falling

  threshold_number : (comes : Sampled) (trap : AlarmTrap) → trap_of comes ≡ Some trap → IsNumber trap.threshold_column
  threshold_number Rising trap is = let same : rising_alarm ≡ trap = cc in subst (λ (t : AlarmTrap). IsNumber t.threshold_column) same rising_number
  threshold_number Falling trap is = let same : falling_alarm ≡ trap = cc in subst (λ (t : AlarmTrap). IsNumber t.threshold_column) same falling_number
  threshold_number Quiet trap is = absurd (cc)
  threshold_number Gone trap is = absurd (cc)

  -- what a trap tells is what is stated of the alarm
  pub tells : (moment : ℕ) (comes : Sampled) (trap : AlarmTrap) → trap_of comes ≡ Some trap
      → stated_bindings moment alarm trap (told_of settings journal alarm trap.threshold_column) ≡ told_bindings settings journal moment alarm trap
  tells moment comes trap is =
      let crossed = threshold_number comes trap is in
      λ d. trap_bindings moment alarm trap (int (pos alarm)) (sym its_name d) (sym its_type d) (cell_of_alarm settings journal alarm 5) (sym crossed d)

-- The notification that is made of what was taken.

both_true : (a b : Bool) → (a && b) ≡ true → (a ≡ true) × (b ≡ true)
both_true true b is = (refl, is)
both_true false b is = absurd (cc)

never_absent : (state : State) → is_valid state ≡ true → is_absent state ≡ false
never_absent Valid is = refl
never_absent UnderCreation is = refl
never_absent Absent is = absurd (cc)

module _ (settings : Counting) (journal : Journal) (moment alarm : ℕ) (groups : Groups) (taken : Taken) (is : IsTaken settings journal moment alarm groups taken) where
  abbrev event : ℕ
  event = taken.event

  abbrev reading : Option ℤ
  reading = number_read settings journal moment alarm

  abbrev act : Act
  act = samples moment alarm reading

  abbrev after : Journal
  after = act ∷ journal

  abbrev firing : Firing
  firing = record { event = event; channel = None }

  -- a trap is to be sent where the event that the sample asks for is valid and sends traps
  sending : is_trap taken.fired ≡ (is_valid (event_state journal (event ∷ [])) && is_sent (type_of journal event))
  sending = ap is_trap is.fired ∙ is_sending (event_state journal (event ∷ [])) (type_of journal event)

  its_firing : by_no_channel (act_fires settings act journal (fired settings journal)) ≡ cond (is_valid (event_state journal (event ∷ []))) (Some firing) None
  its_firing =
      ap (λ e. by_no_channel (by_sample journal e)) (ap (event_asked journal alarm) (sym is.comes) ∙ sym is.event)
      ∙ one (is_valid (event_state journal (event ∷ [])))
    where
      one : (t : Bool) → by_no_channel (cond t (firing ∷ []) []) ≡ cond t (Some firing) None
      one true = refl
      one false = refl

  -- the notification, if a trap is asked for
  abbrev message_for : (number : ℕ) → AlarmTrap → Message
  message_for number trap = numbered_trap number (community_text journal event) (told_bindings settings after moment alarm trap)

  the_notification_of : (number : ℕ) → notification_numbered settings number act journal ≡ sent_by settings act journal moment alarm number (cond (is_valid (event_state journal (event ∷ []))) (Some firing) None) (trap_of taken.comes)
  the_notification_of number =
      ap (λ firing. sent_by settings act journal moment alarm number firing (trap_of (sampled settings journal moment alarm reading))) its_firing
      ∙ ap (sent_by settings act journal moment alarm number (cond (is_valid (event_state journal (event ∷ []))) (Some firing) None)) (ap trap_of (sym is.comes))

  pub not_sent : (number : ℕ) → is_trap taken.fired ≡ false → ◌≡◌ {A = Option Drafted} None (option_map drafted (notification_numbered settings number act journal))
  not_sent number quiet =
      ap (option_map drafted)
      (sym (the_notification_of number ∙ by_test (is_valid (event_state journal (event ∷ []))) (trap_of taken.comes) (sym sending ∙ quiet)))
    where
      by_test : (t : Bool) (trap : Option AlarmTrap) → (t && is_sent (type_of journal event)) ≡ false → sent_by settings act journal moment alarm number (cond t (Some firing) None) trap ≡ None
      by_test false trap _ = refl
      by_test true None _ = refl
      by_test true (Some trap) none = ap (λ (b : Bool). cond b (Some (message_for number trap)) None) none

  pub not_asked : (number : ℕ) → trap_of taken.comes ≡ None → ◌≡◌ {A = Option Drafted} None (option_map drafted (notification_numbered settings number act journal))
  not_asked number none =
      ap (option_map drafted)
      (sym (the_notification_of number ∙ ap (sent_by settings act journal moment alarm number (cond (is_valid (event_state journal (event ∷ []))) (Some firing) None)) none ∙ nothing (cond (is_valid (event_state journal (event ∷ []))) (Some firing) None)))
    where
      nothing : (o : Option Firing) → sent_by settings act journal moment alarm number o None ≡ None
      nothing None = refl
      nothing (Some one) = refl

  module _ (trapped : is_trap taken.fired ≡ true) where
    sends_one : (is_valid (event_state journal (event ∷ [])) && is_sent (type_of journal event)) ≡ true
    sends_one = sym sending ∙ trapped

    there : is_absent (event_state after (event ∷ [])) ≡ false
    there =
        ap is_absent (state_sampled event_table no_rows refl journal moment alarm reading (event ∷ []))
        ∙ never_absent (event_state journal (event ∷ [])) (both_true (is_valid (event_state journal (event ∷ []))) (is_sent (type_of journal event)) sends_one).0

    its_community : community_of after event ≡ Some (event_set journal (event ∷ []) 4)
    its_community = ap (λ (b : Bool). cond b None (Some (event_set after (event ∷ []) 4))) there

    pub some_community : ◌≡◌ {A = Option Val} None (community_of after event) → ⊥
    some_community none = let never = none ∙ its_community in cc

    pub community_is : (text : List ℕ) → ◌≡◌ {A = Option Val} (Some (octets text)) (community_of after event) → text ≡ community_text journal event
    community_is text e = ap (λ value. octets_in (unwrap_or value (octets []))) (e ∙ its_community)

    module _ (number : ℕ) (trap : AlarmTrap) (crossed : trap_of taken.comes ≡ Some trap) where
      the_notification : notification_numbered settings number act journal ≡ Some (message_for number trap)
      the_notification =
          the_notification_of number
          ∙ ap (λ (t : Bool). sent_by settings act journal moment alarm number (cond t (Some firing) None) (trap_of taken.comes)) (both_true (is_valid (event_state journal (event ∷ []))) (is_sent (type_of journal event)) sends_one).0
          ∙ ap (sent_by settings act journal moment alarm number (Some firing)) crossed
          ∙ ap (λ (b : Bool). cond b (Some (message_for number trap)) None) (both_true (is_valid (event_state journal (event ∷ []))) (is_sent (type_of journal event)) sends_one).1

      pub valid : is_valid (alarm_state after alarm) ≡ true
      valid = valid_after settings journal moment alarm reading (valid_if_due journal alarm moment is.due) (ap (λ (comes : Sampled). is_some (trap_of comes)) (sym is.comes) ∙ ap is_some crossed)

      pub made : (row : AlarmRow) → AreShown settings after alarm row → (community : List ℕ) (id : ℕ) (told : Told) (draft : Drafted) → community ≡ community_text journal event → number % 2 ^ 31 ≡ id
          → told ≡ told_of settings after alarm trap.threshold_column → draft ≡ drafted (stated_trap community id moment alarm trap told)
          → ◌≡◌ {A = Option Drafted} (Some draft) (option_map drafted (notification_numbered settings number act journal))
      made row shown community id told draft text numbered tells_this drafted_so =
          let bindings = ap (stated_bindings moment alarm trap) tells_this ∙ tells settings after alarm row shown moment taken.comes trap crossed in
          let same : stated_trap community id moment alarm trap told ≡ message_for number trap =
          λ d. record { community = text d; kind = Trap; id = pos (sym numbered d); first = pos 0; second = pos 0; bindings = bindings d } in
          ap Some (drafted_so ∙ ap drafted same) ∙ sym (ap (option_map drafted) the_notification)
