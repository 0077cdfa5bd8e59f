-- A worked notification. Event 1 sends traps to the community `public`. Alarm 1 samples the differences of etherStatsPkts.1 against
-- the thresholds 10 and 5. It reads 0 when it becomes valid, and 11 at 5000. The octets were worked out by hand.
use Rattle.std.proofs.Common.{◌≡◌, ℕ, List, [], ◌∷◌, Some, refl}
use Rattle.std.specs.Prelude.{pos, false, codes}
use Rattle.std.specs.Option.{option_map}
use Rattle.rm_val.specs.Val.{Val, int, name, octets}
use Rattle.rm_model.specs.Counting.{Counting}
use Rattle.rm_model.specs.Journal.{Assignment, Act, Journal, assigns, samples}
use Rattle.rm_model.proofs.ExampleSettings.{plain}
use Rattle.rm_acts.specs.Alarms.{alarm_entry}
use Rattle.rm_model.specs.ControlRows.{cell_name}
use Rattle.rm_event.specs.EventTable.{event_entry}
use Rattle.rm_ber.specs.Element as elements
use Rattle.rm_pdu.specs.Message.{message_octets}
use Rattle.rm_agent.specs.Notifications.{notification_of}

abbrev at_first : Counting
at_first = record plain { readings = λ journal now variable. Some (record { value = pos 0; counter = false }) }

abbrev of_event : ℕ → Val → Assignment
of_event column value = record { name = cell_name event_entry column (1 ∷ []); value = value }

abbrev of_alarm : ℕ → Val → Assignment
of_alarm column value = record { name = cell_name alarm_entry column (1 ∷ []); value = value }

-- both rows are made and set, and then become valid
abbrev earlier : Journal
earlier =
    assigns 0 (of_event 7 (int (pos 1)) ∷ of_alarm 12 (int (pos 1)) ∷ [])
    ∷ assigns 0
    (of_event 3 (int (pos 3)) ∷ of_event 4 (octets (codes "public")) ∷ of_event 7 (int (pos 2))
    ∷ of_alarm 2 (int (pos 5)) ∷ of_alarm 3 (name (1 ∷ 3 ∷ 6 ∷ 1 ∷ 2 ∷ 1 ∷ 16 ∷ 1 ∷ 1 ∷ 1 ∷ 5 ∷ 1 ∷ [])) ∷ of_alarm 4 (int (pos 2))
    ∷ of_alarm 7 (int (pos 10)) ∷ of_alarm 8 (int (pos 5)) ∷ of_alarm 9 (int (pos 1)) ∷ of_alarm 12 (int (pos 2)) ∷ [])
    ∷ []

abbrev rises : Act
rises = samples 5000 1 (Some (pos 11))

abbrev worked : List ℕ
worked =
    0x30 ∷ 0x81 ∷ 0xa6 ∷ 0x02 ∷ 0x01 ∷ 0x01 ∷ 0x04 ∷ 0x06 ∷ 0x70 ∷ 0x75 ∷ 0x62 ∷ 0x6c ∷ 0x69 ∷ 0x63 ∷ 0xa7 ∷ 0x81 ∷ 0x98 ∷ 0x02 ∷ 0x01 ∷ 0x01 ∷
    0x02 ∷ 0x01 ∷ 0x00 ∷ 0x02 ∷ 0x01 ∷ 0x00 ∷ 0x30 ∷ 0x81 ∷ 0x8c ∷ 0x30 ∷ 0x0e ∷ 0x06 ∷ 0x08 ∷ 0x2b ∷ 0x06 ∷ 0x01 ∷ 0x02 ∷ 0x01 ∷ 0x01 ∷ 0x03 ∷
    0x00 ∷ 0x43 ∷ 0x02 ∷ 0x01 ∷ 0xf4 ∷ 0x30 ∷ 0x16 ∷ 0x06 ∷ 0x0a ∷ 0x2b ∷ 0x06 ∷ 0x01 ∷ 0x06 ∷ 0x03 ∷ 0x01 ∷ 0x01 ∷ 0x04 ∷ 0x01 ∷ 0x00 ∷ 0x06 ∷
    0x08 ∷ 0x2b ∷ 0x06 ∷ 0x01 ∷ 0x02 ∷ 0x01 ∷ 0x10 ∷ 0x00 ∷ 0x01 ∷ 0x30 ∷ 0x10 ∷ 0x06 ∷ 0x0b ∷ 0x2b ∷ 0x06 ∷ 0x01 ∷ 0x02 ∷ 0x01 ∷ 0x10 ∷ 0x03 ∷
    0x01 ∷ 0x01 ∷ 0x01 ∷ 0x01 ∷ 0x02 ∷ 0x01 ∷ 0x01 ∷ 0x30 ∷ 0x1a ∷ 0x06 ∷ 0x0b ∷ 0x2b ∷ 0x06 ∷ 0x01 ∷ 0x02 ∷ 0x01 ∷ 0x10 ∷ 0x03 ∷ 0x01 ∷ 0x01 ∷
    0x03 ∷ 0x01 ∷ 0x06 ∷ 0x0b ∷ 0x2b ∷ 0x06 ∷ 0x01 ∷ 0x02 ∷ 0x01 ∷ 0x10 ∷ 0x01 ∷ 0x01 ∷ 0x01 ∷ 0x05 ∷ 0x01 ∷ 0x30 ∷ 0x10 ∷ 0x06 ∷ 0x0b ∷ 0x2b ∷
    0x06 ∷ 0x01 ∷ 0x02 ∷ 0x01 ∷ 0x10 ∷ 0x03 ∷ 0x01 ∷ 0x01 ∷ 0x04 ∷ 0x01 ∷ 0x02 ∷ 0x01 ∷ 0x02 ∷ 0x30 ∷ 0x10 ∷ 0x06 ∷ 0x0b ∷ 0x2b ∷ 0x06 ∷ 0x01 ∷
    0x02 ∷ 0x01 ∷ 0x10 ∷ 0x03 ∷ 0x01 ∷ 0x01 ∷ 0x05 ∷ 0x01 ∷ 0x02 ∷ 0x01 ∷ 0x0b ∷ 0x30 ∷ 0x10 ∷ 0x06 ∷ 0x0b ∷ 0x2b ∷ 0x06 ∷ 0x01 ∷ 0x02 ∷ 0x01 ∷
    0x10 ∷ 0x03 ∷ 0x01 ∷ 0x01 ∷ 0x07 ∷ 0x01 ∷ 0x02 ∷ 0x01 ∷ 0x0a ∷ []

rises-octets : option_map message_octets (notification_of at_first rises earlier) ≡ Some worked
unfolding message_octets elements.element elements.integer_octets elements.name_octets elements.number_octets
rises-octets = refl
