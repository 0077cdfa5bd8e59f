-- An alarm after some acts, worked out by hand.
use Rattle.std.proofs.Common.{◌≡◌, ℕ, List, [], ◌∷◌, true, false, Some, None, refl}
use Rattle.std.specs.Prelude.{pos, negsuc, if◌then◌else◌}
use Rattle.std.specs.Str.{bytes_eq}
use Rattle.rm_val.specs.Val.{Val, int, name}
use Rattle.rm_model.specs.Counting.{Counting}
use Rattle.rm_model.specs.Journal.{Act, Assignment, assigns, samples, Journal}
use Rattle.rm_model.specs.ControlRows.{cell_name}
use Rattle.rm_model.proofs.ExampleSettings.{plain}
use Rattle.rm_acts.specs.Alarms.{alarm_entry, alarm_state, base_of, difference, sample_values, alarm_value, saturated, sampled, due_of}
use Rattle.rm_model.specs.declared.row.State.TheVariants.{Absent, UnderCreation}
use Rattle.rm_acts.specs.declared.sampled.Sampled.TheVariants.{Quiet, Gone, Rising, Falling}

-- etherStatsPkts.1
abbrev pkts : List ℕ
pkts = 1 ∷ 3 ∷ 6 ∷ 1 ∷ 2 ∷ 1 ∷ 16 ∷ 1 ∷ 1 ∷ 1 ∷ 5 ∷ 1 ∷ []

-- it reads 4294967290, a Counter32, after every journal and at every moment; nothing else can be read
abbrev settings : Counting
settings = record plain {
  readings = λ journal now variable. if bytes_eq variable pkts then Some (record { value = pos 4294967290; counter = true }) else None;
}

abbrev given : ℕ → Val → Assignment
given column value = record { name = cell_name alarm_entry column (1 ∷ []); value = value }

-- Alarm 1 is made at 1900: a delta of etherStatsPkts.1 each second, rising threshold 10, falling threshold 5, startup alarm
-- falling. It is made valid at 2000.
abbrev made : Act
made = assigns 1900 (
    given 2 (int (pos 1)) ∷ given 3 (name pkts) ∷ given 4 (int (pos 2)) ∷ given 6 (int (pos 2)) ∷ given 7 (int (pos 10)) ∷ given 8 (int (pos 5)) ∷ given 12 (int (pos 2)) ∷ []
    )

abbrev valid : Act
valid = assigns 2000 (given 12 (int (pos 1)) ∷ [])

abbrev at_2000 : Journal
at_2000 = valid ∷ made ∷ []

under_creation : alarm_state (made ∷ []) 1 ≡ UnderCreation
under_creation = refl

not_due : due_of (made ∷ []) 1 ≡ None
not_due = refl

due_first : due_of at_2000 1 ≡ Some 3000
due_first = refl

no_base_before : base_of settings (made ∷ []) 1 ≡ None
no_base_before = refl

base : base_of settings at_2000 1 ≡ Some (record { value = pos 4294967290; counter = true })
base = refl

no_value_before : alarm_value settings at_2000 1 ≡ pos 0
no_value_before = refl

-- 12 packets come, then 7, 11, 5 and 10; the counter wraps at 2 ^ 32
abbrev at_3000 : Journal
at_3000 = samples 3000 1 (Some (pos 6)) ∷ at_2000

abbrev at_4000 : Journal
at_4000 = samples 4000 1 (Some (pos 13)) ∷ at_3000

abbrev at_5000 : Journal
at_5000 = samples 5000 1 (Some (pos 24)) ∷ at_4000

abbrev at_6000 : Journal
at_6000 = samples 6000 1 (Some (pos 29)) ∷ at_5000

values : sample_values settings at_6000 1 ≡ pos 5 ∷ pos 11 ∷ pos 7 ∷ pos 12 ∷ []
values = refl

value_shown : alarm_value settings at_5000 1 ≡ pos 11
value_shown = refl

first : sampled settings at_2000 3000 1 (Some (pos 6)) ≡ Quiet
first = refl

third : sampled settings at_4000 5000 1 (Some (pos 24)) ≡ Rising
third = refl

fourth : sampled settings at_5000 6000 1 (Some (pos 29)) ≡ Falling
fourth = refl

fifth : sampled settings at_6000 7000 1 (Some (pos 39)) ≡ Rising
fifth = refl

due_fifth : due_of at_6000 1 ≡ Some 7000
due_fifth = refl

-- A sample of another alarm is none of this one.
of_another : sample_values settings (samples 6000 2 (Some (pos 1)) ∷ at_6000) 1 ≡ pos 5 ∷ pos 11 ∷ pos 7 ∷ pos 12 ∷ []
of_another = refl

-- Where the variable is gone, the row is.
gone : sampled settings at_6000 7000 1 None ≡ Gone
gone = refl

removed : alarm_state (samples 7000 1 None ∷ at_6000) 1 ≡ Absent
removed = refl

not_due_then : due_of (samples 7000 1 None ∷ at_6000) 1 ≡ None
not_due_then = refl

-- Made anew, it has no samples, and counts its intervals anew.
abbrev anew : Journal
anew = assigns 7500 (given 12 (int (pos 1)) ∷ []) ∷ made ∷ samples 7000 1 None ∷ at_6000

no_values_anew : sample_values settings anew 1 ≡ []
no_values_anew = refl

due_anew : due_of anew 1 ≡ Some 8500
due_anew = refl

-- A difference of a Counter32 is modulo 2 ^ 32, any other one is exact.
wraps : difference true (pos 5) (pos 4294967290) ≡ pos 11
wraps = refl

falls : difference false (pos 5) (pos 4294967290) ≡ negsuc 4294967284
falls = refl

-- alarmValue is the nearest INTEGER
too_great : saturated (pos 4294967285) ≡ pos 2147483647
too_great = refl

too_low : saturated (negsuc 4294967294) ≡ negsuc 2147483647
too_low = refl
