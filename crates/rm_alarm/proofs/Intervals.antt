-- An interval that a Set gives to an alarm is a second or more.
use Rattle.std.proofs.Common.{◌≡◌, ℕ, ◌<◌, ◌≤◌, [], ◌∷◌, length, true, Some, None, refl, arith}
use Rattle.std.specs.Prelude.{ℤ, pos, negsuc, int_le, nat_abs}
use Rattle.std.proofs.lemmas.Bool.Decides.{nat_tests}
use Rattle.rm_val.specs.Val.{Val, int}
use Rattle.rm_model.specs.Journal.{value_given}
use Rattle.rm_model.specs.ControlTable.{number}
use Rattle.rm_model.specs.ControlRows.{cell_name}
use Rattle.rm_model.specs.Judgement.{Bindings, first_pass}
use Rattle.rm_model.specs.ControlTable.{up_from}
use Rattle.rm_acts.specs.Alarms.{alarm_entry, alarm_table, number_of}
use Rattle.rm_columns.specs.KindLaws.{of_within}
use Rattle.rm_status.proofs.Bound.{given_fine}

one_or_more : (n : ℤ) → int_le (pos 1) n ≡ true → int_le n (pos 2147483647) ≡ true → 1 ≤ nat_abs (number_of (int n))
one_or_more (pos n) low high = grind (arith, nat_tests)
one_or_more (negsuc n) low high = absurd (cc)

pub given_seconds : (bs : Bindings) → ((k : ℕ) → k < length bs → first_pass alarm_table bs k ≡ None) → (alarm : ℕ) (value : Val) → value_given bs (cell_name alarm_entry 2 (alarm ∷ [])) ≡ Some value → 1 ≤ nat_abs (number_of value)
given_seconds bs alone alarm value given =
    of_within (λ v. 1 ≤ nat_abs (number_of v)) (pos 1) (pos 2147483647) one_or_more (number (up_from 1 2147483647)) value refl (given_fine alarm_table bs alone 2 alarm refl value given)
