-- The sample that is due next once the one that came next was taken.
use Rattle.std.proofs.Common.{◌≡◌, ◌⊎◌, inl, inr, ℕ, ◌+◌, ◌*◌, ◌<◌, ◌≤◌, List, true, false, cond, Option, Some, None, refl, sym, ap, ◌∙◌, nat_eq, arith}
use Rattle.std.specs.Prelude.{ℤ}
use Rattle.std.proofs.lemmas.Bool.Decides.{nat_tests}
use borrow.Author.Tests.{eqb-true}
use Rattle.rm_acts.specs.Alarms.{IsNextDue}
use Rattle.rm_acts.specs.declared.sampled.Sampled.{Sampled}
use Rattle.rm_status.specs.declared.row.Row.{Row}
use Rattle.rm_status.specs.Rows.{row_in}
use Rattle.rm_alarm.specs.declared.row.AlarmRow.{AlarmRow}
use Rattle.rm_alarm.specs.Due.{due_at, is_of, AreBehind}
use Rattle.rm_alarm.specs.Paced.{ArePaced, is_paced}
use Rattle.rm_alarm.specs.Rows.{interval_kept}
use Rattle.rm_alarm.specs.Taking.{HasTaken}
use Rattle.rm_alarm.proofs.NextDue.{due_in_row}
use Rattle.rm_alarm.proofs.Pace.{has_interval}
use Rattle.rm_alarm.proofs.Taken.{due_row}

itself : (i : ℕ) → nat_eq i i ≡ true
itself i = grind (arith, nat_tests)

same_Some : (x y : ℕ) → Some x ≡ Some y → x ≡ y
same_Some x y e = cc

module _ (rows new : List (Row AlarmRow)) (index moment : ℕ) (next : Option (ℕ × ℕ)) (due : due_at rows index ≡ Some moment) (nearest : IsNextDue (due_at rows) next) (first : is_of next index ≡ true)
    (others : (i : ℕ) → nat_eq index i ≡ false → row_in new i ≡ row_in rows i) (later_itself : (later : ℕ) → due_at new index ≡ Some later → moment < later) where
  was_next : (next : Option (ℕ × ℕ)) → IsNextDue (due_at rows) next → is_of next index ≡ true → (other later : ℕ) → due_at rows other ≡ Some later → (moment < later) ⊎ ((moment ≡ later) × (index ≤ other))
  was_next None nearest first other later e = absurd (cc)
  was_next (Some one) nearest first other later e =
      let number : one.1 ≡ index = eqb-true one.1 index first in
      let same : one.0 ≡ moment = same_Some one.0 moment (sym nearest.0 ∙ ap (due_at rows) number ∙ due) in
      elim (nearest.1 other later e) as (λ _. (moment < later) ⊎ ((moment ≡ later) × (index ≤ other))) [
        | inl before ↦ inl (omega (arith, before, same))
        | inr at ↦ let one_moment = at.0 in let below = at.1 in inr (omega (arith, one_moment, same), omega (arith, below, number))
      ]

  pub all_behind : AreBehind (due_at new) moment index
  all_behind other later e =
      elim (nat_eq index other) as (λ t. nat_eq index other ≡ t → (moment < later) ⊎ ((moment ≡ later) × (index < other))) [
        | true ↦ λ t. inl (later_itself later (ap (due_at new) (eqb-true index other t) ∙ e))
        | false ↦ λ t.
            elim (was_next next nearest first other later (sym (ap due_in_row (others other t)) ∙ e)) as (λ _. (moment < later) ⊎ ((moment ≡ later) × (index < other))) [
              | inl before ↦ inl before
              | inr at ↦ let below = at.1 in inr (at.0, grind (arith, nat_tests))
            ]
      ] refl

module _ (rows new : List (Row AlarmRow)) (index moment : ℕ) (next : Option (ℕ × ℕ)) (due : due_at rows index ≡ Some moment) (nearest : IsNextDue (due_at rows) next) (first : is_of next index ≡ true) where
  -- where it stays, its next sample is due an interval later
  pub behind_taken : (number : ℤ) (result : Sampled) → ArePaced rows → HasTaken rows new index moment number result → AreBehind (due_at new) moment index
  behind_taken number result paced taken =
      let is = due_row rows index moment due in
      let got = taken.itself is.row is.course is.here is.has in
      let seconds : 1 ≤ interval_kept is.row.columns = has_interval is.row.state is.row.columns.interval is.course (ap (is_paced is.row.state is.row.columns.interval) (sym is.has) ∙ paced index is.row is.here) in
      all_behind rows new index moment next due nearest first taken.others (λ later e.
      let same : moment + 1000 * interval_kept is.row.columns ≡ later = sym got.2.due ∙ same_Some got.0.due later (sym (ap due_in_row got.1) ∙ e) in omega (arith, same, seconds))

  -- where its row is removed, it has none
  pub behind_gone : ((i : ℕ) → row_in new i ≡ cond (nat_eq index i) None (row_in rows i)) → AreBehind (due_at new) moment index
  behind_gone lacks =
      all_behind rows new index moment next due nearest first (λ i other. lacks i ∙ ap (λ t. cond t None (row_in rows i)) other) (λ later e.
      absurd (let none : due_at new index ≡ None = ap due_in_row (lacks index ∙ ap (λ t. cond t None (row_in rows index)) (itself index)) in cc))
