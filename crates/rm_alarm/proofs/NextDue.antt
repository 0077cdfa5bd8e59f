-- The search for the sample that is due next.
use Rattle.std.proofs.Common.{◌≡◌, ℕ, List, Option, Some, None, refl, sym, ap, subst, ◌∙◌, option_map, arith}
use Rattle.std.specs.Option.{option_and_then}
use Rattle.rm_model.specs.Counting.{Counting}
use Rattle.rm_model.specs.Journal.{Journal}
use Rattle.rm_model.specs.ControlRows.{no_rows, is_valid}
use Rattle.rm_acts.specs.Alarms.{alarm_table, alarm_state, due_of, IsNextDue, nearer}
use Rattle.rm_acts.proofs.DueLaws.{not_due}
use Rattle.rm_acts.proofs.NextDueLaws.{IsNextTo, next_more, next_all}
use Rattle.rm_model.specs.declared.row.State.{State}
use Rattle.rm_model.specs.declared.row.State.TheVariants.{Absent, UnderCreation, Valid}
use Rattle.rm_status.specs.declared.row.Row.{Row}
use Rattle.rm_status.specs.Rows.{row_in, state_seen, AllThere, IsIndexAfter}
use Rattle.rm_status.specs.RowsAfter.{AreRowsAfter}
use Rattle.rm_status.specs.Change.{changed_row}
use Rattle.rm_alarm.specs.declared.course.Course.{Course}
use Rattle.rm_alarm.specs.declared.row.AlarmRow.{AlarmRow}
use Rattle.rm_alarm.specs.Due.{due_at}
use Rattle.rm_alarm.specs.Rows.{set_to}
use Rattle.rm_alarm.specs.Standing.{IsKept, AreKept}
use Rattle.rm_status.proofs.RowFacts.{no_row_0}
use Rattle.rm_alarm.proofs.RowFacts.{state_is}

due_none : (rows : List (Row AlarmRow)) (i : ℕ) → row_in rows i ≡ None → due_at rows i ≡ None
due_none rows i e = ap (option_and_then (λ (row : Row AlarmRow). option_map (λ course. course.due) row.columns.course)) e

-- the rows that are kept are due when the journal says
pub due_is : (rows : List (Row AlarmRow)) (settings : Counting) (journal : Journal) → AreRowsAfter alarm_table no_rows set_to rows journal → AreKept rows settings journal → (i : ℕ) → due_at rows i ≡ due_of journal i
due_is rows settings journal is kept i = by_row (row_in rows i) refl
  where
    by_state : (s : State) (row : AlarmRow) (o : Option Course) → s ≡ alarm_state journal i → IsKept settings journal i s row o → option_map (λ course. course.due) o ≡ due_of journal i
    by_state Valid row (Some course) e k = sym k.due
    by_state Valid row None e k = absurd k
    by_state UnderCreation row o e k = ap (option_map (λ course. course.due)) k ∙ sym (not_due journal i (ap is_valid (sym e)))
    by_state Absent row o e k = ap (option_map (λ course. course.due)) k ∙ sym (not_due journal i (ap is_valid (sym e)))

    by_row : (o : Option (Row AlarmRow)) → row_in rows i ≡ o → option_and_then (λ (row : Row AlarmRow). option_map (λ course. course.due) row.columns.course) o ≡ due_of journal i
    by_row None here = sym (not_due journal i (ap is_valid (sym (is.alike.states i) ∙ ap state_seen here)))
    by_row (Some row) here = by_state row.state row.columns row.columns.course (state_is rows journal is i row here) (kept i row here)

pub next_by : (due other : ℕ → Option ℕ) (next : Option (ℕ × ℕ)) → ((i : ℕ) → due i ≡ other i) → IsNextDue due next → IsNextDue other next
next_by due other next same is = subst (λ (f : ℕ → Option ℕ). IsNextDue f next) (λ d i. same i d) is

abbrev pub due_in_row : Option (Row AlarmRow) → Option ℕ
due_in_row = option_and_then (λ (row : Row AlarmRow). option_map (λ course. course.due) row.columns.course)

-- a change that leaves what is kept of samples
pub next_kept : (change : ℕ → State → AlarmRow → AlarmRow) → ((index : ℕ) (state : State) (row : AlarmRow) → (change index state row).course ≡ row.course)
    → (rows new : List (Row AlarmRow)) → ((i : ℕ) → row_in new i ≡ option_map (changed_row change) (row_in rows i)) → (next : Option (ℕ × ℕ)) → IsNextDue (due_at rows) next → IsNextDue (due_at new) next
next_kept change courses rows new changed next is = next_by (due_at rows) (due_at new) next (λ i. sym (ap due_in_row (changed i) ∙ same (row_in rows i))) is
  where
    same : (o : Option (Row AlarmRow)) → due_in_row (option_map (changed_row change) o) ≡ due_in_row o
    same None = refl
    same (Some row) = ap (option_map (λ course. course.due)) (courses row.index row.state row.columns)

pub begins : (rows : List (Row AlarmRow)) → AllThere alarm_table rows → IsNextTo (due_at rows) 0 None
begins rows there alarm h = let zero_is : alarm ≡ 0 = omega arith in ap (due_at rows) zero_is ∙ due_none rows 0 (no_row_0 alarm_table rows there)

pub goes_on : (rows : List (Row AlarmRow)) (last index : ℕ) (next : Option (ℕ × ℕ)) (o : Option ℕ) → IsIndexAfter rows last (Some index) → o ≡ due_at rows index → IsNextTo (due_at rows) last next → IsNextTo (due_at rows) index (nearer next o index)
goes_on rows last index next o after here is = next_more (due_at rows) last index after.0 (λ i low high. due_none rows i (after.2 i low high)) next o (sym here) is

pub ends : (rows : List (Row AlarmRow)) (last : ℕ) (next : Option (ℕ × ℕ)) → IsIndexAfter rows last None → IsNextTo (due_at rows) last next → IsNextDue (due_at rows) next
ends rows last next after is = next_all (due_at rows) last next (λ i low. due_none rows i (after i low)) is
