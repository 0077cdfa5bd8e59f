-- The samples that are due up to a moment are some, and no others.
use Rattle.std.proofs.Common.{◌≡◌, ◌⊎◌, inl, inr, ℕ, zero, suc, ◌+◌, ◌-◌, ◌*◌, ◌<◌, ◌≤◌, List, [], ◌∷◌, ◌++◌, true, false, not, Option, Some, None, refl, sym, ap, subst, ◌∙◌, nat_eq, arith, Contains}
use Rattle.std.specs.Prelude.{ℤ, IfSome}
use Rattle.std.specs.Option.{option_map}
use Rattle.std.proofs.lemmas.Bool.{cases_lt}
use Rattle.std.proofs.lemmas.Option.{same_Some}
use borrow.Author.Tests.{eqb-true}
use Rattle.rm_model.specs.Journal.{Journal, samples}
use Rattle.rm_model.specs.ControlRows.{no_rows, is_valid}
use Rattle.rm_acts.specs.Alarms.{alarm_table, alarm_state, interval_of, due_of, IsNextDue}
use Rattle.rm_model.proofs.Members.{none_in, each}
use Rattle.rm_model.specs.Indexes.{indexes_of}
use Rattle.rm_model.proofs.Rows.{row_listed}
use Rattle.rm_status.proofs.RowFacts.{valid_there}
use Rattle.rm_alarm.specs.Group.{nothing_begins}
use Rattle.rm_alarm.specs.Left.{sum_below, span_to}
use Rattle.rm_alarm.specs.Watched.{number_read}
use Rattle.rm_settings.specs.declared.settings.Settings.{Settings}
use Rattle.rm_agent.specs.Known.{counting_by}
use Rattle.rm_agent.specs.Orderly.{NoneIsDue, IsOrderly}
use Rattle.rm_agent.specs.Agent.{sample_of}
use Rattle.rm_agent.specs.Advance.{Notification, notifications_of, IsAdvanced, none_due, one_due}
use Rattle.rm_acts.proofs.NextDueLaws.{next_of}
use Rattle.rm_alarm.proofs.Sums.{sum_less}
use Rattle.rm_agent.proofs.CountLemmas.{same_next}
use Rattle.rm_acts.proofs.DueLaws.{not_due, valid_if_due, due_of_others, due_gone, due_next}
use Rattle.rm_agent.proofs.OrderlyLemmas.{has_seconds, orderly_samples}

none_some : {A : Type 0} (o : Option A) (x : A) → o ≡ None → o ≡ Some x → ⊥
none_some o x e f = cc

-- where none is due, none is next up to the moment
none_next : (to : ℕ) (journal : Journal) (next : ℕ × ℕ) → NoneIsDue to journal → IsNextDue (due_of journal) (Some next) → next.0 ≤ to → ⊥
none_next to journal next none is early = let later = none next.1 next.0 is.0 in omega arith

module _ (settings : Settings) (to : ℕ) where
  -- one list of notifications, and one journal after
  pub advanced_once : (journal : Journal) (sent others : List Notification) (after end : Journal) → IsAdvanced settings to journal sent after → IsAdvanced settings to journal others end → (sent ≡ others) × (after ≡ end)
  advanced_once _ _ _ _ _ (none_due journal none) (none_due _ still) = (refl, refl)
  advanced_once _ _ _ _ _ (none_due journal none) (one_due _ next later after due early is) = absurd (none_next to journal next none due early)
  advanced_once _ _ _ _ _ (one_due journal next later after due early is) (none_due _ none) = absurd (none_next to journal next none due early)
  advanced_once _ _ _ _ _ (one_due journal next later after due early is) (one_due _ other others end due' early' is') =
      let same : other ≡ next = same_Some other next (same_next (due_of journal) (Some other) (Some next) due' due) in
      let (rest, once) = advanced_once (sample_of settings journal next.0 next.1 ∷ journal) later others after end is
      (subst (λ (n : ℕ × ℕ). IsAdvanced settings to (sample_of settings journal n.0 n.1 ∷ journal) others end) same is') in
      (ap (λ (l : List Notification). notifications_of settings journal next ++ l) rest ∙ ap (λ (n : ℕ × ℕ). notifications_of settings journal n ++ others) (sym same), once)

  -- the journal stays orderly, and none is due
  pub advanced_orderly : (journal : Journal) (sent : List Notification) (after : Journal) → IsOrderly journal → IsAdvanced settings to journal sent after → IsOrderly after × NoneIsDue to after
  advanced_orderly _ _ _ orderly (none_due journal none) = (orderly, none)
  advanced_orderly _ _ _ orderly (one_due journal next later after due early is) =
      advanced_orderly (sample_of settings journal next.0 next.1 ∷ journal) later after (orderly_samples journal next due orderly (number_read (counting_by settings) journal next.0 next.1)) is

-- the next one is later, or there is none
none_later : (to : ℕ) (journal : Journal) (next : ℕ × ℕ) → IsNextDue (due_of journal) (Some next) → to < next.0 → NoneIsDue to journal
none_later to journal next is later = λ alarm moment due. by_part moment (is.1 alarm moment due)
  where
    by_part : (moment : ℕ) {alarm : ℕ} → (next.0 < moment) ⊎ ((next.0 ≡ moment) × (next.1 ≤ alarm)) → to < moment
    by_part moment (inl h) = omega arith
    by_part moment (inr h) = let e = h.0 in omega arith

none_at_all : (to : ℕ) (journal : Journal) → IsNextDue (due_of journal) None → NoneIsDue to journal
none_at_all to journal is = λ alarm moment due. absurd (none_some (due_of journal alarm) moment (is alarm) due)

-- where the next one is later, if there is one
pub none_until : (to : ℕ) (journal : Journal) (next : Option (ℕ × ℕ)) → IsNextDue (due_of journal) next → IfSome (option_map (λ sample. sample.0) next) (λ moment. to < moment) → NoneIsDue to journal
none_until to journal None is later = none_at_all to journal is
none_until to journal (Some next) is later = none_later to journal next is later

-- The alarms of which a sample can be due are finitely many.

abbrev head_number : List ℕ → ℕ
head_number [] = 0
head_number (number ∷ more) = suc number

abbrev sum_of_heads : List (List ℕ) → ℕ
sum_of_heads [] = 0
sum_of_heads (index ∷ more) = head_number index + sum_of_heads more

head_within : (indexes : List (List ℕ)) (index : List ℕ) → Contains indexes index → head_number index ≤ sum_of_heads indexes
head_within [] index within = absurd (none_in index within)
head_within (first ∷ more) index within =
    each (λ (i : List ℕ). head_number i ≤ head_number first + sum_of_heads more) first more (omega arith) (λ i later. let h = head_within more i later in omega arith) index within

abbrev bound_of : Journal → ℕ
bound_of journal = sum_of_heads (indexes_of alarm_table [] journal)

none_above : (journal : Journal) (i : ℕ) → bound_of journal ≤ i → due_of journal i ≡ None
none_above journal i above =
    elim (is_valid (alarm_state journal i)) as (λ v. is_valid (alarm_state journal i) ≡ v → due_of journal i ≡ None) [
      | true ↦ λ e.
          let listed = row_listed alarm_table no_rows [] nothing_begins journal (i ∷ []) (ap not (valid_there (alarm_state journal i) e)) in
          let within : suc i ≤ bound_of journal = head_within (indexes_of alarm_table [] journal) (i ∷ []) listed in
          absurd (omega arith)
      | false ↦ λ e. not_due journal i e
    ] refl

-- Each sample leaves fewer.

module _ (settings : Settings) (to : ℕ) where
  abbrev left : Journal → ℕ → ℕ
  left journal i = span_to to (due_of journal i)

  module _ (journal : Journal) (next : ℕ × ℕ) (due : IsNextDue (due_of journal) (Some next)) (early : next.0 ≤ to) (orderly : IsOrderly journal) where
    was : left journal next.1 ≡ to + 1 - next.0
    was = ap (span_to to) due.0

    less_own : (reading : Option ℤ) → left (samples next.0 next.1 reading ∷ journal) next.1 < left journal next.1
    less_own None = let now : left (samples next.0 next.1 None ∷ journal) next.1 ≡ 0 = ap (span_to to) (due_gone journal next.0 next.1 due.0) in let before = was in omega arith
    less_own (Some number) =
        let now : left (samples next.0 next.1 (Some number) ∷ journal) next.1 ≡ to + 1 - (next.0 + 1000 * interval_of journal next.1) = ap (span_to to) (due_next journal next.0 next.1 due.0 number) in
        let before = was in
        let seconds = has_seconds journal next.1 orderly (valid_if_due journal next.1 next.0 due.0) in
        omega arith

    fewer : (reading : Option ℤ) (bound : ℕ) → ((i : ℕ) → bound ≤ i → due_of journal i ≡ None) → sum_below (left (samples next.0 next.1 reading ∷ journal)) bound < sum_below (left journal) bound
    fewer reading bound above =
        sum_less (left (samples next.0 next.1 reading ∷ journal)) (left journal) next.1 bound (within (cases_lt next.1 bound)) (λ i other. ap (span_to to) (due_of_others journal next.0 next.1 i other reading)) (less_own reading)
      where
        within : (next.1 < bound) ⊎ (bound ≤ next.1) → next.1 < bound
        within (inl h) = h
        within (inr h) = absurd (none_some (due_of journal next.1) next.0 (above next.1 h) due.0)

    still_none : (reading : Option ℤ) (bound : ℕ) → ((i : ℕ) → bound ≤ i → due_of journal i ≡ None) → (i : ℕ) → bound ≤ i → due_of (samples next.0 next.1 reading ∷ journal) i ≡ None
    still_none reading bound above i high =
        elim (nat_eq next.1 i) as (λ t. nat_eq next.1 i ≡ t → due_of (samples next.0 next.1 reading ∷ journal) i ≡ None) [
          | true ↦ λ e. absurd (none_some (due_of journal next.1) next.0 (above next.1 (subst (λ k. bound ≤ k) (sym (eqb-true next.1 i e)) high)) due.0)
          | false ↦ λ e. due_of_others journal next.0 next.1 i e reading ∙ above i high
        ] refl

  abbrev IsSome : Journal → Type 0
  IsSome journal = (sent : List Notification) × (after : Journal) × IsAdvanced settings to journal sent after

  -- none is due, or one more is taken
  by_next : (journal : Journal) → ((next : ℕ × ℕ) → IsNextDue (due_of journal) (Some next) → next.0 ≤ to → IsSome (sample_of settings journal next.0 next.1 ∷ journal))
      → (next : Option (ℕ × ℕ)) → IsNextDue (due_of journal) next → IsSome journal
  by_next journal others None is = ([], journal, none_due journal (none_at_all to journal is))
  by_next journal others (Some next) is = by_moment (cases_lt to next.0)
    where
      by_moment : (to < next.0) ⊎ (next.0 ≤ to) → IsSome journal
      by_moment (inl later) = ([], journal, none_due journal (none_later to journal next is later))
      by_moment (inr early) =
          let (later, after, advanced) = others next is early in
          (notifications_of settings journal next ++ later, after, one_due journal next later after is early advanced)

  some_advanced : (fuel bound : ℕ) (journal : Journal) → IsOrderly journal → ((i : ℕ) → bound ≤ i → due_of journal i ≡ None) → sum_below (left journal) bound ≤ fuel → IsSome journal
  some_advanced zero bound journal orderly above enough =
      let next = next_of (due_of journal) bound above in
      by_next journal (λ next is early. absurd (let less = fewer journal next is early orderly (number_read (counting_by settings) journal next.0 next.1) bound above in omega arith)) next.0 next.1
  some_advanced (suc fuel) bound journal orderly above enough =
      let next = next_of (due_of journal) bound above in
      by_next journal
      (λ next is early.
      let reading : Option ℤ = number_read (counting_by settings) journal next.0 next.1 in
      let less = fewer journal next is early orderly reading bound above in
      some_advanced fuel bound (sample_of settings journal next.0 next.1 ∷ journal) (orderly_samples journal next is orderly reading) (still_none journal next is early orderly reading bound above) (omega arith))
      next.0 next.1

  -- from each orderly journal on they come to an end
  pub some_advance : (journal : Journal) → IsOrderly journal → (sent : List Notification) × (after : Journal) × IsAdvanced settings to journal sent after
  some_advance journal orderly = some_advanced (sum_below (left journal) (bound_of journal)) (bound_of journal) journal orderly (none_above journal) (omega arith)
