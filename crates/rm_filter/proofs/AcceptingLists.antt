-- That the channels that are found to accept a frame are those that the journal gives, and so are the firings that they ask for.
use Rattle.std.proofs.Common.{◌≡◌, ℕ, ◌≤◌, List, [], ◌∷◌, Bool, true, false, cond, ◌&&◌, ◌||◌, nat_eq, Option, Some, None, refl, sym, ap, ◌∙◌, map, arith, filter_map}
use Rattle.std.specs.Prelude.{filter}
use Rattle.std.specs.List.{cons_option}
use Rattle.std.proofs.lemmas.Bool.Decides.{nat_tests}
use Rattle.rm_model.specs.Counting.{Counting}
use Rattle.rm_model.specs.Journal.{Frame, Journal}
use Rattle.rm_model.specs.ControlRows.{no_rows, is_valid}
use Rattle.rm_status.specs.declared.row.Row.{Row}
use Rattle.rm_status.specs.Rows.{row_in, Rising}
use Rattle.rm_status.specs.RowsAfter.{AreRowsAfter}
use Rattle.rm_acts.specs.declared.firing.Firing.{Firing}
use Rattle.rm_acts.specs.Rows.{has_valid}
use Rattle.rm_acts.specs.Events.{event_table}
use Rattle.rm_acts.specs.Channels.{channel_table, accepts, event_of}
use Rattle.rm_acts.specs.Fired as acts
use Rattle.rm_filter.specs.declared.accepted.Accepted.{Accepted}
use Rattle.rm_filter.specs.declared.channel.Channel.{Channel}
use Rattle.rm_filter.specs.declared.data_control.DataControl.{DataControl}
use Rattle.rm_filter.specs.declared.data_control.DataControl.TheVariants.{On, Off}
use Rattle.rm_filter.specs.ChannelForm.{set_to}
use Rattle.rm_filter.specs.DataControl.{control_number}
use Rattle.rm_filter.specs.EventStatus.{status_number}
use Rattle.rm_filter.specs.Judging.{is_on, accepted_by, judged, firing_asked, AreAccepting}
use Rattle.rm_filter.specs.Tables.{ArePresent}
use Rattle.rm_filter.proofs.JudgeLemmas.{found_first, passed_over, not_in}
use Rattle.rm_filter.proofs.Turned.{own_event}
use Rattle.rm_filter.proofs.ValidRows.{valid_kept, valid_rows_kept}

on_number : (control : DataControl) → is_on control ≡ nat_eq (control_number control) 1
on_number On = refl
on_number Off = refl

module _ (settings : Counting) (journal : Journal) (frame : Frame) where
  abbrev accepted : ℕ → Bool
  accepted i = accepts settings journal i frame

  abbrev on : ℕ → Bool
  on i = acts.is_on journal (acts.fired settings journal) i

  abbrev may : ℕ → Bool
  may i = acts.may_fire journal (acts.fired settings journal) i

  abbrev both : ℕ → Bool
  both i = on i && accepted i

  abbrev by : ℕ → Firing
  by i = acts.by_channel journal i

  abbrev has_event : Firing → Bool
  has_event firing = has_valid event_table journal firing.event

  abbrev kept : Row Channel → Option Accepted
  kept = judged settings journal frame

  abbrev valid_of : List (Row Channel) → List (Row Channel)
  valid_of rows = filter (λ (r : Row Channel). is_valid r.state) rows

  abbrev indexes : List (Row Channel) → List ℕ
  indexes rows = map (λ (r : Row Channel). r.index) rows

  abbrev channels : List Accepted → List ℕ
  channels list = map (λ (a : Accepted). a.channel) list

  abbrev are_on : List Accepted → List Accepted
  are_on list = filter (λ (a : Accepted). a.is_on) list

  -- whether a channel is ready, by its status
  abbrev ready : Row Channel → Bool
  ready row = nat_eq (status_number row.columns.status) 1 || nat_eq (status_number row.columns.status) 3

  -- what is known of a channel
  record IsKnown (row : Row Channel) : Type 0 where
    control : is_on row.columns.control ≡ on row.index
    status : ready row ≡ acts.is_ready journal (acts.fired settings journal) row.index
    event : is_valid row.state ≡ true → row.columns.set.event ≡ event_of journal row.index

  abbrev AreKnown : List (Row Channel) → Type 0
  AreKnown [] = Unit {0}
  AreKnown (row ∷ rows) = IsKnown row × AreKnown rows

  -- all that accept it
  all_are : (rows : List (Row Channel)) → channels (filter_map kept rows) ≡ filter accepted (valid_kept rows)
  all_are [] = refl
  all_are (x ∷ rows) = by_state (all_are rows) (is_valid x.state)
    where
      by_state : channels (filter_map kept rows) ≡ filter accepted (valid_kept rows) → (v : Bool)
          → channels (cons_option (cond (v && accepted x.index) (Some (accepted_by x)) None) (filter_map kept rows)) ≡ filter accepted (indexes (cond v (x ∷ valid_of rows) (valid_of rows)))
      by_state rest false = rest
      by_state rest true =
          elim (accepted x.index) as (λ a. channels (cons_option (cond a (Some (accepted_by x)) None) (filter_map kept rows)) ≡ cond a (x.index ∷ filter accepted (valid_kept rows)) (filter accepted (valid_kept rows))) [
            | true ↦ ap (λ l. x.index ∷ l) rest
            | false ↦ rest
          ]

  -- those of them that are on
  on_are : (rows : List (Row Channel)) → AreKnown rows → channels (are_on (filter_map kept rows)) ≡ filter both (valid_kept rows)
  on_are [] known = refl
  on_are (x ∷ rows) known = by_state (on_are rows known.1) (is_valid x.state)
    where
      by_tests : channels (are_on (filter_map kept rows)) ≡ filter both (valid_kept rows) → (a o : Bool)
          → channels (are_on (cons_option (cond a (Some (record (accepted_by x) { is_on = o })) None) (filter_map kept rows))) ≡ cond (o && a) (x.index ∷ filter both (valid_kept rows)) (filter both (valid_kept rows))
      by_tests rest true true = ap (λ l. x.index ∷ l) rest
      by_tests rest true false = rest
      by_tests rest false true = rest
      by_tests rest false false = rest

      by_state : channels (are_on (filter_map kept rows)) ≡ filter both (valid_kept rows) → (v : Bool)
          → channels (are_on (cons_option (cond (v && accepted x.index) (Some (accepted_by x)) None) (filter_map kept rows))) ≡ filter both (indexes (cond v (x ∷ valid_of rows) (valid_of rows)))
      by_state rest false = rest
      by_state rest true =
          by_tests rest (accepted x.index) (is_on x.columns.control)
          ∙ ap (λ o. cond (o && accepted x.index) (x.index ∷ filter both (valid_kept rows)) (filter both (valid_kept rows))) known.0.control

  -- the firings of those that are ready
  abbrev asked : List Accepted → List Firing
  asked list = filter has_event (filter_map firing_asked list)

  abbrev fires : List ℕ → List Firing
  fires xs = map by (filter may xs)

  asks : (x : Row Channel) (list : List Accepted) (o a p : Bool) (event : ℕ)
      → asked (cons_option (cond a (Some (record { channel = x.index; is_on = o; event = cond p (Some event) None })) None) list)
      ≡ cond (a && (p && has_valid event_table journal event)) (record { event = event; channel = Some x.index } ∷ asked list) (asked list)
  asks x list o true true event = refl
  asks x list o true false event = refl
  asks x list o false p event = refl

  fired_of : (i : ℕ) (xs : List ℕ) (b m : Bool) → both i ≡ b → may i ≡ m → fires (cond (both i) (i ∷ filter both xs) (filter both xs)) ≡ cond (b && m) (by i ∷ fires (filter both xs)) (fires (filter both xs))
  fired_of i xs b m is_both is_may = ap (λ t. fires (cond t (i ∷ filter both xs) (filter both xs))) is_both ∙ by_test b
    where
      by_may : (t : Bool) → map by (cond t (i ∷ filter may (filter both xs)) (filter may (filter both xs))) ≡ cond t (by i ∷ fires (filter both xs)) (fires (filter both xs))
      by_may true = refl
      by_may false = refl

      by_test : (t : Bool) → fires (cond t (i ∷ filter both xs) (filter both xs)) ≡ cond (t && m) (by i ∷ fires (filter both xs)) (fires (filter both xs))
      by_test true = ap (λ t. map by (cond t (i ∷ filter may (filter both xs)) (filter may (filter both xs)))) is_may ∙ by_may m
      by_test false = refl

  regroup : (a o r h : Bool) → (a && ((o && r) && h)) ≡ ((o && a) && (r && h))
  regroup true true r h = refl
  regroup true false r h = refl
  regroup false true r h = refl
  regroup false false r h = refl

  firings_are : (rows : List (Row Channel)) → AreKnown rows → asked (filter_map kept rows) ≡ fires (filter both (valid_kept rows))
  firings_are [] known = refl
  firings_are (x ∷ rows) known = by_state (firings_are rows known.1) (is_valid x.state) refl
    where
      by_state : asked (filter_map kept rows) ≡ fires (filter both (valid_kept rows)) → (v : Bool) → is_valid x.state ≡ v
          → asked (cons_option (cond (v && accepted x.index) (Some (accepted_by x)) None) (filter_map kept rows)) ≡ fires (filter both (indexes (cond v (x ∷ valid_of rows) (valid_of rows))))
      by_state rest false idle = rest
      by_state rest true valid =
          let event = known.0.event valid in
          asks x (filter_map kept rows) (is_on x.columns.control) (accepted x.index) (is_on x.columns.control && ready x) x.columns.set.event
          ∙ ap (λ b. cond b (record { event = x.columns.set.event; channel = Some x.index } ∷ asked (filter_map kept rows)) (asked (filter_map kept rows)))
          (regroup (accepted x.index) (is_on x.columns.control) (ready x) (has_valid event_table journal x.columns.set.event))
          ∙ ap (λ l. cond ((is_on x.columns.control && accepted x.index) && (ready x && has_valid event_table journal x.columns.set.event)) (record { event = x.columns.set.event; channel = Some x.index } ∷ l) l) rest
          ∙ ap (λ n. cond ((is_on x.columns.control && accepted x.index) && (ready x && has_valid event_table journal n)) (record { event = n; channel = Some x.index } ∷ fires (filter both (valid_kept rows))) (fires (filter both (valid_kept rows)))) event
          ∙ sym (fired_of x.index (valid_kept rows) (is_on x.columns.control && accepted x.index) (ready x && has_valid event_table journal (event_of journal x.index))
          (ap (λ t. t && accepted x.index) (sym known.0.control)) (ap (λ t. t && has_valid event_table journal (event_of journal x.index)) (sym known.0.status)))

  -- each channel that is kept is known
  module _ (all : List (Row Channel)) (is : AreRowsAfter channel_table no_rows set_to all journal) (are : ArePresent all settings journal (acts.fired settings journal)) where
    known_at : (i : ℕ) (row : Row Channel) → row.index ≡ i → row_in all i ≡ Some row → IsKnown row
    known_at i row index here = record {
      control = on_number row.columns.control ∙ ap (λ n. nat_eq n 1) (are i row here).control ∙ ap on (sym index);
      status = ap (λ n. nat_eq n 1 || nat_eq n 3) (are i row here).status ∙ ap (acts.is_ready journal (acts.fired settings journal)) (sym index);
      event = λ valid. own_event all journal is i row here valid ∙ ap (event_of journal) (sym index);
    }

    all_known : (rows : List (Row Channel)) → Rising rows → ((i : ℕ) (row : Row Channel) → row_in rows i ≡ Some row → row_in all i ≡ Some row) → AreKnown rows
    all_known [] rising within = tt
    all_known (x ∷ rows) rising within = (
      known_at x.index x refl (within x.index x (found_first x rows x.index (grind (arith, nat_tests)))),
      all_known rows rising.1 (λ i row here. within i row (passed_over x rows i (apart i row here (nat_eq x.index i) refl) ∙ here)),
    )
      where
        apart : (i : ℕ) (row : Row Channel) → row_in rows i ≡ Some row → (t : Bool) → nat_eq x.index i ≡ t → nat_eq x.index i ≡ false
        apart i row here false other = other
        apart i row here true same =
            let low : i ≤ x.index = grind (arith, nat_tests) in
            let none = not_in rows x.index i rising.0 low in
            absurd (cc)

    pub accepting_are : Rising all → AreAccepting settings frame journal (filter_map kept all)
    accepting_are rising =
        let known = all_known all rising (λ i row here. here) in
        let valid = valid_rows_kept all rising journal is in
        record {
          all = all_are all ∙ ap (filter accepted) valid;
          on = on_are all known ∙ ap (filter both) valid;
          firings = firings_are all known ∙ ap (λ xs. fires (filter both xs)) valid;
        }
