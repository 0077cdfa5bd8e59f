-- What is kept of events in an act that fires them.
use Rattle.std.proofs.Common.{◌≡◌, ℕ, List, [], ◌∷◌, ◌++◌, Bool, true, false, cond, Option, Some, None, refl, sym, ap, ◌∙◌, subst, nat_eq}
use Rattle.std.specs.Prelude.{pos, unwrap_or}
use Rattle.std.specs.Option.{option_and_then}
use Rattle.rm_val.specs.Val.{Val, int, octets}
use Rattle.rm_model.specs.Counting.{Counting}
use Rattle.rm_model.specs.Journal.{Act, Journal, moment_of}
use Rattle.rm_model.specs.ControlTable.{default_of}
use Rattle.rm_model.specs.ControlRows.{no_rows, is_valid, is_absent}
use Rattle.rm_model.specs.declared.row.State.{State}
use Rattle.rm_model.specs.declared.row.State.TheVariants.{Absent, UnderCreation, Valid}
use Rattle.rm_status.specs.declared.row.Row.{Row}
use Rattle.rm_status.specs.Rows.{state_in, columns_in}
use Rattle.rm_status.specs.RowsAfter.{AreRowsAfter}
use Rattle.rm_acts.specs.declared.firing.Firing.{Firing}
use Rattle.rm_event.specs.declared.event_type.EventType.{EventType}
use Rattle.rm_event.specs.declared.event_type.EventType.TheVariants as kind
use Rattle.rm_event.specs.declared.fired.Fired.TheVariants as fired
use Rattle.rm_event.specs.declared.log.Log.{Log}
use Rattle.rm_pool.specs.declared.slot.Slot.{Slot}
use Rattle.rm_columns.specs.Numbering.{variant}
use Rattle.rm_event.specs.EventType.{numbering, number_of, type_in, fired_as}
use Rattle.rm_event.specs.EventTable.{event_table, event_state, event_set, type_of}
use Rattle.rm_event.specs.declared.event_row.EventRow.{EventRow}
use Rattle.rm_event.specs.EventRows.{set_to}
use Rattle.rm_acts.specs.Fired.{firings, firings_with, moments_in}
use Rattle.rm_acts.specs.Fired.{is_set}
use Rattle.rm_event.specs.Log.{IsLog, HasFired}
use Rattle.rm_pool.specs.Slots.{part_in}
use Rattle.rm_event.specs.Standing.{IsLogOf, AreLogs, fired_of, community_of}
use Rattle.rm_pool.proofs.Spares.{eq_is, eq_itself}
use Rattle.rm_status.proofs.RowFacts.{valid_there, valid_columns}
use Rattle.rm_event.specs.Moments.{moments_more, valid_with, idle_with}

type_again : (type : EventType) → variant numbering (number_of type) ≡ type
type_again kind.None = refl
type_again kind.Log = refl
type_again kind.SnmpTrap = refl
type_again kind.LogAndTrap = refl

-- what the columns of a row show that there is
module _ (rows : List (Row EventRow)) (journal : Journal) (is : AreRowsAfter event_table no_rows set_to rows journal) (index : ℕ) where
  module _ (columns : EventRow) (has : columns_in rows index ≡ Some columns) (there : is_absent (state_in rows index) ≡ false) where
    abbrev shows : ℕ → Option EventRow → Val
    shows n o = unwrap_or (option_and_then (λ c. set_to c n) o) (default_of event_table n)

    pub description_is : octets columns.description.items ≡ event_set journal (index ∷ []) 2
    description_is = ap (shows 2) (sym has) ∙ (is.alike.columns index there).0.shown

    pub type_shown_is : int (pos (number_of columns.event_type)) ≡ event_set journal (index ∷ []) 3
    type_shown_is = ap (shows 3) (sym has) ∙ (is.alike.columns index there).1.0.shown

    pub type_is : columns.event_type ≡ type_of journal index
    type_is = sym (type_again columns.event_type) ∙ ap type_in type_shown_is

    pub community_is : octets columns.community.items ≡ event_set journal (index ∷ []) 4
    community_is = ap (shows 4) (sym has) ∙ (is.alike.columns index there).1.1.0.shown

    pub owner_is : octets columns.owner.items ≡ event_set journal (index ∷ []) 6
    owner_is = ap (shows 6) (sym has) ∙ (is.alike.columns index there).1.1.1.0.shown

-- the type of a valid row
pub valid_type_is : (rows : List (Row EventRow)) (journal : Journal) (index : ℕ) (type : EventType) → AreRowsAfter event_table no_rows set_to rows journal → is_valid (state_in rows index) ≡ true → ((columns : EventRow) → columns_in rows index ≡ Some columns → type ≡ columns.event_type) → type ≡ type_of journal index
valid_type_is rows journal index type is valid its =
    let has = valid_columns rows index valid in
    its has.0 has.1 ∙ type_is rows journal is index has.0 has.1 (valid_there (state_in rows index) valid)

-- where there is no row, nothing is shown of it
pub no_community : (rows : List (Row EventRow)) (journal : Journal) (index : ℕ) → AreRowsAfter event_table no_rows set_to rows journal → state_in rows index ≡ Absent → ◌≡◌ {A = Option Val} None (community_of journal index)
no_community rows journal index is absent = sym (ap (λ s. cond (is_absent s) None (Some (event_set journal (index ∷ []) 4))) (sym (is.alike.states index) ∙ absent))

pub some_community : (rows : List (Row EventRow)) (journal : Journal) (index : ℕ) (columns : EventRow) → AreRowsAfter event_table no_rows set_to rows journal → columns_in rows index ≡ Some columns → is_absent (state_in rows index) ≡ false → ◌≡◌ {A = Option Val} (Some (octets columns.community.items)) (community_of journal index)
some_community rows journal index columns is has there =
    ap Some (community_is rows journal is index columns has there)
    ∙ sym (ap (λ b. cond b None (Some (event_set journal (index ∷ []) 4))) (ap is_absent (sym (is.alike.states index)) ∙ there))

-- what becomes of an event that is to fire
pub fires_as : (state : State) (type : EventType) → is_valid state ≡ true → fired_as type ≡ fired_of state type
fires_as Absent type valid = absurd (cc)
fires_as UnderCreation type valid = absurd (cc)
fires_as Valid type valid = refl

pub doesnt_fire : (state : State) (type : EventType) → is_valid state ≡ false → fired.Absent ≡ fired_of state type
doesnt_fire Absent type idle = refl
doesnt_fire UnderCreation type idle = refl
doesnt_fire Valid type idle = absurd (cc)

-- One event more that an act fires.
module _ (settings : Counting) (act : Act) (earlier : Journal) (unset : is_set act ≡ false) (some : List Firing) (index : ℕ) (channel : Option ℕ) where
  abbrev firing : Firing
  firing = record { event = index; channel = channel }

  abbrev so_far : ℕ → List ℕ
  so_far event = firings_with act earlier event some (firings settings earlier event)

  abbrev with_it : ℕ → List ℕ
  with_it event = firings_with act earlier event (some ++ firing ∷ []) (firings settings earlier event)

  more : (event : ℕ) → is_valid (event_state earlier (event ∷ [])) ≡ true → with_it event ≡ cond (nat_eq index event) (moment_of act ∷ so_far event) (so_far event)
  more event valid =
      let before : List ℕ = firings settings earlier event in
      valid_with act earlier unset event (some ++ firing ∷ []) before valid
      ∙ ap (λ l. l ++ before) (moments_more (moment_of act) event some firing)
      ∙ spread (nat_eq index event) (moments_in (moment_of act) event some) before
      ∙ sym (ap (λ l. cond (nat_eq index event) (moment_of act ∷ l) l) (valid_with act earlier unset event some before valid))
    where
      spread : (t : Bool) (l before : List ℕ) → cond t (moment_of act ∷ l) l ++ before ≡ cond t (moment_of act ∷ (l ++ before)) (l ++ before)
      spread true l before = refl
      spread false l before = refl

  -- another event, and one whose row isn't valid, fires no more often than before
  other_with : (event : ℕ) → nat_eq index event ≡ false → with_it event ≡ so_far event
  other_with event apart = elim (is_valid (event_state earlier (event ∷ []))) as (λ t. is_valid (event_state earlier (event ∷ [])) ≡ t → with_it event ≡ so_far event) [
    | true ↦ λ valid. more event valid ∙ ap (λ t. cond t (moment_of act ∷ so_far event) (so_far event)) apart
    | false ↦ λ idle. still event idle
  ] refl
    where
      still : (event : ℕ) → is_valid (event_state earlier (event ∷ [])) ≡ false → with_it event ≡ so_far event
      still event idle = idle_with act earlier unset event (some ++ firing ∷ []) (firings settings earlier event) idle ∙ sym (idle_with act earlier unset event some (firings settings earlier event) idle)

  idle_still : (event : ℕ) → is_valid (event_state earlier (event ∷ [])) ≡ false → with_it event ≡ so_far event
  idle_still event idle = idle_with act earlier unset event (some ++ firing ∷ []) (firings settings earlier event) idle ∙ sym (idle_with act earlier unset event some (firings settings earlier event) idle)

  -- an event whose row isn't valid is to fire
  pub logs_without : (logs : List (Slot Log)) → is_valid (event_state earlier (index ∷ [])) ≡ false → AreLogs logs earlier so_far → AreLogs logs earlier with_it
  logs_without logs idle are event =
      subst (λ l. IsLogOf (event_state earlier (event ∷ [])) (type_of earlier event) l (part_in logs event)) (sym same) (are event)
    where
      same : with_it event ≡ so_far event
      same = elim (nat_eq index event) as (λ t. nat_eq index event ≡ t → with_it event ≡ so_far event) [
        | true ↦ λ e. idle_still event (subst (λ n. is_valid (event_state earlier (n ∷ [])) ≡ false) (eq_is index event e) idle)
        | false ↦ λ apart. other_with event apart
      ] refl

  -- an event whose row is valid fires
  module _ (logs new : List (Slot Log)) (type : EventType) (moment : ℕ) (at : moment_of act ≡ moment) (valid : is_valid (event_state earlier (index ∷ [])) ≡ true) (type_is : type ≡ type_of earlier index)
      (itself : (log : Log) → part_in logs index ≡ Some log → (fired : Log) × (part_in new index ≡ Some fired) × HasFired type moment log fired)
      (others : (event : ℕ) → nat_eq index event ≡ false → part_in new event ≡ part_in logs event)
      (are : AreLogs logs earlier so_far) where
    has_fired : (o : Option Log) → part_in logs index ≡ o → IsLogOf (event_state earlier (index ∷ [])) (type_of earlier index) (so_far index) o → IsLogOf (event_state earlier (index ∷ [])) (type_of earlier index) (with_it index) (part_in new index)
    has_fired None here idle = absurd (both idle)
      where
        both : is_valid (event_state earlier (index ∷ [])) ≡ false → ⊥
        both idle = let one = sym valid ∙ idle in cc
    has_fired (Some log) here is =
        let after = itself log here in
        let log_is : IsLog after.0 type (moment ∷ so_far index) = after.2 (so_far index) (subst (λ k. IsLog log k (so_far index)) (sym type_is) is.1) in
        let moments : moment ∷ so_far index ≡ with_it index = ap (λ m. m ∷ so_far index) (sym at) ∙ sym (more index valid ∙ ap (λ t. cond t (moment_of act ∷ so_far index) (so_far index)) (itself_is index)) in
        subst (λ (o : Option Log). IsLogOf (event_state earlier (index ∷ [])) (type_of earlier index) (with_it index) o) (sym after.1)
        (valid, subst (λ l. IsLog after.0 (type_of earlier index) l) moments (subst (λ k. IsLog after.0 k (moment ∷ so_far index)) type_is log_is))
      where
        itself_is : (n : ℕ) → nat_eq n n ≡ true
        itself_is n = eq_itself n

    pub logs_with : AreLogs new earlier with_it
    logs_with event = elim (nat_eq index event) as (λ t. nat_eq index event ≡ t → IsLogOf (event_state earlier (event ∷ [])) (type_of earlier event) (with_it event) (part_in new event)) [
      | true ↦ λ e.
          let same : index ≡ event = eq_is index event e in
          subst (λ n. IsLogOf (event_state earlier (n ∷ [])) (type_of earlier n) (with_it n) (part_in new n)) same (has_fired (part_in logs index) refl (are index))
      | false ↦ λ apart.
          subst (λ l. IsLogOf (event_state earlier (event ∷ [])) (type_of earlier event) l (part_in new event)) (sym (other_with event apart))
          (subst (λ (o : Option Log). IsLogOf (event_state earlier (event ∷ [])) (type_of earlier event) (so_far event) o) (sym (others event apart)) (are event))
    ] refl
