-- The moments of firings after an act.
use Rattle.std.proofs.Common.{◌≡◌, ℕ, List, [], ◌∷◌, ◌++◌, Bool, true, false, cond, ◌&&◌, Some, None, refl, sym, ap, ◌∙◌, nat_eq}
use Rattle.std.specs.Prelude.{map, filter}
use Rattle.std.proofs.Math.Bool.{and-false, and_self}
use Rattle.rm_model.specs.Counting.{Counting}
use Rattle.rm_model.specs.Journal.{Act, passes, assigns, samples, Journal, moment_of}
use Rattle.rm_model.specs.ControlRows.{no_rows, is_valid, stays_valid}
use Rattle.rm_status.specs.RowsAfter.{AreRowsAfter}
use Rattle.rm_status.specs.declared.row.Row.{Row}
use Rattle.rm_acts.specs.declared.firing.Firing.{Firing}
use Rattle.rm_event.specs.EventTable.{event_table, event_state, type_of}
use Rattle.rm_event.specs.declared.event_row.EventRow.{EventRow}
use Rattle.rm_event.specs.EventRows.{set_to}
use Rattle.rm_acts.specs.Fired.{act_fires, fired, moments_in, firings, firings_with}
use Rattle.rm_acts.specs.Fired.{is_set}

-- one event more that fires
pub moments_more : (moment event : ℕ) (some : List Firing) (index : Firing) → moments_in moment event (some ++ index ∷ []) ≡ cond (nat_eq index.event event) (moment ∷ moments_in moment event some) (moments_in moment event some)
moments_more moment event [] index =
    elim (nat_eq index.event event) as (λ t. map (λ (each : Firing). moment) (cond t (index ∷ []) []) ≡ cond t (moment ∷ []) []) [ true ↦ refl | false ↦ refl ]
moments_more moment event (x ∷ some) index =
    elim (nat_eq x.event event) as (λ t. map (λ (each : Firing). moment) (cond t (x ∷ filter (λ other. nat_eq other.event event) (some ++ index ∷ [])) (filter (λ other. nat_eq other.event event) (some ++ index ∷ []))) ≡ cond (nat_eq index.event event) (moment ∷ map (λ (each : Firing). moment) (cond t (x ∷ filter (λ other. nat_eq other.event event) some) (filter (λ other. nat_eq other.event event) some))) (map (λ (each : Firing). moment) (cond t (x ∷ filter (λ other. nat_eq other.event event) some) (filter (λ other. nat_eq other.event event) some)))) [
      | true ↦ ap (λ l. moment ∷ l) (moments_more moment event some index) ∙ both (nat_eq index.event event)
      | false ↦ moments_more moment event some index
    ]
  where
    both : (t : Bool) → moment ∷ cond t (moment ∷ moments_in moment event some) (moments_in moment event some) ≡ cond t (moment ∷ moment ∷ moments_in moment event some) (moment ∷ moments_in moment event some)
    both true = refl
    both false = refl

-- an act that is no Set leaves the rows
pub same_state : (act : Act) (earlier : Journal) (index : List ℕ) → is_set act ≡ false → event_state (act ∷ earlier) index ≡ event_state earlier index
same_state (passes frame) earlier index unset = refl
same_state (assigns moment values) earlier index unset = absurd (cc)
same_state (samples moment alarm None) earlier index unset = refl
same_state (samples moment alarm (Some reading)) earlier index unset = refl

pub same_type : (act : Act) (earlier : Journal) (event : ℕ) → is_set act ≡ false → type_of (act ∷ earlier) event ≡ type_of earlier event
same_type (passes frame) earlier event unset = refl
same_type (assigns moment values) earlier event unset = absurd (cc)
same_type (samples moment alarm reading) earlier event unset = refl

pub same_rows_after : (rows : List (Row EventRow)) (act : Act) (earlier : Journal) → is_set act ≡ false → AreRowsAfter event_table no_rows set_to rows earlier → AreRowsAfter event_table no_rows set_to rows (act ∷ earlier)
same_rows_after rows (passes frame) earlier unset is = record { alike = record { states = is.alike.states; columns = is.alike.columns }; others = is.others }
same_rows_after rows (assigns moment values) earlier unset is = absurd (cc)
same_rows_after rows (samples moment alarm None) earlier unset is = record { alike = record { states = is.alike.states; columns = is.alike.columns }; others = is.others }
same_rows_after rows (samples moment alarm (Some reading)) earlier unset is = record { alike = record { states = is.alike.states; columns = is.alike.columns }; others = is.others }

pub stays_as : (act : Act) (earlier : Journal) (index : List ℕ) → is_set act ≡ false → stays_valid event_table no_rows act earlier index ≡ is_valid (event_state earlier index)
stays_as act earlier index unset = ap (λ s. is_valid (event_state earlier index) && is_valid s) (same_state act earlier index unset) ∙ and_self (is_valid (event_state earlier index))

-- an event whose row isn't valid hasn't fired
pub idle_firings : (settings : Counting) (journal : Journal) (event : ℕ) → is_valid (event_state journal (event ∷ [])) ≡ false → firings settings journal event ≡ []
idle_firings settings [] event idle = refl
idle_firings settings (act ∷ earlier) event idle =
    ap (λ b. cond b (moments_in (moment_of act) event (act_fires settings act earlier (fired settings earlier)) ++ firings settings earlier event) [])
    (ap (λ b. is_valid (event_state earlier (event ∷ [])) && b) idle ∙ and-false (is_valid (event_state earlier (event ∷ []))))

-- the firings in an act that is no Set, of an event whose row is valid, and of any other one
module _ (act : Act) (earlier : Journal) (unset : is_set act ≡ false) (event : ℕ) (some : List Firing) (before : List ℕ) where
  pub valid_with : is_valid (event_state earlier (event ∷ [])) ≡ true → firings_with act earlier event some before ≡ moments_in (moment_of act) event some ++ before
  valid_with valid = ap (λ b. cond b (moments_in (moment_of act) event some ++ before) []) (stays_as act earlier (event ∷ []) unset ∙ valid)

  pub idle_with : is_valid (event_state earlier (event ∷ [])) ≡ false → firings_with act earlier event some before ≡ []
  idle_with idle = ap (λ b. cond b (moments_in (moment_of act) event some ++ before) []) (stays_as act earlier (event ∷ []) unset ∙ idle)

-- before an act has fired any event
pub nothing_with : (settings : Counting) (act : Act) (earlier : Journal) (event : ℕ) → is_set act ≡ false → firings_with act earlier event [] (firings settings earlier event) ≡ firings settings earlier event
nothing_with settings act earlier event unset =
    elim (is_valid (event_state earlier (event ∷ []))) as (λ t. is_valid (event_state earlier (event ∷ [])) ≡ t → firings_with act earlier event [] (firings settings earlier event) ≡ firings settings earlier event) [
      | true ↦ λ valid. valid_with act earlier unset event [] (firings settings earlier event) valid
      | false ↦ λ idle. idle_with act earlier unset event [] (firings settings earlier event) idle ∙ sym (idle_firings settings earlier event idle)
    ] refl
