-- That the events take an act step by step.
use Rattle.std.proofs.Common.{◌≡◌, false, sym, subst, [], ◌∷◌}
use Rattle.rm_model.specs.Counting.{Counting}
use Rattle.rm_model.specs.Journal.{Act, Journal}
use Rattle.rm_event.specs.declared.events.Events.{Events}
use Rattle.rm_event.specs.EventTable.{event_state, type_of}
use Rattle.rm_acts.specs.Fired.{act_fires, fired, firings}
use Rattle.rm_acts.specs.Fired.{is_set}
use Rattle.rm_pool.specs.Slots.{part_in}
use Rattle.rm_event.specs.Standing.{Stands, IsUnderWay, IsLogOf}
use Rattle.rm_event.specs.Moments.{nothing_with, same_state, same_type, same_rows_after}

module _ (events : Events) (settings : Counting) (act : Act) (earlier : Journal) (unset : is_set act ≡ false) where
  pub begun : Stands events settings earlier → IsUnderWay events settings act earlier []
  begun stands = record {
    rows = stands.rows;
    logs = λ event.
        subst (λ l. IsLogOf (event_state earlier (event ∷ [])) (type_of earlier event) l (part_in events.logs event)) (sym (nothing_with settings act earlier event unset)) (stands.logs event);
  }

  pub ended : IsUnderWay events settings act earlier (act_fires settings act earlier (fired settings earlier)) → Stands events settings (act ∷ earlier)
  ended under = record {
    rows = same_rows_after events.rows act earlier unset under.rows;
    logs = λ event.
        subst (λ s. IsLogOf s (type_of (act ∷ earlier) event) (firings settings (act ∷ earlier) event) (part_in events.logs event)) (sym (same_state act earlier (event ∷ []) unset))
        (subst (λ k. IsLogOf (event_state earlier (event ∷ [])) k (firings settings (act ∷ earlier) event) (part_in events.logs event)) (sym (same_type act earlier event unset)) (under.logs event));
  }
