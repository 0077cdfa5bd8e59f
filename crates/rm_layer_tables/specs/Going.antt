-- The rows of a control row after one more act.
use Rattle.std.proofs.Common.{◌≡◌, ℕ, Bool, cond, not, ◌&&◌, List, [], ◌∷◌, ◌++◌, Option, refl, sym, ap, ◌∙◌, subst}
use Rattle.std.specs.Prelude.{ℤ}
use Rattle.rm_model.specs.Counting.{Counting}
use Rattle.rm_model.specs.Journal.{Act, Assignments, Frame, Journal, passes, assigns, samples}
use Rattle.rm_model.specs.ControlRows.{is_valid}
use Rattle.rm_model.specs.declared.row.State.TheVariants.{Valid}
use Rattle.rm_collect.specs.Rows.{GoesOn}
use Rattle.rm_layers.specs.Applications.{Slots}
use Rattle.rm_layers.specs.Capacity.{capacity}
use Rattle.rm_layers.specs.Event.{Event, begins}
use Rattle.rm_layer_events.specs.Side.{IsSteady, begun}
use Rattle.rm_layer_slots.specs.declared.slots.TableKind.{TableKind}
use Rattle.rm_layer_slots.proofs.SteadyLemmas.{on_steady, ip_steady}
use Rattle.rm_upper.specs.LayerTable.{LayerTable}
use Rattle.rm_upper.specs.Standing.{StandsFor}
use Rattle.rm_upper.specs.Tally.{Tally}
use Rattle.rm_layer_tables.specs.Control.{layer_control, control_state, bound_of, is_active, room_for}
use Rattle.rm_layer_tables.specs.Held.{seen_events}
use Rattle.rm_layer_tables.specs.Layer.{Layer, side_of, names_of}
use Rattle.rm_layer_tables.specs.Shared.{AreShared}
use Rattle.rm_layer_tables.specs.Standing.{AreOn, IsHeld, HasBegun}
use Rattle.rm_layer_tables.specs.declared.shared.LayerShared.{LayerShared}

-- an act that isn't a Set turns nothing
pub on_still : (kind : TableKind) (act : Act) (journal : Journal) (slots : Slots) → IsSteady act → AreOn kind slots journal → AreOn kind slots (act ∷ journal)
on_still kind act journal slots steady on = record { on = λ protocol. on.on protocol ∙ sym (on_steady kind protocol act journal steady); apart = on.apart }

module _ {K N A : Type 0} (layer : Layer K N) (tally : Tally N A) (eq : K → K → Bool) (settings : Counting) where
  -- A frame turns nothing, and makes no difference to how many rows there is room for.
  pub passed_on : (row : ℕ) (journal : Journal) (frame : Frame) (old new : LayerTable K N A) → IsHeld layer tally eq settings journal row old → new.layered.table.capacity ≡ old.layered.table.capacity
      → new.on ≡ old.on → new.layered.slots ≡ old.layered.slots → StandsFor tally eq (seen_events layer eq settings (passes frame ∷ journal) row) new.layered
      → IsHeld layer tally eq settings (passes frame ∷ journal) row new
  passed_on row journal frame old new is capacity on slots stands = record {
    capacity = capacity ∙ is.capacity;
    on = on ∙ is.on ∙ sym (ip_steady layer.kind (passes frame) journal tt);
    slots = rw slots (on_still layer.kind (passes frame) journal _ tt is.slots);
    stands = stands;
  }

  -- one that names nothing makes no difference at all
  pub unnamed : (row : ℕ) (journal : Journal) (frame : Frame) (table : LayerTable K N A) → names_of layer settings row frame journal ≡ [] → IsHeld layer tally eq settings journal row table
      → IsHeld layer tally eq settings (passes frame ∷ journal) row table
  unnamed row journal frame table none is = passed_on row journal frame table table is refl refl refl (rw none is.stands)

  -- nor does a sample
  pub sampled : (row : ℕ) (journal : Journal) (moment alarm : ℕ) (reading : Option ℤ) (table : LayerTable K N A) → IsHeld layer tally eq settings journal row table
      → IsHeld layer tally eq settings (samples moment alarm reading ∷ journal) row table
  sampled row journal moment alarm reading table is = record {
    capacity = is.capacity;
    on = is.on ∙ sym (ip_steady layer.kind (samples moment alarm reading) journal tt);
    slots = on_still layer.kind (samples moment alarm reading) journal _ tt is.slots;
    stands = is.stands;
  }

  -- a Set over which the row goes on, before what the Set turns is turned
  module _ (moment : ℕ) (values : Assignments) (earlier : Journal) (row : ℕ) (table : LayerTable K N A) (valid : control_state layer.control earlier row ≡ Valid)
      (going : GoesOn (layer_control layer.control) row earlier (assigns moment values ∷ earlier)) (is : IsHeld layer tally eq settings earlier row table) where
    abbrev act : Act
    act = assigns moment values

    same_room : room_for layer.control earlier row settings ≡ room_for layer.control (act ∷ earlier) row settings
    same_room = λ d. capacity settings.upper (bound_of (sym (going.set 6 refl refl) d)) (bound_of (sym (going.set 10 refl refl) d))

    not_begun : begun (side_of layer settings row) act earlier ≡ []
    not_begun = ap (λ b. cond (not b && is_active layer.control (act ∷ earlier) row) (begins ∷ []) []) (ap is_valid valid)

    pub going_on : HasBegun layer tally eq settings act earlier row table
    going_on = record {
      capacity = is.capacity ∙ same_room;
      on = is.on;
      slots = is.slots;
      stands = subst (λ (some : List (Event K N)). StandsFor tally eq (some ++ seen_events layer eq settings earlier row) table.layered) (sym not_begun) is.stands;
    }

-- what rows share stands over an act that isn't a Set
pub shared_still : (kind : TableKind) (act : Act) (settings : Counting) (journal : Journal) (shared : LayerShared) → IsSteady act → AreShared kind shared settings journal → AreShared kind shared settings (act ∷ journal)
shared_still kind act settings journal shared steady are = record {
  upper = are.upper;
  on = are.on ∙ sym (ip_steady kind act journal steady);
  slots = on_still kind act journal shared.slots steady are.slots;
}
