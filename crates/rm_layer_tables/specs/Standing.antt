-- When what is kept of a control row is what a journal gives.
use Rattle.std.specs.Prelude.{◌≡◌, ℕ, Bool, ◌∷◌, ◌++◌}
use Rattle.rm_model.specs.Counting.{Counting}
use Rattle.rm_model.specs.Journal.{Act, Journal}
use Rattle.rm_layers.specs.Applications.{Slots, has_slot, AreApart}
use Rattle.rm_upper.specs.LayerTable.{LayerTable}
use Rattle.rm_upper.specs.Shown.{protocols}
use Rattle.rm_upper.specs.Standing.{StandsFor}
use Rattle.rm_upper.specs.Tally.{Tally}
use Rattle.rm_layer_events.specs.Side.{begun}
use Rattle.rm_layer_slots.specs.declared.slots.TableKind.{TableKind}
use Rattle.rm_layer_slots.specs.On.{is_on, is_ip_on}
use Rattle.rm_layer_tables.specs.Control.{room_for}
use Rattle.rm_layer_tables.specs.Layer.{Layer, side_of}
use Rattle.rm_layer_tables.specs.Held.{seen_events}

-- each protocol above ip that is on after a journal has a slot, only one, and no other protocol has one
pub record AreOn (kind : TableKind) (slots : Slots) (journal : Journal) : Type 0 where
  pub on : (protocol : ℕ) → has_slot protocol slots ≡ is_on kind protocol journal
  pub apart : AreApart slots

module _ {K G A : Type 0} (layer : Layer K G) (tally : Tally G A) (eq : K → K → Bool) (settings : Counting) where
  -- The rows are those after a journal, as many as there is room for, with the protocols that are on in slots, and with ip on or off.
  pub record IsHeld (journal : Journal) (row : ℕ) (table : LayerTable K G A) : Type 0 where
    pub capacity : table.layered.table.capacity ≡ room_for layer.control journal row settings
    pub on : table.on ≡ is_ip_on layer.kind journal
    pub slots : AreOn layer.kind (protocols table.layered.slots) journal
    pub stands : StandsFor tally eq (seen_events layer eq settings journal row) table.layered

  -- They have begun a Set after a journal: the control row may have become active by it, and what it turns is yet to be turned.
  pub record HasBegun (act : Act) (earlier : Journal) (row : ℕ) (table : LayerTable K G A) : Type 0 where
    pub capacity : table.layered.table.capacity ≡ room_for layer.control (act ∷ earlier) row settings
    pub on : table.on ≡ is_ip_on layer.kind earlier
    pub slots : AreOn layer.kind (protocols table.layered.slots) earlier
    pub stands : StandsFor tally eq (begun (side_of layer settings row) act earlier ++ seen_events layer eq settings earlier row) table.layered
