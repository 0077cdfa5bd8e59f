-- What is on after a journal is on by the events that a row sees.
use Rattle.std.proofs.Common.{ℕ, List, ◌∷◌, ◌++◌, Option, sym, ◌∙◌}
use Rattle.rm_model.specs.Counting.{Counting}
use Rattle.rm_model.specs.Journal.{Act, Journal}
use Rattle.rm_path.specs.declared.protocol.Protocol.{Protocol}
use Rattle.rm_path.specs.Slots.{HaveSlots}
use Rattle.rm_dir.specs.Paths.{AreActiveAfter}
use Rattle.rm_layers.specs.Applications.{Slots}
use Rattle.rm_layers.specs.Upper.{AreTuned}
use Rattle.rm_layer_events.specs.Side.{turned, besides}
use Rattle.rm_layer_events.proofs.SideLemmas.{set_on, besides_after}
use Rattle.rm_layer_slots.specs.declared.slots.TableKind.{TableKind}
use Rattle.rm_layer_slots.specs.On.{slots_on}
use Rattle.rm_layer_slots.proofs.OnLemmas.{tuned_after}
use Rattle.rm_layer_slots.proofs.ApartLemmas.{apart_on}
use Rattle.rm_layer_tables.specs.Layer.{Layer, NamesFew, side_of}
use Rattle.rm_layer_tables.specs.LayerLaws.{is_side_of}
use Rattle.rm_layer_tables.specs.Standing.{AreOn}

-- those that are active have their slots
pub by_slots : (kind : TableKind) (journal : Journal) (slots : List (Option Protocol)) → AreActiveAfter journal slots → HaveSlots slots → AreOn kind (slots_on kind slots) journal
by_slots kind journal slots active have = record { on = tuned_after kind journal slots active; apart = apart_on kind journal slots active.known have.apart }

module _ {K G : Type 0} (layer : Layer K G) (few : NamesFew layer) (settings : Counting) (row : ℕ) where
  pub tuned_before : (act : Act) (earlier : Journal) (slots : Slots) → AreOn layer.kind slots earlier → AreTuned slots (besides (side_of layer settings row) act earlier)
  tuned_before act earlier slots on = record {
    tuned = λ p. on.on p ∙ sym ((besides_after (side_of layer settings row) (is_side_of layer few settings row) act earlier).1 p);
    apart = on.apart;
  }

  pub tuned_then : (act : Act) (earlier : Journal) (slots : Slots) → AreOn layer.kind slots (act ∷ earlier)
      → AreTuned slots (turned (side_of layer settings row) act earlier ++ besides (side_of layer settings row) act earlier)
  tuned_then act earlier slots on = record { tuned = λ p. on.on p ∙ sym (set_on (side_of layer settings row) (is_side_of layer few settings row) act earlier p); apart = on.apart }
