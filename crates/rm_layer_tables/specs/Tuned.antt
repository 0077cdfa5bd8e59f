-- The protocols that are on after a journal are on by the events that a row sees.
use Rattle.std.proofs.Common.{ℕ, Bool, sym, ◌∙◌}
use Rattle.rm_model.specs.Counting.{Counting}
use Rattle.rm_model.specs.Journal.{Journal}
use Rattle.rm_layers.specs.Applications.{Slots}
use Rattle.rm_layers.specs.Upper.{AreTuned}
use Rattle.rm_layer_events.proofs.SideLemmas.{on_after}
use Rattle.rm_layer_tables.specs.Layer.{Layer, NamesFew, side_of}
use Rattle.rm_layer_tables.specs.Held.{seen_events}
use Rattle.rm_layer_tables.specs.LayerLaws.{is_side_of}
use Rattle.rm_layer_tables.specs.Standing.{AreOn}

pub tuned_for : {K G : Type 0} (layer : Layer K G) (few : NamesFew layer) (eq : K → K → Bool) (settings : Counting) (row : ℕ) (journal : Journal) (slots : Slots)
    → AreOn layer.kind slots journal → AreTuned slots (seen_events layer eq settings journal row)
tuned_for layer few eq settings row journal slots on = record { tuned = λ p. on.on p ∙ sym (on_after (side_of layer settings row) (is_side_of layer few settings row) p journal); apart = on.apart }
