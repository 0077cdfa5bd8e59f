-- What a control row has by keys, it has by these told the other way round.
use Rattle.std.proofs.Common.{◌≡◌, ℕ, ◌/◌, ◌&&◌, Bool, true, false, cond, List, [], ◌∷◌, map, Option, Some, None, refl, sym, ap, subst}
use Rattle.rm_proto.specs.declared.datagram.IpPair.{IpPair}
use Rattle.rm_proto.specs.declared.known.Facts.{Facts}
use Rattle.rm_model.specs.Counting.{Counting}
use Rattle.rm_model.specs.FrameFacts.{frame_facts}
use Rattle.rm_model.specs.Interfaces.{is_interface}
use Rattle.rm_model.specs.Journal.{Frame, Journal}
use Rattle.rm_layers.specs.Event.{Event}
use Rattle.rm_upper.specs.LayerTable.{LayerTable}
use Rattle.rm_upper.specs.Standing.{StandsFor}
use Rattle.rm_upper.specs.Tally.{Tally}
use Rattle.rm_layer_events.specs.Side.{Reference}
use Rattle.rm_reversed.specs.Reversed.{reversed_events, reversed_reference, reversed_layered, reversed_table}
use Rattle.rm_reversed.proofs.SideLemmas.{by_references-of}
use Rattle.rm_reversed.proofs.StandingLemmas.{stands_for-of}
use Rattle.rm_layer_tables.specs.Control.{control_set}
use Rattle.rm_layer_tables.specs.Held.{seen_events}
use Rattle.rm_layer_tables.specs.Layer.{Layer, references_to, locals_above_ip, named_by, names_of, side_of}
use Rattle.rm_layer_tables.specs.Standing.{IsHeld}

module _ {K G : Type 0} (to : K → K) where
  -- what is counted, where each key that a frame names is told the other way round
  abbrev pub reversed_layer : Layer K G → Layer K G
  reversed_layer layer = record { control = layer.control; kind = layer.kind; named = λ facts pair. map (λ one. (to one.0, one.1)) (layer.named facts pair) }

  references-of : (tick : ℕ) (path : List ℕ) (named : List (K × G)) → references_to tick path (map (λ one. (to one.0, one.1)) named) ≡ map (reversed_reference to) (references_to tick path named)
  references-of tick path [] = refl
  references-of tick path (one ∷ named) = ap (λ more. record { key = to one.0; tick = tick; path = path; gain = one.1 } ∷ more) (references-of tick path named)

  module _ (layer : Layer K G) (settings : Counting) (row : ℕ) where
    -- a frame names the same keys to a row, each the other way round
    names-of : (frame : Frame) (journal : Journal) → names_of (reversed_layer layer) settings row frame journal ≡ map (reversed_reference to) (names_of layer settings row frame journal)
    names-of frame journal = by_test (facts.good && is_interface (control_set layer.control journal row 2) facts.interface) facts.ip
      where
        facts : Facts
        facts = frame_facts settings frame

        named : Layer K G → Bool → Option IpPair → List (Reference K G)
        named one counts ip = cond counts (references_to (frame.moment / 10) (locals_above_ip journal facts) (named_by one facts ip)) []

        by_test : (counts : Bool) (ip : Option IpPair) → named (reversed_layer layer) counts ip ≡ map (reversed_reference to) (named layer counts ip)
        by_test false ip = refl
        by_test true None = refl
        by_test true (Some pair) = references-of (frame.moment / 10) (locals_above_ip journal facts) (layer.named facts pair)

    events-of : (eq : K → K → Bool) (journal : Journal) → seen_events (reversed_layer layer) eq settings journal row ≡ reversed_events to (seen_events layer eq settings journal row)
    events-of eq journal = by_references-of to (side_of layer settings row) (names_of (reversed_layer layer) settings row) names-of journal

-- The rows after a journal, with each key told the other way round, are those of what is counted so.
pub held_reversed : {K N A : Type 0} (layer : Layer K N) (tally : Tally N A) (eq : K → K → Bool) (to : K → K) → ((key : K) → to (to key) ≡ key) → ((one other : K) → eq (to one) (to other) ≡ eq one other)
    → (settings : Counting) (journal : Journal) (row : ℕ) (table : LayerTable K N A) → IsHeld layer tally eq settings journal row table
    → IsHeld (reversed_layer to layer) tally eq settings journal row (reversed_table to table)
held_reversed {K} {N} {A} layer tally eq to twice alike settings journal row table is = record {
  capacity = is.capacity;
  on = is.on;
  slots = is.slots;
  stands = subst (λ (events : List (Event K N)). StandsFor tally eq events (reversed_layered to table.layered)) (sym (events-of to layer settings row eq journal))
      (stands_for-of eq to twice alike tally (seen_events layer eq settings journal row) table.layered is.stands);
}
