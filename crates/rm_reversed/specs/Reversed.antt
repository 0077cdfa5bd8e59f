-- Events, sides, rows and tables with each key replaced by another.
use Rattle.std.specs.Prelude.{List, [], ◌∷◌, map}
use Rattle.rm_evicting.specs.declared.Row.{Row}
use Rattle.rm_layers.specs.Event.{Event, names, turns, turns_ip, begins}
use Rattle.rm_layer_events.specs.Side.{Reference, Side}
use Rattle.rm_upper.specs.LayerTable.{LayerTable}
use Rattle.rm_upper.specs.Standing.{Layered}

module _ {K G : Type 0} (to : K → K) where
  abbrev pub reversed_events : List (Event K G) → List (Event K G)
  reversed_events [] = []
  reversed_events (names key brings ∷ earlier) = names (to key) brings ∷ reversed_events earlier
  reversed_events (turns protocol stamp on ∷ earlier) = turns protocol stamp on ∷ reversed_events earlier
  reversed_events (turns_ip on ∷ earlier) = turns_ip on ∷ reversed_events earlier
  reversed_events (begins ∷ earlier) = begins ∷ reversed_events earlier

  abbrev pub reversed_reference : Reference K G → Reference K G
  reversed_reference reference = record reference { key = to reference.key }

  -- the side whose frames refer to the other keys
  abbrev pub reversed_side : Side K G → Side K G
  reversed_side side = record side { references = λ frame journal. map reversed_reference (side.references frame journal) }

module _ {K : Type 0} (to : K → K) where
  abbrev pub reversed_row : {V : Type 0} → Row K V → Row K V
  reversed_row row = record row { key = to row.key }

  -- the rows in their order
  abbrev pub reversed_rows : {V : Type 0} → List (Row K V) → List (Row K V)
  reversed_rows rows = map reversed_row rows

  abbrev pub reversed_layered : {N A : Type 0} → Layered K N A → Layered K N A
  reversed_layered layered = record layered {
    table = record { room = layered.table.room; capacity = layered.table.capacity; rows = reversed_rows layered.table.rows };
  }

  abbrev pub reversed_table : {N A : Type 0} → LayerTable K N A → LayerTable K N A
  reversed_table table = record table { layered = reversed_layered table.layered }
