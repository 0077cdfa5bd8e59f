-- How parts hold the rows of control rows, when these are what a journal gives, and what becomes of them by a frame.
use Rattle.std.specs.Prelude.{◌≡◌, ℕ, Bool, ◌+◌, List, ◌∷◌}
use Rattle.rm_val.specs.Val.{name}
use Rattle.rm_proto.specs.declared.known.Facts.{Facts}
use Rattle.rm_model.specs.Counting.{Counting}
use Rattle.rm_model.specs.FrameFacts.{frame_facts}
use Rattle.rm_model.specs.Interfaces.{interface_name}
use Rattle.rm_model.specs.Journal.{Act, Frame, Journal, passes}
use Rattle.rm_upper.specs.LayerTable.{LayerTable}
use Rattle.rm_upper.specs.Tally.{Tally}
use Rattle.rm_layer_events.specs.Side.{next_stamp}
use Rattle.rm_layer_tables.specs.Control.{control_set}
use Rattle.rm_layer_tables.specs.Layer.{Layer, locals_above_ip}
use Rattle.rm_layer_tables.specs.Ready.{IsReady}
use Rattle.rm_layer_tables.specs.Standing.{IsHeld, HasBegun}

-- How parts `P` hold rows: what is counted, how it adds up, and when two keys are one; the interface whose frames a part takes, and the rows that it
-- has.
pub record Holding (P K G A : Type 0) : Type 0 where
  pub layer : Layer K G
  pub tally : Tally G A
  pub eq : K → K → Bool
  pub source_of : P → ℕ
  pub table_of : P → LayerTable K G A

module _ {P K G A : Type 0} (holding : Holding P K G A) where
  -- a part has the data source of a control row, and its rows after a journal
  pub record IsPart (settings : Counting) (journal : Journal) (row : ℕ) (part : P) : Type 0 where
    pub source : name (interface_name (holding.source_of part)) ≡ control_set holding.layer.control journal row 2
    pub held : IsHeld holding.layer holding.tally holding.eq settings journal row (holding.table_of part)

  -- and in the midst of a Set, where what it turns is yet to be turned
  pub record IsBegunPart (settings : Counting) (act : Act) (earlier : Journal) (row : ℕ) (part : P) : Type 0 where
    pub source : name (interface_name (holding.source_of part)) ≡ control_set holding.layer.control (act ∷ earlier) row 2
    pub held : HasBegun holding.layer holding.tally holding.eq settings act earlier row (holding.table_of part)

  -- A part took a frame that has these protocols above ip on its path: it has then the rows with that frame.
  pub record Takes (path : List ℕ) (facts : Facts) (stamp moment : ℕ) (part new : P) : Type 0 where
    pub stands : (settings : Counting) (row : ℕ) (journal : Journal) (frame : Frame) → facts ≡ frame_facts settings frame → stamp ≡ next_stamp journal
        → moment ≡ frame.moment → path ≡ locals_above_ip journal facts → IsPart settings journal row part → IsPart settings (passes frame ∷ journal) row new
    pub ready : IsReady (stamp + 2) moment (holding.table_of new)
