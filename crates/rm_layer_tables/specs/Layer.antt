-- What the frames of a data source name to a row of hlHostControl, or of hlMatrixControl.
use Rattle.std.specs.Prelude.{ℕ, ◌/◌, ◌≤◌, List, [], length, ◌&&◌, nat_eq, filter, map, if◌then◌else◌, Option, Some, None}
use Rattle.rm_model.specs.Counting.{Counting}
use Rattle.rm_model.specs.Journal.{Frame, Journal}
use Rattle.rm_model.specs.FrameFacts.{frame_facts}
use Rattle.rm_model.specs.Interfaces.{is_interface}
use Rattle.rm_proto.specs.declared.datagram.IpPair.{IpPair}
use Rattle.rm_proto.specs.declared.known.Facts.{Facts}
use Rattle.rm_path.specs.Identifier.{is_above_ip}
use Rattle.rm_dir.specs.DirectoryIndex.{index_with}
use Rattle.rm_dir.specs.LocalIndexes.{local_index}
use Rattle.rm_dir.specs.Paths.{path_after}
use Rattle.rm_layer_events.specs.Side.{Reference, Side}
use Rattle.rm_layer_slots.specs.declared.slots.TableKind.{TableKind}
use Rattle.rm_layer_slots.specs.On.{is_on, is_ip_on, locals_on}
use Rattle.rm_layer_tables.specs.Control.{is_active, control_set}

-- What tables of the network and application layer count: for the rows of the control table with this entry; as tables of hosts or of pairs of
-- hosts, by which the directory turns protocols on and off; and what a good frame with these addresses names, and counts for it.
pub record Layer (K G : Type 0) : Type 0 where
  pub control : List ℕ
  pub kind : TableKind
  pub named : Facts → IpPair → List (K × G)

-- the local indexes of the protocols above ip on the path of a frame with these facts, which passes after a journal
abbrev pub locals_above_ip : Journal → Facts → List ℕ
locals_above_ip journal facts = map (λ protocol. local_index journal (index_with protocol)) (filter is_above_ip (path_after journal facts))

-- the addresses by which a frame counts for a control row whose data source is an interface: those of a good frame of that interface
abbrev pub ends_for : (source : ℕ) → Facts → Option IpPair
ends_for source facts = if facts.good && nat_eq source facts.interface then facts.ip else None

module _ {K G : Type 0} where
  -- each key that was named, with this path at this tick
  abbrev pub references_to : (tick : ℕ) (path : List ℕ) → List (K × G) → List (Reference K G)
  references_to tick path named = map (λ one. record { key = one.0; tick = tick; path = path; gain = one.1 }) named

  module _ (layer : Layer K G) where
    -- what a frame names by its addresses, if it has some
    abbrev pub named_by : Facts → Option IpPair → List (K × G)
    named_by facts None = []
    named_by facts (Some pair) = layer.named facts pair

    module _ (settings : Counting) (row : ℕ) where
      -- what a frame names to a row: nothing where the frame isn't good, or isn't of the row's data source
      abbrev pub names_of : Frame → Journal → List (Reference K G)
      names_of frame journal =
          let facts = frame_facts settings frame in
          if facts.good && is_interface (control_set layer.control journal row 2) facts.interface
          then references_to (frame.moment / 10) (locals_above_ip journal facts) (named_by facts facts.ip)
          else []

      -- what the row sees of a journal: ip, and the protocols above it, are on where their rows in the directory say so
      abbrev pub side_of : Side K G
      side_of = record {
        references = names_of;
        is_active = λ journal. is_active layer.control journal row;
        is_ip_on = is_ip_on layer.kind;
        is_on = is_on layer.kind;
        protocols = locals_on layer.kind;
      }

    -- a frame names two keys at most
    abbrev pub NamesFew : Type 0
    NamesFew = (facts : Facts) (pair : IpPair) → length (layer.named facts pair) ≤ 2
