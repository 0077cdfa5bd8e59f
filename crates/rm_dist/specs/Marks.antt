-- What a row of protocolDistControl counts (RFC 2021, section 6): each good frame of its data source leaves a mark of each protocol on its path.
-- The marks of a row last while it is active, and while the protocol of each is: so a protocol is counted since the later one of when the row
-- became active and when the protocol did.
use Rattle.std.specs.Prelude.{ℕ, List, [], ◌∷◌, ◌++◌, Bool, ◌&&◌, nat_eq, map, filter, if◌then◌else◌}
use Rattle.rm_val.specs.Val.{Val}
use Rattle.rm_proto.specs.declared.known.Facts.{Facts}
use Rattle.rm_path.specs.declared.identifier.ProtocolIdentifier.{ProtocolIdentifier}
use Rattle.rm_model.specs.Counting.{Counting}
use Rattle.rm_model.specs.FrameFacts.{frame_facts}
use Rattle.rm_model.specs.Interfaces.{is_interface}
use Rattle.rm_model.specs.Journal.{Act, Journal, passes, assigns, samples}
use Rattle.rm_model.specs.ControlRows.{is_valid}
use Rattle.rm_dir.specs.DirectoryIndex.{index_with}
use Rattle.rm_dir.specs.LocalIndexes.{local_index}
use Rattle.rm_dir.specs.Paths.{is_active_after, path_after}
use Rattle.rm_dist.specs.Control.{control_state, source_of}

-- a mark: the protocol, its local index, and how many octets the frame has on the wire
pub record Mark : Type 0 where
  pub protocol : ProtocolIdentifier
  pub local : ℕ
  pub octets : ℕ

-- the marks of a frame with these facts that passes after a journal
abbrev pub marks_of : Facts → Journal → List Mark
marks_of facts earlier = map (λ protocol. record { protocol = protocol; local = local_index earlier (index_with protocol); octets = facts.length }) (path_after earlier facts)

-- whether a row with this data source counts a frame with these facts: a frame of another interface doesn't count, and none that isn't good
abbrev pub is_counted : (source : Val) → Facts → Bool
is_counted source facts = facts.good && is_interface source facts.interface

-- the marks that an act after a journal leaves in a row
abbrev pub new_marks : Counting → (row : ℕ) → Act → Journal → List Mark
new_marks settings row (passes frame) earlier =
    if is_counted (source_of earlier row) (frame_facts settings frame) then marks_of (frame_facts settings frame) earlier else []
new_marks settings row (assigns moment values) earlier = []
new_marks settings row (samples moment alarm reading) earlier = []

-- those of protocols that are active after a journal
abbrev pub of_active : Journal → List Mark → List Mark
of_active journal marks = filter (λ mark. is_active_after journal mark.protocol) marks

-- the marks of a row after a journal
abbrev pub marks : Counting → (row : ℕ) → Journal → List Mark
marks settings row [] = []
marks settings row (act ∷ earlier) =
    if is_valid (control_state (act ∷ earlier) row) then of_active (act ∷ earlier) (new_marks settings row act earlier ++ marks settings row earlier) else []

-- those of the protocol with a local index
abbrev pub with_local : ℕ → List Mark → List Mark
with_local local marks = filter (λ mark. nat_eq mark.local local) marks
