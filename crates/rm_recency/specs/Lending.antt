-- What a block ends as, where the value of one of its rows is lent.
use Rattle.std.specs.Prelude.{Option, Some, None, slice_get}
use Rattle.std.specs.Borrow.{Lends, LendsIf, Fml, RattleType, MutBor}
use Rattle.std.specs.Vec.{with_item}
use denote.RawPtr.{Ptr}
use Rattle.rm_recency.specs.declared.Node.{Node}
use Rattle.rm_recency.specs.declared.RecencyList.{RecencyList}
use Rattle.rm_recency.specs.Threads.{place}
use Rattle.rm_recency.specs.contracts.Node as node
use Rattle.rm_recency.specs.contracts.RecencyList.{the_row}

module _ {K V : Type 0} where
  abbrev pub valued : Node K V → V → Node K V
  valued n w = record n { row = record n.row { value = w } }

  -- t with that value in the node at p, which is given
  abbrev pub with_value_of : RecencyList K V → Ptr → V → Option (Node K V) → RecencyList K V
  with_value_of t p w None = t
  with_value_of t p w (Some n) = record { nodes = with_item t.nodes (place t p) (valued n w); ends = t.ends; stride = t.stride }

  abbrev pub with_value : RecencyList K V → Ptr → V → RecencyList K V
  with_value t p w = with_value_of t p w (slice_get t.nodes.items (place t p))

-- the row at p ends with the value last written through r
abbrev pub lends_value : (K V : RattleType) → MutBor (RecencyList K.Denot V.Denot) → Ptr → MutBor V.Denot → Fml
lends_value K V t p r = Lends (the_row K V) V t r (with_value t.now p)

abbrev pub with_node : {K V : Type 0} → RecencyList K V → Ptr → Node K V → RecencyList K V
with_node t p n = record { nodes = with_item t.nodes (place t p) n; ends = t.ends; stride = t.stride }

abbrev pub lends_node : (K V : RattleType) → MutBor (RecencyList K.Denot V.Denot) → Ptr → MutBor (Node K.Denot V.Denot) → Fml
lends_node K V t p r = Lends (the_row K V) (node.the_row K V) t r (with_node t.now p)

abbrev pub with_value_at : {K V : Type 0} → RecencyList K V → Option Ptr → V → RecencyList K V
with_value_at t None w = t
with_value_at t (Some p) w = with_value t p w

-- the row at the link, if there is one, ends with the value last written through r
abbrev pub lends_value_at : (K V : RattleType) → MutBor (RecencyList K.Denot V.Denot) → Option Ptr → Option (MutBor V.Denot) → Fml
lends_value_at K V t p r = LendsIf (the_row K V) V t r (with_value_at t.now p) t.now
