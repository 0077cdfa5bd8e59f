-- How the nodes of a block are threaded, the last referred to first.
use Rattle.std.specs.Prelude.{◌≡◌, ℕ, suc, ◌+◌, List, [], ◌∷◌, ◌++◌, map, slice_get, Option, Some, None, option_map, ⊤, vec_len, vec_capacity}
use Rattle.std.specs.Vec.{SameBlock}
use Rattle.std.specs.List.{AllByRecursion}
use denote.RawPtr.{Ptr}
use Rattle.rm_evicting.specs.declared.Row.{Row}
use Rattle.rm_block.specs.Link.{IsLink, place_of}
use Rattle.rm_recency.specs.Chain.{Sets, Linked}
use Rattle.rm_recency.specs.declared.Links.{Links}
use Rattle.rm_recency.specs.declared.Node.{Node}
use Rattle.rm_recency.specs.declared.RecencyList.{RecencyList}

module _ {K V : Type 0} where
  abbrev pub row_of : Node K V → Row K V
  row_of n = n.row

  abbrev pub with_next : Option Ptr → Links K V → Links K V
  with_next to l = record l { next = to }

  abbrev pub with_prev : Option Ptr → Links K V → Links K V
  with_prev to l = record l { prev = to }

  abbrev pub rows_of : RecencyList K V → List (Row K V)
  rows_of t = map row_of t.nodes.items

  module _ (t : RecencyList K V) where
    -- the place of the node at a link
    abbrev pub place : Ptr → ℕ
    place p = place_of t.stride.bytes t.nodes (record { ptr = p })

    -- p is a link to one of the nodes
    abbrev pub IsAt : Ptr → Type 0
    IsAt p = IsLink t.stride.bytes t.nodes (record { ptr = p })

    abbrev pub IsAtSome : Option Ptr → Type 0
    IsAtSome None = ⊤
    IsAtSome (Some p) = IsAt p

    -- the end of the list, and each node, by a number
    abbrev pub number : Option Ptr → ℕ
    number None = 0
    number (Some p) = suc (place p)

    abbrev pub node_at : Ptr → Option (Node K V)
    node_at p = slice_get t.nodes.items (place p)

    -- one of the two links of the node at a link, or of the end
    abbrev pub link_of : (Links K V → Option Ptr) → Option Ptr → Option (Option Ptr)
    link_of side None = Some (side t.ends)
    link_of side (Some p) = option_map (λ n. side n.links) (node_at p)

    -- what comes after the node at a link, and after the end the first
    abbrev pub next_of : Option Ptr → Option (Option Ptr)
    next_of = link_of (λ links. links.next)

    abbrev pub prev_of : Option Ptr → Option (Option Ptr)
    prev_of = link_of (λ links. links.prev)

    -- the nodes at ps lie in the list in that order
    pub record Threaded (ps : List Ptr) : Type 0 where
      pub ring : Linked number next_of prev_of None (map Some ps)
      pub links : AllByRecursion IsAt ps

    -- the node at p is in the list
    abbrev pub IsIn : Ptr → Type 0
    IsIn p = (xs : List Ptr) × (ys : List Ptr) × Threaded (xs ++ p ∷ ys)

    -- the list has its nodes
    abbrev pub IsList : Type 0
    IsList = (ps : List Ptr) × Threaded ps

  module _ (old new : RecencyList K V) where
    -- the block lies where it lay, of as many nodes, and the rows stay
    pub record SameNodes : Type 0 where
      pub block : SameBlock old.nodes new.nodes
      pub len : vec_len new.nodes ≡ vec_len old.nodes
      pub stride : new.stride ≡ old.stride
      pub rows : rows_of new ≡ rows_of old

    -- to comes after at
    pub record NextSet (at to : Option Ptr) : Type 0 where
      pub next : Sets (number old) (next_of old) (next_of new) at to
      pub prev : (c : Option Ptr) → prev_of new c ≡ prev_of old c
      pub nodes : SameNodes

    -- to comes before at
    pub record PrevSet (at to : Option Ptr) : Type 0 where
      pub prev : Sets (number old) (prev_of old) (prev_of new) at to
      pub next : (c : Option Ptr) → next_of new c ≡ next_of old c
      pub nodes : SameNodes

  -- the node at p is none of those at ps
  abbrev pub IsNone : RecencyList K V → Ptr → List Ptr → Type 0
  IsNone t p ps = AllByRecursion (λ q. ¬ (place t p ≡ place t q)) ps

  -- the row at a link
  abbrev pub row_at : RecencyList K V → Ptr → Option (Row K V)
  row_at t p = option_map row_of (node_at t p)

  -- the value at a link, if there is one
  abbrev pub value_by : RecencyList K V → Option Ptr → Option V
  value_by t None = None
  value_by t (Some p) = option_map (λ row. row.value) (row_at t p)

  module _ (old new : RecencyList K V) where
    -- the block lies where it lay
    pub record SameBytes : Type 0 where
      pub ptr : new.nodes.ptr ≡ old.nodes.ptr
      pub capacity : vec_capacity new.nodes ≡ vec_capacity old.nodes
      pub stride : new.stride ≡ old.stride

    -- the list keeps its nodes
    abbrev pub Keeps : Type 0
    Keeps = (ps : List Ptr) → Threaded old ps → Threaded new ps

    -- a row is added, at p, which isn't in the list
    pub record Added (p : Ptr) (row : Row K V) : Type 0 where
      pub bytes : SameBytes
      pub len : vec_len new.nodes ≡ vec_len old.nodes + 1
      pub at : IsAt new p
      pub place : place new p ≡ vec_len old.nodes
      pub here : row_at new p ≡ Some row
      pub there : (q : Ptr) → IsAt old q → row_at new q ≡ row_at old q
      pub stays : (q : Ptr) → IsAt old q → IsAt new q
      pub keeps : Keeps

    -- the row at p is set
    pub record RowSet (p : Ptr) (row : Row K V) : Type 0 where
      pub bytes : SameBytes
      pub len : vec_len new.nodes ≡ vec_len old.nodes
      pub here : row_at new p ≡ Some row
      pub there : (q : Ptr) → ¬ (place old q ≡ place old p) → row_at new q ≡ row_at old q
      pub keeps : Keeps

  -- no node is in the block or in the list
  pub record IsEmpty (t : RecencyList K V) : Type 0 where
    pub none : vec_len t.nodes ≡ 0
    pub list : Threaded t []
