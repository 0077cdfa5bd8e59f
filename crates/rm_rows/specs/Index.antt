-- A block of threaded nodes beside the ring of its links in order of entry and their index by key.
use Rattle.std.specs.Prelude.{◌≡◌, ℕ, ◌+◌, ◌-◌, ◌<◌, ◌≤◌, cond, nat_lt, All, List, ◌∷◌, ◌++◌, length, slice_get, find, Some, vec_len, vec_capacity}
use Rattle.std.specs.List.{AllByRecursion}
use Rattle.std.specs.declared.cmp.Ordering.{Ordering}
use Rattle.std.specs.declared.cmp.Ordering.TheVariants.{Less}
use Rattle.std.specs.declared.vec.Vec.{Vec}
use Rattle.std_alloc.specs.declared.vec.deque.VecDeque.{VecDeque}
use Rattle.std.specs.VecDeque.{deque_capacity}
use Rattle.std.specs.declared.alloc.Global.{Global}
use denote.RawPtr.{Ptr}
use Rattle.rm_evicting.specs.declared.Row.{Row}
use Rattle.rm_evicting.specs.Row.{is_oldest, without_oldest}
use Rattle.rm_recency.specs.declared.RecencyList.{RecencyList}
use Rattle.rm_recency.specs.Threads.{Threaded, IsAt, row_at}
use Rattle.rm_rows.specs.Stored.{In, Pairwise, IsAfter, rows_by, Earlier, Before, Stored}

-- ys is xs without p
abbrev pub IsWithout : List Ptr → Ptr → List Ptr → Type 0
IsWithout xs p ys = (us : List Ptr) × (vs : List Ptr) × (xs ≡ us ++ p ∷ vs) × (ys ≡ us ++ vs)

-- where a place lies once the item at another has gone
abbrev pub place_without : (gone place : ℕ) → ℕ
place_without gone place = cond (nat_lt gone place) (place - 1) place

module _ {K V : Type 0} where
  -- the rows at links, in their order
  abbrev pub rows_in : RecencyList K V → List Ptr → List (Row K V)
  rows_in t es = rows_by (row_at t) es

  module _ (t : RecencyList K V) where
    -- the row at p was entered by that stamp
    abbrev pub HasEntry : Ptr → ℕ → Type 0
    HasEntry p entry = (r : Row K V) × (row_at t p ≡ Some r) × (r.entry ≡ entry)

    -- links to nodes of the block, in order of entry
    abbrev pub IsByEntry : List Ptr → Type 0
    IsByEntry es = AllByRecursion (IsAt t) es × Pairwise (Earlier (row_at t)) es

    -- a stamp of entry belongs between two places
    pub record IsEntryBetween (es : List Ptr) (entry low high : ℕ) : Type 0 where
      pub order : low ≤ high
      pub within : high ≤ length es
      pub below : (k : ℕ) (q : Ptr) (r : Row K V) → k < low → slice_get es k ≡ Some q → row_at t q ≡ Some r → r.entry < entry
      pub above : (k : ℕ) (q : Ptr) (r : Row K V) → high ≤ k → slice_get es k ≡ Some q → row_at t q ≡ Some r → entry < r.entry

  module _ (t : RecencyList K V) (xs : List Ptr) where
    -- the keys before the place low are of one kind, and those from the place high on are of another
    pub record IsParted (IsLow IsHigh : K → Type 0) (low high : ℕ) : Type 0 where
      pub order : low ≤ high
      pub within : high ≤ length xs
      pub below : (k : ℕ) (q : Ptr) (r : Row K V) → k < low → slice_get xs k ≡ Some q → row_at t q ≡ Some r → IsLow r.key
      pub above : (k : ℕ) (q : Ptr) (r : Row K V) → high ≤ k → slice_get xs k ≡ Some q → row_at t q ≡ Some r → IsHigh r.key

    -- the keys from the place i on are those that are such
    abbrev pub IsCut : (K → Type 0) → ℕ → Type 0
    IsCut IsSuch i = IsParted (λ k. ¬ (IsSuch k)) IsSuch i i

  module _ (cmp : K → K → Ordering) (t : RecencyList K V) where
    -- links whose nodes' keys rise
    abbrev pub IsIndex : List Ptr → Type 0
    IsIndex xs = AllByRecursion (IsAt t) xs × Pairwise (Before (row_at t) cmp) xs

    -- the node at p has that key
    abbrev pub HasKey : Ptr → K → Type 0
    HasKey p h = (r : Row K V) × (row_at t p ≡ Some r) × (r.key ≡ h)

    -- h belongs between two places
    abbrev pub IsSearched : List Ptr → K → ℕ → ℕ → Type 0
    IsSearched xs h low high = IsParted t xs (λ k. cmp k h ≡ Less) (λ k. cmp h k ≡ Less) low high

    -- h belongs before the place i
    abbrev pub IsGap : List Ptr → K → ℕ → Type 0
    IsGap xs h i = IsSearched xs h i i

    -- what holds between two references: es are the links in order of entry, xs those in order of keys
    pub record Kept (es xs : List Ptr) : Type 0 where
      pub rs : List Ptr
      pub recency : Threaded t rs
      pub links : AllByRecursion (IsAt t) es
      pub count : length es ≡ vec_len t.nodes
      pub stored : Stored (row_at t) cmp es rs xs

    -- the same where the node at p is in no list
    pub record Loose (es xs : List Ptr) (p : Ptr) : Type 0 where
      pub rs : List Ptr
      pub recency : Threaded t rs
      pub links : AllByRecursion (IsAt t) es
      pub count : length es + 1 ≡ vec_len t.nodes
      pub stored : Stored (row_at t) cmp es rs xs
      pub at : IsAt t p
      pub out : ¬ (In p es)

    -- the row at p was just entered, belongs before the place i of the index, and its last reference is after all others
    pub record Fits (xs : List Ptr) (p : Ptr) (i : ℕ) : Type 0 where
      pub row : Row K V
      pub here : row_at t p ≡ Some row
      pub new : row.entry ≡ row.last
      pub gap : IsGap xs row.key i
      pub latest : (q : Ptr) (s : Row K V) → In q xs → row_at t q ≡ Some s → IsAfter row s

  -- a reference with that stamp and tick may renew the row at p
  pub record MayRenew (cmp : K → K → Ordering) (t : RecencyList K V) (p : Ptr) (stamp tick : ℕ) (es xs : List Ptr) : Type 0 where
    pub kept : Kept cmp t es xs
    pub member : In p xs
    pub stamps : All (λ row. row.last < stamp) (rows_in t es)
    pub ticks : All (λ row. row.tick ≤ tick) (rows_in t es)

  -- the block and the index have the room that they had, and the ring has no less
  pub record HaveRoom (old new : RecencyList K V) (entered entered' : VecDeque Ptr Global) (index index' : Vec Ptr Global) : Type 0 where
    pub nodes : vec_capacity new.nodes ≡ vec_capacity old.nodes
    pub ring : deque_capacity entered ≤ deque_capacity entered'
    pub places : vec_capacity index' ≡ vec_capacity index

  -- the oldest row of a block has gone out of its lists, and its node is at p
  pub record PutOut (cmp : K → K → Ordering) (old new : RecencyList K V) (es es' xs xs' : List Ptr) (p : Ptr) : Type 0 where
    pub loose : Loose cmp new es' xs' p
    pub rows : rows_in new es' ≡ without_oldest (rows_in old es)
    pub row : Row K V
    pub here : row_at new p ≡ Some row
    pub oldest : find (is_oldest (rows_in old es)) (rows_in old es) ≡ Some row
    pub same : (q : Ptr) → row_at new q ≡ row_at old q
    pub among : (q : Ptr) → In q xs' → In q xs

  -- the block, the ring of links in order of entry and the index of a table of at most capacity rows, for which all have room
  pub record Holds (cmp : K → K → Ordering) (t : RecencyList K V) (entered : VecDeque Ptr Global) (index : Vec Ptr Global) (capacity : ℕ) : Type 0 where
    pub kept : Kept cmp t entered.items index.items
    pub some : 0 < capacity
    pub nodes : capacity ≤ vec_capacity t.nodes
    pub ring : capacity ≤ deque_capacity entered
    pub places : capacity ≤ vec_capacity index
    pub few : vec_len t.nodes ≤ capacity
    pub count : vec_len index ≡ vec_len t.nodes

  -- that, within the room that was reserved
  pub record IsReserved (cmp : K → K → Ordering) (t : RecencyList K V) (entered : VecDeque Ptr Global) (index : Vec Ptr Global) (room capacity : ℕ) : Type 0 where
    pub holds : Holds cmp t entered index capacity
    pub within : capacity ≤ room
    pub nodes : room ≤ vec_capacity t.nodes
    pub ring : room ≤ deque_capacity entered
    pub places : room ≤ vec_capacity index
