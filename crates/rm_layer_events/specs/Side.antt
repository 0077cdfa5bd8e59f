-- What one control row of the network and application layer tables sees of the journal.
use Rattle.std.specs.Prelude.{◌≡◌, ℕ, ◌+◌, ◌*◌, ◌≤◌, ⊤, Bool, true, false, cond, not, ◌&&◌, List, [], ◌∷◌, ◌++◌, length, nat_eq}
use Rattle.std.specs.List.{list_any}
use Rattle.rm_evicting.specs.Held.{distinct}
use Rattle.rm_model.specs.Journal.{Frame, Act, passes, assigns, samples, Journal, frames_in}
use Rattle.rm_layers.specs.Event.{Event, names, turns, turns_ip, begins}

-- what a frame adds to a key that it names, with the protocols above ip on its path
pub record Reference (K G : Type 0) : Type 0 where
  pub key : K
  pub tick : ℕ
  pub path : List ℕ
  pub gain : G

-- What one side, hosts or matrices, sees by one control row. The references of a frame after the acts before it, in order: those of a
-- good frame with addresses, on the interface of the row, and none of another frame. Whether the row is active, whether ip is on for the
-- side, and whether a protocol above ip is. And some protocols, the ones that are on among them.
pub record Side (K G : Type 0) : Type 0 where
  pub references : Frame → Journal → List (Reference K G)
  pub is_active : Journal → Bool
  pub is_ip_on : Journal → Bool
  pub is_on : ℕ → Journal → Bool
  pub protocols : Journal → List ℕ

-- the stamp of the first reference of the next frame
abbrev pub next_stamp : Journal → ℕ
next_stamp journal = 2 * length (frames_in journal)

abbrev pub is_alike : Bool → Bool → Bool
is_alike true other = other
is_alike false other = not other

module _ {K G : Type 0} where
  -- the references of a frame come in order, each with the next stamp
  abbrev pub named : ℕ → List (Reference K G) → List (Event K G) → List (Event K G)
  named stamp [] earlier = earlier
  named stamp (reference ∷ more) earlier =
      named (stamp + 1) more (names reference.key (record { stamp = stamp; tick = reference.tick; path = reference.path; gain = reference.gain }) ∷ earlier)

-- an act that isn't a Set
abbrev pub IsSteady : Act → Type 0
IsSteady (passes frame) = ⊤
IsSteady (assigns moment values) = ⊥
IsSteady (samples moment alarm reading) = ⊤

module _ {K G : Type 0} (side : Side K G) where
  -- what an act turns on or off, of some protocols
  abbrev pub turned_of : List ℕ → Act → Journal → List (Event K G)
  turned_of [] act earlier = []
  turned_of (protocol ∷ protocols) act earlier = cond (is_alike (side.is_on protocol earlier) (side.is_on protocol (act ∷ earlier)))
      (turned_of protocols act earlier)
      (turns protocol (next_stamp earlier) (side.is_on protocol (act ∷ earlier)) ∷ turned_of protocols act earlier)

  abbrev pub turned : Act → Journal → List (Event K G)
  turned act earlier = turned_of (distinct nat_eq (side.protocols (act ∷ earlier) ++ side.protocols earlier)) act earlier

  abbrev pub turned_ip : Act → Journal → List (Event K G)
  turned_ip act earlier = cond (is_alike (side.is_ip_on earlier) (side.is_ip_on (act ∷ earlier))) [] (turns_ip (side.is_ip_on (act ∷ earlier)) ∷ [])

  abbrev pub begun : Act → Journal → List (Event K G)
  begun act earlier = cond (not (side.is_active earlier) && side.is_active (act ∷ earlier)) (begins ∷ []) []

  -- the protocols that are on from before the first act
  abbrev pub first_turned : List ℕ → List (Event K G)
  first_turned [] = []
  first_turned (protocol ∷ protocols) = cond (side.is_on protocol []) (turns protocol 0 true ∷ first_turned protocols) (first_turned protocols)

  -- A frame names keys. A Set may begin the control row, and then turn ip and protocols. A sample does nothing.
  abbrev pub events : Journal → List (Event K G)
  events [] = first_turned (distinct nat_eq (side.protocols []))
  events (passes frame ∷ earlier) = named (next_stamp earlier) (side.references frame earlier) (events earlier)
  events (assigns moment values ∷ earlier) =
      turned (assigns moment values) earlier ++ (turned_ip (assigns moment values) earlier ++ (begun (assigns moment values) earlier ++ events earlier))
  events (samples moment alarm reading ∷ earlier) = events earlier

  -- the events when an act has begun the row and turned ip, and is yet to turn protocols
  abbrev pub besides : Act → Journal → List (Event K G)
  besides act earlier = turned_ip act earlier ++ (begun act earlier ++ events earlier)

  -- what is so of each side: only a Set changes what is on, and a frame has two references at most
  pub record IsSide : Type 0 where
    pub few : (frame : Frame) (earlier : Journal) → length (side.references frame earlier) ≤ 2
    pub listed : (protocol : ℕ) (journal : Journal) → side.is_on protocol journal ≡ true → list_any (nat_eq protocol) (side.protocols journal) ≡ true
    pub ip_first : side.is_ip_on [] ≡ true
    pub ip_steady : (act : Act) (earlier : Journal) → IsSteady act → side.is_ip_on (act ∷ earlier) ≡ side.is_ip_on earlier
    pub steady : (protocol : ℕ) (act : Act) (earlier : Journal) → IsSteady act → side.is_on protocol (act ∷ earlier) ≡ side.is_on protocol earlier
