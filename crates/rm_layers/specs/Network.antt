-- The rows that events give: of keys in the network layer, and of protocols within them in the application layer.
use Rattle.std.specs.Prelude.{ℕ, ◌+◌, ◌-◌, Bool, true, false, cond, not, ◌&&◌, List, [], ◌∷◌, length, filter, nat_eq, nat_le, Option, Some, None, count_by, sum_by}
use Rattle.std.specs.List.{list_any, flat_map}
use Rattle.rm_evicting.specs.Mention.{keys}
use Rattle.rm_evicting.specs.Held.{distinct, held, is_arrival, size, held_keys, shares}
use Rattle.rm_layers.specs.Event.{Contribution, Event, names, turns, turns_ip, begins, is_ip_on, on_since, span}

abbrev pub is_some_list : {X : Type 0} → List X → Bool
is_some_list [] = false
is_some_list (x ∷ xs) = true

module _ {G : Type 0} where
  abbrev pub is_on_path : ℕ → Contribution G → Bool
  is_on_path protocol brings = list_any (nat_eq protocol) brings.path

  -- whether a contribution counts for a protocol, which is on since a stamp, or isn't on
  abbrev pub counts_for : ℕ → Option ℕ → Contribution G → Bool
  counts_for protocol None brings = false
  counts_for protocol (Some stamp) brings = nat_le stamp brings.stamp && is_on_path protocol brings

module _ {K G : Type 0} (eq : K → K → Bool) (capacity : ℕ) where
  -- the network row of a key exists
  abbrev pub is_held : K → List (Event K G) → Bool
  is_held key events = held eq capacity key (keys (span events))

  -- what the row of a key has got since its entry
  abbrev pub contributions : K → List (Event K G) → List (Contribution G)
  contributions key events = shares eq capacity key (span events)

  -- and since a protocol was last turned on, with that on the path; nothing while the protocol is off
  abbrev pub application_contributions : K → ℕ → List (Event K G) → List (Contribution G)
  application_contributions key protocol events = filter (counts_for protocol (on_since protocol events)) (contributions key events)

  -- the application row of a key and a protocol exists
  abbrev pub exists : K → ℕ → List (Event K G) → Bool
  exists key protocol events = is_held key events && is_some_list (application_contributions key protocol events)

  -- the tick of a key's entry
  abbrev pub entry_tick : K → List (Event K G) → ℕ
  entry_tick key [] = 0
  entry_tick key (names newest brings ∷ earlier) =
      cond (is_ip_on earlier && (eq key newest && is_arrival eq capacity key (keys (span earlier)))) brings.tick (entry_tick key earlier)
  entry_tick key (turns protocol stamp on ∷ earlier) = entry_tick key earlier
  entry_tick key (turns_ip on ∷ earlier) = 0
  entry_tick key (begins ∷ earlier) = 0

  -- how many references of all spans brought their key in, since the control row began
  abbrev pub network_inserts : List (Event K G) → ℕ
  network_inserts [] = 0
  network_inserts (names key brings ∷ earlier) =
      network_inserts earlier + cond (is_ip_on earlier && is_arrival eq capacity key (keys (span earlier))) 1 0
  network_inserts (turns protocol stamp on ∷ earlier) = network_inserts earlier
  network_inserts (turns_ip on ∷ earlier) = network_inserts earlier
  network_inserts (begins ∷ earlier) = 0

  -- for each reference, the protocols on its path of which it made the application row
  abbrev pub application_inserts : List (Event K G) → ℕ
  application_inserts [] = 0
  application_inserts (names key brings ∷ earlier) =
      application_inserts earlier + count_by (λ protocol. exists key protocol (names key brings ∷ earlier) && not (exists key protocol earlier)) (distinct nat_eq brings.path)
  application_inserts (turns protocol stamp on ∷ earlier) = application_inserts earlier
  application_inserts (turns_ip on ∷ earlier) = application_inserts earlier
  application_inserts (begins ∷ earlier) = 0

  -- how many network rows exist now
  abbrev pub network_rows : List (Event K G) → ℕ
  network_rows events = size eq capacity (keys (span events))

  -- the protocols of which a key has an application row
  abbrev pub applications_of : K → List (Event K G) → List ℕ
  applications_of key events = filter (λ protocol. exists key protocol events) (distinct nat_eq (flat_map (λ brings. brings.path) (contributions key events)))

  -- how many application rows exist now
  abbrev pub application_rows : List (Event K G) → ℕ
  application_rows events = sum_by (λ key. length (applications_of key events)) (held_keys eq capacity (keys (span events)))

  -- how many of the rows that were entered are gone
  abbrev pub network_deletes : List (Event K G) → ℕ
  network_deletes events = network_inserts events - network_rows events

  abbrev pub application_deletes : List (Event K G) → ℕ
  application_deletes events = application_inserts events - application_rows events

module _ {G : Type 0} where
  -- the tick of the first of some contributions, and of the last
  abbrev pub first_tick : List (Contribution G) → ℕ
  first_tick [] = 0
  first_tick (brings ∷ []) = brings.tick
  first_tick (brings ∷ (next ∷ earlier)) = first_tick (next ∷ earlier)

  abbrev pub newest_tick : List (Contribution G) → ℕ
  newest_tick [] = 0
  newest_tick (brings ∷ earlier) = brings.tick
