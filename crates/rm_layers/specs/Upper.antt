-- The network rows of one control row, with its counts of entries, stand for the events so far.
use Rattle.std.specs.Prelude.{◌≡◌, ℕ, ◌+◌, ◌≤◌, length, Bool, cond, List, [], ◌∷◌, map, sum_by, Option, Some, None, ⊤}
use Rattle.rm_evicting.specs.declared.Row.{Row}
use Rattle.rm_evicting.specs.Row.{holds, touched, credited}
use Rattle.rm_evicting.specs.Stands.{Stands}
use Rattle.rm_layers.specs.Event.{Contribution, Event, names, turns, turns_ip, begins, on_since, span}
use Rattle.rm_layers.specs.Network.{is_on_path, network_inserts, application_inserts}
use Rattle.std.specs.Option.{is_some}
use Rattle.rm_layers.specs.Applications.{Application, Value, Slots, has_slot, AreApart, value_of, no_applications, blank_value, gained, is_same, retuned_value, used, made_by}

-- the network rows, and how many of these and of application rows were entered
pub record Upper (K N A : Type 0) : Type 0 where
  pub rows : List (Row K (Value N A))
  pub network_inserts : ℕ
  pub application_inserts : ℕ

-- a value is what the contributions make
abbrev pub IsValue : {N A G : Type 0} (blank : N) (add : N → G → N) (none : A) (more : A → G → A) → Slots → (ℕ → Option ℕ) → List (Contribution G) → Value N A → Type 0
IsValue blank add none more slots since contributions value = value ≡ value_of blank add none more slots since contributions

-- each protocol that is on has a slot, only one, and no other protocol has one
pub record AreTuned {K G : Type 0} (slots : Slots) (events : List (Event K G)) : Type 0 where
  pub tuned : (protocol : ℕ) → has_slot protocol slots ≡ is_some (on_since protocol events)
  pub apart : AreApart slots

module _ {K N A G : Type 0} (eq : K → K → Bool) (blank : N) (add : N → G → N) (none : A) (more : A → G → A) (capacity : ℕ) where
  -- rows and counts are those that the events give
  pub record IsOf (slots : Slots) (events : List (Event K G)) (upper : Upper K N A) : Type 0 where
    pub stands : Stands eq (IsValue blank add none more slots (λ protocol. on_since protocol events)) capacity (span events) upper.rows
    pub network_inserts : upper.network_inserts ≡ network_inserts eq capacity events
    pub application_inserts : upper.application_inserts ≡ application_inserts eq capacity events

  -- the application rows of a key, or none where the key isn't held
  abbrev pub applications_before : Slots → K → List (Row K (Value N A)) → List (Option (Application A))
  applications_before slots key [] = no_applications slots
  applications_before slots key (row ∷ rows) = cond (eq key row.key) row.value.applications (applications_before slots key rows)

  -- a reference
  abbrev pub named : Slots → K → Contribution G → Upper K N A → Upper K N A
  named slots key brings upper = record {
    rows = credited eq (gained blank add none more slots) key brings (touched eq (blank_value blank slots) capacity key brings.stamp brings.tick upper.rows);
    network_inserts = upper.network_inserts + cond (holds eq key upper.rows) 0 1;
    application_inserts = upper.application_inserts + made_by (λ protocol. is_on_path protocol brings) slots (applications_before slots key upper.rows);
  }

abbrev pub with_value : {K V : Type 0} → (V → V) → Row K V → Row K V
with_value change row = record row { value = change row.value }

module _ {K N A : Type 0} where
  -- protocols are turned on and off
  abbrev pub retuned : Slots → Slots → Upper K N A → Upper K N A
  retuned old slots upper = record {
    rows = map (with_value (retuned_value old slots)) upper.rows;
    network_inserts = upper.network_inserts;
    application_inserts = upper.application_inserts;
  }

  -- ip is
  abbrev pub emptied : Upper K N A → Upper K N A
  emptied upper = record { rows = []; network_inserts = upper.network_inserts; application_inserts = upper.application_inserts }

  -- the control row begins
  abbrev pub begun : Upper K N A
  begun = record { rows = []; network_inserts = 0; application_inserts = 0 }

-- a slot's protocol is the one that it was, on since the same stamp, or it was turned on at this stamp
abbrev pub IsRetuned : ℕ → (ℕ → Option ℕ) → (ℕ → Option ℕ) → Option ℕ → Option ℕ → Type 0
IsRetuned stamp since now was None = ⊤
IsRetuned stamp since now was (Some protocol) = now protocol ≡ cond (is_same was (Some protocol)) (since protocol) (Some stamp)

abbrev pub AreRetuned : ℕ → (ℕ → Option ℕ) → (ℕ → Option ℕ) → Slots → Slots → Type 0
AreRetuned stamp since now [] [] = ⊤
AreRetuned stamp since now [] (slot ∷ slots) = ⊥
AreRetuned stamp since now (was ∷ old) [] = ⊥
AreRetuned stamp since now (was ∷ old) (slot ∷ slots) = IsRetuned stamp since now was slot × AreRetuned stamp since now old slots

-- events that turn protocols at a stamp, and nothing else
abbrev pub AreTurnings : {K G : Type 0} → ℕ → List (Event K G) → Type 0
AreTurnings stamp [] = ⊤
AreTurnings stamp (names key brings ∷ earlier) = ⊥
AreTurnings stamp (turns protocol at on ∷ earlier) = (at ≡ stamp) × AreTurnings stamp earlier
AreTurnings stamp (turns_ip on ∷ earlier) = ⊥
AreTurnings stamp (begins ∷ earlier) = ⊥

-- how many application rows there are
abbrev pub applications_held : {K N A : Type 0} → List (Row K (Value N A)) → ℕ
applications_held rows = sum_by (λ row. used row.value.applications) rows

-- no more rows are held than were entered
pub record IsWithin {K N A : Type 0} (upper : Upper K N A) : Type 0 where
  pub rows : length upper.rows ≤ upper.network_inserts
  pub applications : applications_held upper.rows ≤ upper.application_inserts
