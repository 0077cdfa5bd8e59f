-- The value of a network row: what its contributions add up to, and its application rows in slots.
use Rattle.std.specs.Prelude.{ℕ, ◌+◌, Bool, false, cond, not, ◌&&◌, List, [], ◌∷◌, filter, map, nat_eq, count_by, is_some, Option, Some, None, ⊤, ◌≡◌}
use Rattle.std.specs.List.{list_any}
use Rattle.rm_evicting.specs.Stands.{total}
use Rattle.rm_layers.specs.Event.{Contribution}
use Rattle.rm_layers.specs.Network.{is_on_path, counts_for, first_tick}

-- an application row: the ticks of its first and of its last contribution, and what they add up to
pub record Application (A : Type 0) : Type 0 where
  pub created : ℕ
  pub tick : ℕ
  pub sums : A

-- what a network row has: the tick of its first contribution, its sums, and in each slot an application row or none
pub record Value (N A : Type 0) : Type 0 where
  pub created : Option ℕ
  pub sums : N
  pub applications : List (Option (Application A))

-- the protocols above ip that are on, each in a slot of its own
abbrev pub Slots : Type 0
Slots = List (Option ℕ)

abbrev pub is_in : ℕ → Option ℕ → Bool
is_in protocol None = false
is_in protocol (Some here) = nat_eq protocol here

abbrev pub has_slot : ℕ → Slots → Bool
has_slot protocol slots = list_any (is_in protocol) slots

-- no protocol is in two slots
abbrev pub AreApart : Slots → Type 0
AreApart [] = ⊤
AreApart (None ∷ slots) = AreApart slots
AreApart (Some protocol ∷ slots) = (has_slot protocol slots ≡ false) × AreApart slots

module _ {G : Type 0} where
  -- the tick of the first of some contributions, if there is one
  abbrev pub created_of : List (Contribution G) → Option ℕ
  created_of [] = None
  created_of (brings ∷ earlier) = Some (first_tick (brings ∷ earlier))

  -- with one contribution more
  abbrev pub created_with : Option ℕ → Contribution G → Option ℕ
  created_with None brings = Some brings.tick
  created_with (Some tick) brings = Some tick

module _ {A G : Type 0} (none : A) (more : A → G → A) where
  -- the application row that some contributions make
  abbrev pub application_of : List (Contribution G) → Option (Application A)
  application_of [] = None
  application_of (brings ∷ earlier) = Some (record {
    created = first_tick (brings ∷ earlier);
    tick = brings.tick;
    sums = total none (λ sums next. more sums next.gain) (brings ∷ earlier);
  })

  -- the one in a slot, where a protocol is on since a stamp
  abbrev pub application_in : (ℕ → Option ℕ) → Option ℕ → List (Contribution G) → Option (Application A)
  application_in since None contributions = None
  application_in since (Some protocol) contributions = application_of (filter (counts_for protocol (since protocol)) contributions)

  -- with one contribution more
  abbrev pub application_with : Option (Application A) → Contribution G → Application A
  application_with None brings = record { created = brings.tick; tick = brings.tick; sums = more none brings.gain }
  application_with (Some application) brings = record { created = application.created; tick = brings.tick; sums = more application.sums brings.gain }

  -- a contribution comes to the slots of the protocols that take it
  abbrev pub applications_with : (ℕ → Bool) → Slots → Contribution G → List (Option (Application A)) → List (Option (Application A))
  applications_with takes [] brings applications = []
  applications_with takes (slot ∷ slots) brings [] = []
  applications_with takes (None ∷ slots) brings (application ∷ applications) = application ∷ applications_with takes slots brings applications
  applications_with takes (Some protocol ∷ slots) brings (application ∷ applications) =
      cond (takes protocol) (Some (application_with application brings)) application ∷ applications_with takes slots brings applications

-- how many application rows it makes there
abbrev pub made_by : {A : Type 0} → (ℕ → Bool) → Slots → List (Option (Application A)) → ℕ
made_by takes [] applications = 0
made_by takes (slot ∷ slots) [] = 0
made_by takes (None ∷ slots) (application ∷ applications) = made_by takes slots applications
made_by takes (Some protocol ∷ slots) (application ∷ applications) =
    made_by takes slots applications + cond (takes protocol && not (is_some application)) 1 0

module _ {N A G : Type 0} (blank : N) (add : N → G → N) (none : A) (more : A → G → A) where
  -- what contributions make of a row
  abbrev pub value_of : Slots → (ℕ → Option ℕ) → List (Contribution G) → Value N A
  value_of slots since contributions = record {
    created = created_of contributions;
    sums = total blank (λ sums brings. add sums brings.gain) contributions;
    applications = map (λ slot. application_in none more since slot contributions) slots;
  }

  -- a row with one contribution more
  abbrev pub gained : Slots → Value N A → Contribution G → Value N A
  gained slots value brings = record {
    created = created_with value.created brings;
    sums = add value.sums brings.gain;
    applications = applications_with none more (λ protocol. is_on_path protocol brings) slots brings value.applications;
  }

abbrev pub no_applications : {A : Type 0} → Slots → List (Option (Application A))
no_applications slots = map (λ slot. None) slots

abbrev pub blank_value : {N A : Type 0} → N → Slots → Value N A
blank_value blank slots = record { created = None; sums = blank; applications = no_applications slots }

abbrev pub is_same : Option ℕ → Option ℕ → Bool
is_same None slot = false
is_same (Some protocol) slot = is_in protocol slot

-- a slot that has the protocol that it had keeps its application row, and each other one is emptied
abbrev pub kept_applications : {A : Type 0} → Slots → Slots → List (Option (Application A)) → List (Option (Application A))
kept_applications [] slots applications = []
kept_applications (was ∷ old) [] applications = []
kept_applications (was ∷ old) (slot ∷ slots) [] = []
kept_applications (was ∷ old) (slot ∷ slots) (application ∷ applications) =
    cond (is_same was slot) application None ∷ kept_applications old slots applications

abbrev pub retuned_value : {N A : Type 0} → Slots → Slots → Value N A → Value N A
retuned_value old slots value = record { created = value.created; sums = value.sums; applications = kept_applications old slots value.applications }

-- the protocols in slots, in order of slots
abbrev pub in_slots : Slots → List ℕ
in_slots [] = []
in_slots (None ∷ slots) = in_slots slots
in_slots (Some protocol ∷ slots) = protocol ∷ in_slots slots

-- the application row of a protocol
abbrev pub application_at : {A : Type 0} → ℕ → Slots → List (Option (Application A)) → Option (Application A)
application_at protocol [] applications = None
application_at protocol (slot ∷ slots) [] = None
application_at protocol (slot ∷ slots) (application ∷ applications) = cond (is_in protocol slot) application (application_at protocol slots applications)

-- how many slots have an application row
abbrev pub used : {A : Type 0} → List (Option (Application A)) → ℕ
used applications = count_by is_some applications
