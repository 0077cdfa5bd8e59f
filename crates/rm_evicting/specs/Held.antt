-- What a table with room for a number of rows holds after a list of mentions: a key is held as long as fewer other keys than there is
-- room for were referred to since it was.
use Rattle.std.specs.Prelude.{◌≡◌, ℕ, ◌+◌, ◌<◌, min, Bool, true, cond, not, ◌&&◌, List, [], ◌∷◌, length, filter, nat_lt, nat_le, count_by, ⊤}
use Rattle.std.specs.List.{list_any}
use Rattle.rm_evicting.specs.Mention.{Mention, refers, strays, keys}

-- a test of keys that tells each two apart
pub record IsExact {K : Type 0} (eq : K → K → Bool) : Type 0 where
  pub itself : (key : K) → eq key key ≡ true
  pub same : (one other : K) → eq one other ≡ true → one ≡ other

module _ {K : Type 0} (eq : K → K → Bool) where
  abbrev pub without : K → List K → List K
  without key others = filter (λ other. not (eq key other)) others

  -- each of the keys once, where it stands first
  abbrev pub distinct : List K → List K
  distinct [] = []
  distinct (key ∷ earlier) = key ∷ without key (distinct earlier)

  -- the keys since a key came last; all of them where it never came
  abbrev pub after_last : K → List K → List K
  after_last key [] = []
  after_last key (newest ∷ earlier) = cond (eq key newest) [] (newest ∷ after_last key earlier)

  module _ (capacity : ℕ) where
    -- the key came, and fewer distinct keys came since than there is room for
    abbrev pub held : K → List K → Bool
    held key referred = list_any (eq key) referred && nat_lt (length (distinct (after_last key referred))) capacity

    -- a reference to the key, after these, brings it in
    abbrev pub is_arrival : K → List K → Bool
    is_arrival key referred = not (held key referred)

    -- and another has to go
    abbrev pub is_eviction : K → List K → Bool
    is_eviction key referred = is_arrival key referred && nat_le capacity (length (distinct referred))

    -- how many rows there are
    abbrev pub size : List K → ℕ
    size referred = min capacity (length (distinct referred))

    -- the keys held, the last referred to first
    abbrev pub held_keys : List K → List K
    held_keys referred = filter (λ key. held key referred) (distinct referred)

module _ {K C : Type 0} (eq : K → K → Bool) where
  -- the stamp of the last reference to a key, 0 before any
  abbrev pub last_stamp : K → List (Mention K C) → ℕ
  last_stamp key [] = 0
  last_stamp key (refers newest stamp tick gain ∷ earlier) = cond (eq key newest) stamp (last_stamp key earlier)
  last_stamp key (strays newest gain ∷ earlier) = last_stamp key earlier

  -- its tick
  abbrev pub last_tick : K → List (Mention K C) → ℕ
  last_tick key [] = 0
  last_tick key (refers newest stamp tick gain ∷ earlier) = cond (eq key newest) tick (last_tick key earlier)
  last_tick key (strays newest gain ∷ earlier) = last_tick key earlier

  -- what the mentions of a key add
  abbrev pub gains : K → List (Mention K C) → List C
  gains key [] = []
  gains key (refers newest stamp tick gain ∷ earlier) = cond (eq key newest) (gain ∷ gains key earlier) (gains key earlier)
  gains key (strays newest gain ∷ earlier) = cond (eq key newest) (gain ∷ gains key earlier) (gains key earlier)

  module _ (capacity : ℕ) where
    -- the mentions from a key's entry on. The entry is its last reference at which it came in
    abbrev pub since_entry : K → List (Mention K C) → List (Mention K C)
    since_entry key [] = []
    since_entry key (refers newest stamp tick gain ∷ earlier) =
        refers newest stamp tick gain ∷ cond (eq key newest && is_arrival eq capacity key (keys earlier)) [] (since_entry key earlier)
    since_entry key (strays newest gain ∷ earlier) = strays newest gain ∷ since_entry key earlier

    -- the stamp of that reference
    abbrev pub entry : K → List (Mention K C) → ℕ
    entry key [] = 0
    entry key (refers newest stamp tick gain ∷ earlier) = cond (eq key newest && is_arrival eq capacity key (keys earlier)) stamp (entry key earlier)
    entry key (strays newest gain ∷ earlier) = entry key earlier

    -- what the row of a key has gained
    abbrev pub shares : K → List (Mention K C) → List C
    shares key mentions = gains key (since_entry key mentions)

    -- the rank of a key's row by entry, from 1
    abbrev pub order : K → List (Mention K C) → ℕ
    order key mentions = 1 + count_by (λ other. nat_lt (entry other mentions) (entry key mentions)) (held_keys eq capacity (keys mentions))

    -- the tick of the last eviction, 0 before any
    abbrev pub last_delete : List (Mention K C) → ℕ
    last_delete [] = 0
    last_delete (refers newest stamp tick gain ∷ earlier) = cond (is_eviction eq capacity newest (keys earlier)) tick (last_delete earlier)
    last_delete (strays newest gain ∷ earlier) = last_delete earlier

module _ {K C : Type 0} where
  -- all stamps are so
  abbrev pub AllStamps : (ℕ → Type 0) → List (Mention K C) → Type 0
  AllStamps P [] = ⊤
  AllStamps P (refers key stamp tick gain ∷ earlier) = P stamp × AllStamps P earlier
  AllStamps P (strays key gain ∷ earlier) = AllStamps P earlier

  -- all stamps are below this one
  abbrev pub AllBefore : ℕ → List (Mention K C) → Type 0
  AllBefore limit = AllStamps (λ stamp. stamp < limit)

  -- each stamp is above those before it
  abbrev pub Rising : List (Mention K C) → Type 0
  Rising [] = ⊤
  Rising (refers key stamp tick gain ∷ earlier) = AllBefore stamp earlier × Rising earlier
  Rising (strays key gain ∷ earlier) = Rising earlier
