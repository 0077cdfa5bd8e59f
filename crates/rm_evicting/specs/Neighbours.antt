-- The entry by neighbouring references: the earliest from which on none of them lie far apart.
use Rattle.std.specs.Prelude.{◌≡◌, ℕ, ◌<◌, Bool, true, false, cond, ◌&&◌, List, [], ◌∷◌, ◌++◌, length, nat_lt}
use Rattle.std.specs.List.{list_any}
use Rattle.rm_evicting.specs.Held.{distinct, after_last, is_arrival}

module _ {K : Type 0} (eq : K → K → Bool) (capacity : ℕ) where
  -- fewer distinct keys than there is room for come after the last reference to the key, if there is one
  abbrev pub is_near : K → List K → Bool
  is_near key referred = cond (list_any (eq key) referred) (nat_lt (length (distinct eq (after_last eq key referred))) capacity) true

  -- between any two neighbouring references to the key there are fewer distinct keys than there is room for
  abbrev pub is_unbroken : K → List K → Bool
  is_unbroken key [] = true
  is_unbroken key (newest ∷ earlier) = cond (eq key newest) (is_near key earlier) true && is_unbroken key earlier

  -- the earliest of these references is to the key
  abbrev pub ends_in : K → List K → Bool
  ends_in key [] = false
  ends_in key (newest ∷ []) = eq key newest
  ends_in key (newest ∷ (next ∷ earlier)) = ends_in key (next ∷ earlier)

  -- the references from the key's entry on, its last arrival
  abbrev pub from_entry : K → List K → List K
  from_entry key [] = []
  from_entry key (newest ∷ earlier) = newest ∷ cond (eq key newest && is_arrival eq capacity key earlier) [] (from_entry key earlier)

  -- no two neighbouring references to the key are far apart from the entry on, and from no earlier reference to it on is that so
  pub record IsLeastEntry (key : K) (referred : List K) : Type 0 where
    pub near : is_unbroken key (from_entry key referred) ≡ true
    pub least : (front before : List K) → referred ≡ front ++ before → ends_in key front ≡ true
        → length (from_entry key referred) < length front → is_unbroken key front ≡ false
