-- What one change of the directory of protocols turns on and off, and what it leaves in slots.
use Rattle.std.specs.Prelude.{◌≡◌, ℕ, Bool, true, false, cond, not, ◌&&◌, ◌||◌, List, [], ◌∷◌, ◌++◌, nat_eq, Some, None, ⊤}
use Rattle.rm_evicting.specs.Mention.{keys}
use Rattle.rm_evicting.specs.Held.{is_arrival}
use Rattle.rm_layers.specs.Event.{Contribution, Event, names, turns, turns_ip, begins, is_ip_on, on_since, span}
use Rattle.rm_layers.specs.Network.{is_on_path}
use Rattle.std.specs.Option.{is_some}
use Rattle.rm_layers.specs.Applications.{Slots, is_same}
use Rattle.rm_layers.specs.Upper.{AreTurnings}

module _ {K G : Type 0} where
  abbrev pub is_turned : ℕ → List (Event K G) → Bool
  is_turned protocol [] = false
  is_turned protocol (names key brings ∷ earlier) = is_turned protocol earlier
  is_turned protocol (turns other stamp on ∷ earlier) = nat_eq protocol other || is_turned protocol earlier
  is_turned protocol (turns_ip on ∷ earlier) = is_turned protocol earlier
  is_turned protocol (begins ∷ earlier) = is_turned protocol earlier

  -- a slot that has another protocol than before has one that was turned
  abbrev pub AreNew : List (Event K G) → Slots → Slots → Type 0
  AreNew turnings [] [] = ⊤
  AreNew turnings [] (slot ∷ slots) = ⊥
  AreNew turnings (was ∷ old) [] = ⊥
  AreNew turnings (was ∷ old) (None ∷ slots) = AreNew turnings old slots
  AreNew turnings (was ∷ old) (Some protocol ∷ slots) = ((is_same was (Some protocol) ≡ false → is_turned protocol turnings ≡ true)) × AreNew turnings old slots

  -- one change after other events: turnings alone, each of which is one, and the protocols that stay on stay in their slots
  pub record IsChange (stamp : ℕ) (turnings earlier : List (Event K G)) (old slots : Slots) : Type 0 where
    pub alone : AreTurnings stamp turnings
    pub changes : (protocol : ℕ) → is_turned protocol turnings ≡ true → is_some (on_since protocol (turnings ++ earlier)) ≡ not (is_some (on_since protocol earlier))
    pub moved : AreNew turnings old slots

module _ {K G : Type 0} (eq : K → K → Bool) (capacity : ℕ) where
  -- the contributions to a key with a protocol on the path, from the key's entry on and after the protocol was last turned, told
  -- without stamps
  abbrev pub contributions_by_place : K → ℕ → List (Event K G) → List (Contribution G)
  contributions_by_place key protocol [] = []
  contributions_by_place key protocol (names newest brings ∷ earlier) = cond (is_ip_on earlier)
      (cond (eq key newest && is_on_path protocol brings) (brings ∷ []) []
      ++ cond (eq key newest && is_arrival eq capacity key (keys (span earlier))) [] (contributions_by_place key protocol earlier))
      (contributions_by_place key protocol earlier)
  contributions_by_place key protocol (turns other stamp on ∷ earlier) = cond (nat_eq protocol other) [] (contributions_by_place key protocol earlier)
  contributions_by_place key protocol (turns_ip on ∷ earlier) = []
  contributions_by_place key protocol (begins ∷ earlier) = []
