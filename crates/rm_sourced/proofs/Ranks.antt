-- Rows by their ranks: the index of a key is its rank alone.
use Rattle.std.proofs.Common.{◌≡◌, ℕ, List, [], ◌∷◌, Bool, true, false, ◌&&◌, nat_eq, None, find, refl, ap, ◌∙◌}
use Rattle.rm_evicting.specs.declared.Row.{Row}
use Rattle.rm_evicting.specs.Mention.{Mention, keys}
use Rattle.rm_evicting.specs.Held.{IsExact, held_keys, order}
use Rattle.rm_evicting.specs.Stands.{IsTotal, Stands}
use Rattle.rm_keyed.specs.Held.{key_of_index}
use Rattle.rm_keyed.specs.Indexes.{key_ranked}
use Rattle.rm_keyed.proofs.HeldRows.{made_here}

find_nothing : {X : Type 0} (xs : List X) → None ≡ find (λ x. false) xs
find_nothing [] = refl
find_nothing (x ∷ xs) = find_nothing xs

and_true : (a : Bool) → a ≡ (a && true)
and_true true = refl
and_true false = refl

and_false : (a : Bool) → false ≡ (a && false)
and_false true = refl
and_false false = refl

module _ {K V : Type 0} (eq : K → K → Bool) (exact : IsExact eq) (blank : V) (plus : V → V → V) (capacity : ℕ) (mentions : List (Mention K V)) (rows : List (Row K V))
    (stands : Stands eq (IsTotal blank plus) capacity mentions rows) where
  abbrev rank : K → ℕ
  rank key = order eq capacity key mentions

  abbrev among : List K
  among = held_keys eq capacity (keys mentions)

  pub ranked_held : (numbers : List ℕ) → key_ranked rows numbers ≡ key_of_index eq capacity mentions (λ key. rank key ∷ []) numbers
  ranked_held [] = find_nothing among
  ranked_held (number ∷ []) =
      made_here eq exact blank plus capacity mentions rows stands number
      ∙ ap (λ (test : K → Bool). find test among) (λ d key. and_true (nat_eq (rank key) number) d)
  ranked_held (number ∷ next ∷ more) =
      find_nothing among
      ∙ ap (λ (test : K → Bool). find test among) (λ d key. and_false (nat_eq (rank key) number) d)
