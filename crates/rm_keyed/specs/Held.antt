-- What the mentions so far say of the rows, by their keys and by their ranks.
use Rattle.std.specs.Prelude.{ℕ, Bool, cond, List, find, nat_eq, Option, Some, None}
use Rattle.std.specs.Str.{bytes_eq}
use Rattle.rm_evicting.specs.Mention.{Mention, keys}
use Rattle.rm_evicting.specs.Held.{held, held_keys, order, shares}
use Rattle.rm_evicting.specs.Stands.{total}

module _ {K C : Type 0} (eq : K → K → Bool) (capacity : ℕ) (mentions : List (Mention K C)) where
  -- a fact of a key that is held
  abbrev pub if_held : {X : Type 0} → K → X → Option X
  if_held key fact = cond (held eq capacity key (keys mentions)) (Some fact) None

  -- the rank of a key in the order of entry, if it is held
  abbrev pub rank_held : K → Option ℕ
  rank_held key = if_held key (order eq capacity key mentions)

  -- the key of a rank, if one that is held has it
  abbrev pub key_of_rank : ℕ → Option K
  key_of_rank rank = find (λ key. nat_eq (order eq capacity key mentions) rank) (held_keys eq capacity (keys mentions))

  -- the key that has these numbers for its index, if one that is held has them
  abbrev pub key_of_index : (K → List ℕ) → List ℕ → Option K
  key_of_index index numbers = find (λ key. bytes_eq (index key) numbers) (held_keys eq capacity (keys mentions))

  -- what a key has gained since its entry, if it is held
  abbrev pub value_held : {V : Type 0} → V → (V → C → V) → K → Option V
  value_held blank plus key = if_held key (total blank plus (shares eq capacity key mentions))
