-- Keys by their indexes, and rows by their ranks.
use Rattle.std.specs.Prelude.{ℕ, List, [], ◌∷◌, Bool, ◌&&◌, nat_le, find, is_some, Option, None}
use Rattle.std.specs.Str.{bytes_eq}
use Rattle.rm_evicting.specs.declared.Row.{Row}
use Rattle.rm_rows.specs.Table.{key_at}

module _ {K : Type 0} where
  -- the key that has these numbers for its index, if one of these has
  abbrev pub key_with : (K → List ℕ) → (keys : List K) → List ℕ → Option K
  key_with index keys numbers = find (λ key. bytes_eq (index key) numbers) keys

  abbrev pub is_index_of : (K → List ℕ) → (keys : List K) → List ℕ → Bool
  is_index_of index keys numbers = is_some (key_with index keys numbers)

module _ {K V : Type 0} where
  -- the key of the row that has a number for its rank, where these numbers are one that is a rank
  abbrev pub key_ranked : List (Row K V) → List ℕ → Option K
  key_ranked rows (rank ∷ []) = key_at rank rows
  key_ranked rows [] = None
  key_ranked rows (rank ∷ next ∷ more) = None

  abbrev pub is_rank_of : List (Row K V) → List ℕ → Bool
  is_rank_of rows numbers = is_some (key_ranked rows numbers)

-- whether a number is the rank of one of so many rows
abbrev pub is_rank : (rows rank : ℕ) → Bool
is_rank rows rank = nat_le 1 rank && nat_le rank rows
