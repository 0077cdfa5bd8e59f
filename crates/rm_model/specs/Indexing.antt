-- The indexes of the rows of a control table, and the numbers by which code holds its rows.
use Rattle.std.proofs.Common.{◌≡◌, ℕ, ◌^◌, ◌<◌, ◌≤◌, List, [], ◌∷◌, Bool, true, ◌&&◌, nat_le, nat_lt, length, get_or, Option, Some, None, refl, arith}
use Rattle.std.proofs.lemmas.Bool.Decides.{nat_tests}
use Rattle.rm_model.specs.Names.{Below}

-- Which lists of numbers can be the index of a row, by the numbers under which code holds the rows: the index of each number and the number of
-- an index, also where the number is no row's; which numbers are those of rows; and the most numbers that the index of a row has.
pub record Indexing : Type 0 where
  pub index_of : ℕ → List ℕ
  pub number_of : List ℕ → Option ℕ
  pub is_row : ℕ → Bool
  pub longest : ℕ

-- the map is one to one
pub record IsOneToOne (indexing : Indexing) : Type 0 where
  pub forth : (index : List ℕ) (n : ℕ) → indexing.number_of index ≡ Some n → indexing.index_of n ≡ index

-- The map is one to one both ways, and the numbers of rows have 32 bits and rise as their indexes do. No index is empty, and the first
-- number of a row's index is an INTEGER.
pub record IsIndexing (indexing : Indexing) : Type 0 where
  pub one_to_one : IsOneToOne indexing
  pub back : (n : ℕ) → indexing.number_of (indexing.index_of n) ≡ Some n
  pub within : (n : ℕ) → indexing.is_row n ≡ true → (0 < n) × (n < 2 ^ 32)
  pub rises : (m n : ℕ) → indexing.is_row m ≡ true → indexing.is_row n ≡ true → m < n → Below (indexing.index_of m) (indexing.index_of n)
  pub not_empty : indexing.number_of [] ≡ None
  pub fits : (n : ℕ) → indexing.is_row n ≡ true → length (indexing.index_of n) ≤ indexing.longest
  pub shows : (n : ℕ) → indexing.is_row n ≡ true → get_or (indexing.index_of n) 0 0 < 2 ^ 31

-- the number that is the whole of an index
abbrev pub one_of : List ℕ → Option ℕ
one_of [] = None
one_of (n ∷ []) = Some n
one_of (n ∷ next ∷ more) = None

-- the indexes that are one number
abbrev pub one_number : Indexing
one_number = record { index_of = λ n. n ∷ []; number_of = one_of; is_row = λ n. nat_le 1 n && nat_le n 65535; longest = 1 }

one_forth : (index : List ℕ) (n : ℕ) → one_of index ≡ Some n → n ∷ [] ≡ index
one_forth [] n is = absurd (cc)
one_forth (m ∷ []) n is = cc
one_forth (m ∷ next ∷ more) n is = absurd (cc)

one_rises : (m n : ℕ) → m < n → Below (m ∷ []) (n ∷ [])
one_rises m n below = let less : nat_lt m n ≡ true = grind (arith, nat_tests) in rw less refl

-- the numbers of rows
pub one_within : (n : ℕ) → (nat_le 1 n && nat_le n 65535) ≡ true → (0 < n) × (n < 65536)
one_within n is = (grind (arith, nat_tests), grind (arith, nat_tests))

pub by_one_number : IsIndexing one_number
by_one_number = record {
  one_to_one = record { forth = one_forth };
  back = λ n. refl;
  within = λ n is. let it = one_within n is in (it.0, omega arith);
  rises = λ m n _ _ below. one_rises m n below;
  not_empty = refl;
  fits = λ n is. omega arith;
  shows = λ n is. let it = one_within n is in omega arith;
}
