-- The ranks that rows have.
use Rattle.std.proofs.Common.{◌≡◌, ℕ, zero, suc, ◌+◌, ◌-◌, true, false, ◌&&◌, List, [], ◌∷◌, length, drop, slice_index, None, refl, sym, ◌∙◌, nat_le, slice_get, option_map, arith}
use Rattle.std.specs.Prelude.{is_some}
use Rattle.std.proofs.lemmas.Bool.Decides.{nat_tests}
use Rattle.std.proofs.lemmas.List.{drop_all, drop_more, length-drop}
use Rattle.rm_nested.specs.Nested.{is_number}
use Rattle.rm_evicting.specs.declared.Row.{Row}
use Rattle.rm_rows.specs.Table.{key_at, key_of}
use Rattle.rm_keyed.specs.Indexes.{is_rank, key_ranked, is_rank_of}

none_above : (i : ℕ) → false ≡ (nat_le 1 (suc i) && nat_le (suc i) 0)
none_above i = grind (arith, nat_tests)

first_within : (n : ℕ) → true ≡ (nat_le 1 1 && nat_le 1 (suc n))
first_within n = grind (arith, nat_tests)

next_within : (i n : ℕ) → (nat_le 1 (suc i) && nat_le (suc i) n) ≡ (nat_le 1 (suc (suc i)) && nat_le (suc (suc i)) (suc n))
next_within i n = grind (arith, nat_tests)

-- there is a row of each rank from 1 to their number
module _ {K V : Type 0} where
  some_there : (i : ℕ) (rows : List (Row K V)) → is_some (option_map key_of (slice_get rows i)) ≡ is_rank (length rows) (suc i)
  some_there i [] = none_above i
  some_there zero (row ∷ rows) = first_within (length rows)
  some_there (suc i) (row ∷ rows) = some_there i rows ∙ next_within i (length rows)

  some_at : (rank : ℕ) (rows : List (Row K V)) → is_some (key_at rank rows) ≡ is_rank (length rows) rank
  some_at zero rows = refl
  some_at (suc i) rows = some_there i rows

  pub ranks_are : (rows : List (Row K V)) (numbers : List ℕ) → is_number (is_rank (length rows)) numbers ≡ is_rank_of rows numbers
  ranks_are rows [] = refl
  ranks_are rows (rank ∷ []) = sym (some_at rank rows)
  ranks_are rows (rank ∷ next ∷ more) = refl

  -- the key of the rank that is all of some numbers from a place on
  pub ranked_at : (rows : List (Row K V)) (numbers : List ℕ) (from : ℕ) → length numbers - from ≡ 1 → key_at (slice_index numbers from) rows ≡ key_ranked rows (drop from numbers)
  ranked_at rows numbers from one = rw (drop_more numbers from 0 (omega (arith, one)), drop_all (from + 1) numbers (omega (arith, one))) refl

  pub none_ranked : (rows : List (Row K V)) (numbers : List ℕ) (from : ℕ) → (length numbers - from ≡ 1 → ⊥) → None ≡ key_ranked rows (drop from numbers)
  none_ranked rows numbers from other = at_rest (drop from numbers) (λ one. other (sym (length-drop from numbers) ∙ one))
    where
      at_rest : (rest : List ℕ) → (length rest ≡ 1 → ⊥) → None ≡ key_ranked rows rest
      at_rest [] other = refl
      at_rest (rank ∷ []) other = absurd (other refl)
      at_rest (rank ∷ next ∷ more) other = refl
