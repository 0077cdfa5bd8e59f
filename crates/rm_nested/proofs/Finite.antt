-- That nested rows are finitely many.
use Rattle.std.proofs.Common.{◌≡◌, ℕ, zero, suc, ◌<◌, ◌≤◌, ◌⊎◌, inl, inr, List, [], ◌∷◌, ◌++◌, map, Contains, Bool, true, false, nat_le, ◌&&◌, refl, ap, subst, arith}
use Rattle.std.specs.Prelude.{flat_map, not}
use Rattle.std.proofs.lemmas.Bool.{and_parts}
use Rattle.std.proofs.lemmas.Bool.Decides.{nat_tests}
use Rattle.std.proofs.lemmas.List.Elements.{Contains-append_left, Contains-append_right}
use Rattle.rm_model.specs.Journal.{Journal}
use Rattle.rm_model.specs.ControlTable.{ControlTable}
use Rattle.rm_model.specs.ControlRows.{no_rows, state_of, is_absent, is_valid}
use Rattle.rm_model.specs.Indexes.{indexes_of}
use Rattle.rm_model.specs.declared.row.State.TheVariants.{Absent}
use Rattle.rm_model.proofs.Members.{none_in, here, there, each, in_map}
use Rattle.rm_model.proofs.Rows.{row_listed}
use Rattle.rm_status.specs.Rows.{row_number}
use Rattle.rm_status.proofs.RowFacts.{valid_there}
use Rattle.rm_nested.specs.Nested.{is_nested, is_number}

-- the numbers up to one
abbrev pub up_to : ℕ → List ℕ
up_to zero = 0 ∷ []
up_to (suc n) = suc n ∷ up_to n

last_or_under : (n k : ℕ) → k ≤ suc n → (suc n ≡ k) ⊎ (k ≤ n)
last_or_under n k h = by_test (nat_le k n) refl
  where
    by_test : (b : Bool) → nat_le k n ≡ b → (suc n ≡ k) ⊎ (k ≤ n)
    by_test true e = inr (grind (arith, nat_tests))
    by_test false e = inl (let over : n < k = grind (arith, nat_tests) in omega arith)

one_more : (n k : ℕ) → (suc n ≡ k) ⊎ (k ≤ n) → (k ≤ n → Contains (up_to n) k) → Contains (up_to (suc n)) k
one_more n k (inl same) under = subst (Contains (up_to (suc n))) same (here (suc n) (up_to n))
one_more n k (inr le) under = there (suc n) (up_to n) k (under le)

in_up_to : (n k : ℕ) → k ≤ n → Contains (up_to n) k
in_up_to zero k h = let is : 0 ≡ k = omega arith in subst (Contains (0 ∷ [])) is (here 0 [])
in_up_to (suc n) k h = one_more n k (last_or_under n k h) (λ le. in_up_to n k le)

in_flat_map : (f : List ℕ → List (List ℕ)) (xs : List (List ℕ)) (x y : List ℕ) → Contains xs x → Contains (f x) y → Contains (flat_map f xs) y
in_flat_map f [] x y within part = absurd (none_in x within)
in_flat_map f (z ∷ zs) x y within part =
    each (λ w. Contains (f w) y → Contains (f z ++ flat_map f zs) y) z zs
    (λ own. Contains-append_left (f z) (flat_map f zs) y own)
    (λ w more own. Contains-append_right (f z) (flat_map f zs) y (in_flat_map f zs w y more own))
    x within part

-- indexes of one number, up to one
abbrev pub numbers : ℕ → List (List ℕ)
numbers most = map (λ n. n ∷ []) (up_to most)

pub in_numbers : (test : ℕ → Bool) (most : ℕ) → ((n : ℕ) → test n ≡ true → n ≤ most) → (index : List ℕ) → is_number test index ≡ true → Contains (numbers most) index
in_numbers test most low [] is = absurd (cc)
in_numbers test most low (n ∷ []) is = in_map (λ (k : ℕ). k ∷ []) (up_to most) n (in_up_to most n (low n is))
in_numbers test most low (n ∷ next ∷ more) is = absurd (cc)

-- the indexes of nested rows, where the control rows are among some and each has the inner indexes of a list
abbrev pub nested : List (List ℕ) → (ℕ → List (List ℕ)) → List (List ℕ)
nested rows inner = flat_map (λ index. map (λ more. row_number index ∷ more) (inner (row_number index))) rows

-- a list has each of them, where the control rows are among some, and each row has finitely many inner indexes
pub in_nested : (is_inner : ℕ → List ℕ → Bool) (rows : List (List ℕ)) (inner : ℕ → List (List ℕ))
    → ((row : ℕ) (index : List ℕ) → is_inner row index ≡ true → Contains rows (row ∷ []))
    → ((row : ℕ) (index : List ℕ) → is_inner row index ≡ true → Contains (inner row) index)
    → (index : List ℕ) → is_nested is_inner index ≡ true → Contains (nested rows inner) index
in_nested is_inner rows inner outer within [] is = absurd (cc)
in_nested is_inner rows inner outer within (row ∷ index) is =
    in_flat_map (λ index. map (λ more. row_number index ∷ more) (inner (row_number index))) rows (row ∷ []) (row ∷ index) (outer row index is)
    (in_map (λ (more : List ℕ). row ∷ more) (inner row) index (within row index is))

-- Rows of a control table that has none at first, and the numbered inner rows of those that are valid.

none_begins : (index : List ℕ) → not (is_absent Absent) ≡ true → Contains {X = List ℕ} [] index
none_begins index is = absurd (cc)

module _ (table : ControlTable) (journal : Journal) where
  -- the indexes that its rows can have after a journal
  abbrev pub rows_of : List (List ℕ)
  rows_of = indexes_of table [] journal

  pub in_rows : (index : List ℕ) → not (is_absent (state_of table no_rows journal index)) ≡ true → Contains rows_of index
  in_rows index is = row_listed table no_rows [] none_begins journal index is

  -- inner rows with the numbers that are shown of a row, none above a last one
  module _ (shown : ℕ → ℕ → Bool) (last : ℕ → ℕ) (low : (row number : ℕ) → shown row number ≡ true → number ≤ last row) where
    abbrev is_inner : ℕ → ℕ → Bool
    is_inner row number = is_valid (state_of table no_rows journal (row ∷ [])) && shown row number

    -- the indexes that they can have: those of the rows, each followed by a number
    abbrev pub numbered_of : List (List ℕ)
    numbered_of = nested rows_of (λ row. numbers (last row))

    parts : (row number : ℕ) → is_inner row number ≡ true → (is_valid (state_of table no_rows journal (row ∷ [])) ≡ true) × (shown row number ≡ true)
    parts row number is = and_parts (is_valid (state_of table no_rows journal (row ∷ []))) (shown row number) is

    of_row : (row : ℕ) (index : List ℕ) → is_number (is_inner row) index ≡ true → Contains rows_of (row ∷ [])
    of_row row [] is = absurd (cc)
    of_row row (number ∷ []) is = in_rows (row ∷ []) (ap not (valid_there (state_of table no_rows journal (row ∷ [])) (parts row number is).0))
    of_row row (number ∷ next ∷ more) is = absurd (cc)

    of_number : (row : ℕ) (index : List ℕ) → is_number (is_inner row) index ≡ true → Contains (numbers (last row)) index
    of_number row index is = in_numbers (is_inner row) (last row) (λ number inner. low row number (parts row number inner).1) index is

    pub in_numbered : (index : List ℕ) → is_nested (λ row index. is_number (is_inner row) index) index ≡ true → Contains numbered_of index
    in_numbered index is = in_nested (λ row index. is_number (is_inner row) index) rows_of (λ row. numbers (last row)) of_row of_number index is
