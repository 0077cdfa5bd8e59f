-- That the valid rows are listed: each valid row is in the list, and no other one.
use Rattle.std.proofs.Common.{◌≡◌, ℕ, List, [], ◌∷◌, Bool, true, false, cond, not, Option, Some, None, refl, subst, nat_eq, nat_lt, arith, Contains, filter_map}
use Rattle.std.specs.Prelude.{filter}
use Rattle.std.specs.List.{cons_option}
use Rattle.std.proofs.lemmas.Bool.Decides.{nat_tests}
use Rattle.std.proofs.lemmas.List.Elements.{All-contains, filter_passes}
use Rattle.rm_model.specs.Journal.{Journal}
use Rattle.rm_model.specs.ControlTable.{ControlTable}
use Rattle.rm_model.specs.ControlRows.{no_rows, is_valid, is_absent}
use Rattle.rm_model.specs.declared.row.State.{State}
use Rattle.rm_model.specs.declared.row.State.TheVariants.{Absent, UnderCreation, Valid}
use Rattle.rm_model.proofs.Members.{none_in, here, there, each}
use Rattle.rm_model.specs.Indexes.{indexes_of}
use Rattle.rm_model.specs.Indexing.{one_of}
use Rattle.rm_model.proofs.Rows.{row_listed}
use Rattle.rm_acts.specs.Rows.{row_state, has_valid, with_number, with_numbers, named_rows, valid_rows}

behind_one : (o : Option ℕ) (xs : List ℕ) (row : ℕ) → Contains xs row → Contains (cons_option o xs) row
behind_one None xs row within = within
behind_one (Some other) xs row within = there other xs row within

in_numbers : (xs : List (List ℕ)) (row : ℕ) → Contains xs (row ∷ []) → Contains (filter_map one_of xs) row
in_numbers [] row within = absurd (none_in (row ∷ []) within)
in_numbers (x ∷ xs) row within =
    each (λ z. z ≡ row ∷ [] → Contains (cons_option (one_of x) (filter_map one_of xs)) row) x xs
    (λ same. rw same (here row (filter_map one_of xs)))
    (λ z more same. behind_one (one_of x) (filter_map one_of xs) row (in_numbers xs row (subst (Contains xs) same more)))
    (row ∷ []) within refl

-- a number is in a list with it, and so is each that was in it
in_with : (n : ℕ) (xs : List ℕ) → Contains (with_number n xs) n
in_with n [] = here n []
in_with n (first ∷ more) =
    elim (nat_lt n first) as (λ t. Contains (cond t (n ∷ first ∷ more) (cond (nat_eq n first) (first ∷ more) (first ∷ with_number n more))) n) [
      | true ↦ here n (first ∷ more)
      | false ↦ elim (nat_eq n first) as (λ t. nat_eq n first ≡ t → Contains (cond t (first ∷ more) (first ∷ with_number n more)) n) [
        | true ↦ λ same. let is : first ≡ n = grind (arith, nat_tests) in subst (Contains (first ∷ more)) is (here first more)
        | false ↦ λ apart. there first (with_number n more) n (in_with n more)
      ] refl
    ]

still_in : (n : ℕ) (xs : List ℕ) (m : ℕ) → Contains xs m → Contains (with_number n xs) m
still_in n [] m within = absurd (none_in m within)
still_in n (first ∷ more) m within =
    elim (nat_lt n first) as (λ t. Contains (cond t (n ∷ first ∷ more) (cond (nat_eq n first) (first ∷ more) (first ∷ with_number n more))) m) [
      | true ↦ there n (first ∷ more) m within
      | false ↦ elim (nat_eq n first) as (λ t. Contains (cond t (first ∷ more) (first ∷ with_number n more)) m) [
        | true ↦ within
        | false ↦ each (Contains (first ∷ with_number n more)) first more (here first (with_number n more)) (λ y later. there first (with_number n more) y (still_in n more y later)) m within
      ]
    ]

in_all : (xs others : List ℕ) (m : ℕ) → Contains xs m → Contains (with_numbers xs others) m
in_all [] others m within = absurd (none_in m within)
in_all (x ∷ xs) others m within =
    each (Contains (with_number x (with_numbers xs others))) x xs (in_with x (with_numbers xs others)) (λ y later. still_in x (with_numbers xs others) y (in_all xs others y later)) m within

in_filter : (p : ℕ → Bool) (xs : List ℕ) (m : ℕ) → p m ≡ true → Contains xs m → Contains (filter p xs) m
in_filter p [] m passes within = absurd (none_in m within)
in_filter p (x ∷ xs) m passes within =
    each (λ z. p z ≡ true → Contains (cond (p x) (x ∷ filter p xs) (filter p xs)) z) x xs
    (λ is. rw is (here x (filter p xs)))
    (λ z later is. skip (p x) z (in_filter p xs z is later)) m within passes
  where
    skip : (t : Bool) (z : ℕ) → Contains (filter p xs) z → Contains (cond t (x ∷ filter p xs) (filter p xs)) z
    skip true z is = there x (filter p xs) z is
    skip false z is = is

is_there : (state : State) → is_valid state ≡ true → not (is_absent state) ≡ true
is_there Valid is = refl
is_there UnderCreation is = refl
is_there Absent is = absurd (cc)

module _ (table : ControlTable) (journal : Journal) (row : ℕ) where
  pub listed : has_valid table journal row ≡ true → Contains (valid_rows table journal) row
  listed valid =
      in_filter (has_valid table journal) (named_rows table journal) row valid
      (in_all (filter_map one_of (indexes_of table [] journal)) [] row
      (in_numbers (indexes_of table [] journal) row
      (row_listed table no_rows [] (λ index is. absurd (cc)) journal (row ∷ []) (is_there (row_state table journal row) valid))))

  pub only_valid : Contains (valid_rows table journal) row → has_valid table journal row ≡ true
  only_valid within = All-contains (λ each. has_valid table journal each ≡ true) (valid_rows table journal) row (filter_passes (has_valid table journal) (named_rows table journal)) within
