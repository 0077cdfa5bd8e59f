-- The bindings of a Set in a row's columns.
use Rattle.std.proofs.Common.{◌≡◌, ℕ, ◌<◌, suc, Bool, true, false, cond, ◌&&◌, List, [], ◌∷◌, length, Option, Some, None, find, nat_eq, refl, sym, ap, ◌∙◌, subst, arith, option_map}
use Rattle.std.specs.Prelude.{is_some, is_none}
use Rattle.std.specs.Option.{option_or, option_and_then}
use Rattle.std.specs.Str.{bytes_eq}
use borrow.Author.Tests.{eqb-true}
use Rattle.rm_val.specs.Val.{Val}
use Rattle.rm_model.specs.declared.place.Place.{Place}
use Rattle.rm_model.specs.declared.place.Place.TheVariants.{Outside, Entry, Column, Cell}
use Rattle.rm_model.specs.Journal.{value_given}
use Rattle.rm_model.specs.ControlTable.{row_index, ControlTable, column_of, is_ready}
use Rattle.rm_model.specs.ControlRows.{cell_name, is_absent}
use Rattle.rm_model.specs.Judgement.{Bindings, place_of, column_kind, writable_kind, value_fault, alone_fault, first_pass, of_columns, set_before, is_sound}
use Rattle.rm_status.specs.declared.row.Row.{Row}
use Rattle.rm_status.specs.Rows.{row_in, state_seen, columns_seen, rows_before, AreControlRows}
use Rattle.rm_status.specs.Commit.{is_cell, put_at, put_all}
use Rattle.rm_status.proofs.RowsBefore.{number_at}
use Rattle.rm_status.proofs.RowFacts.{row_there}
use Rattle.rm_status.proofs.PlaceLemmas.{is_cell_name}

no_first : {A : Type 0} (o p : Option A) → option_or o p ≡ None → o ≡ None
no_first None p h = refl
no_first (Some x) p h = cc

-- nothing is wrong with each binding alone
abbrev pub AllFine : ControlTable → Bindings → Type 0
AllFine t [] = Unit {0}
AllFine t (b ∷ bs) = (alone_fault t (place_of t b.name) b.value ≡ None) × AllFine t bs

pub all_fine : (t : ControlTable) (bs : Bindings) → ((k : ℕ) → k < length bs → first_pass t bs k ≡ None) → AllFine t bs
all_fine t [] h = tt
all_fine t (b ∷ bs) h = (h 0 (omega arith), all_fine t bs (λ k lt. h (suc k) (omega arith)))

pub left_part : (a b : Bool) → (a && b) ≡ true → a ≡ true
left_part true b h = refl
left_part false b h = cc

-- a writable column beside the status isn't the status
not_status : (t : ControlTable) (m : ℕ) → is_sound t ≡ true → is_some (column_of t m) ≡ true → nat_eq t.status m ≡ false
not_status t m sound column =
    elim (nat_eq t.status m) as (λ b. nat_eq t.status m ≡ b → b ≡ false) [
      | true ↦ λ e.
          let is : t.status ≡ m = eqb-true t.status m e in
          let none : is_none (column_of t m) ≡ true = subst (λ n. is_none (column_of t n) ≡ true) is (left_part (is_none (column_of t t.status)) _ sound) in
          absurd (both (column_of t m) none column)
      | false ↦ λ _. refl
    ] refl
  where
    both : {A : Type 0} (o : Option A) → is_none o ≡ true → is_some o ≡ true → ⊥
    both None none some = cc
    both (Some x) none some = cc

module _ {C : Type 0} (t : ControlTable) (with_column : C → ℕ → Val → C) (blank : ℕ → C) (set_to : C → ℕ → Option Val) (law : (c : C) (n m : ℕ) (v : Val) → value_fault (column_kind t n) v ≡ None → set_to (with_column c n v) m ≡ cond (nat_eq n m) (Some v) (set_to c m)) where
  taken : (c : ℕ) (v : Val) → nat_eq c t.status ≡ false → value_fault (writable_kind t c) v ≡ None → value_fault (column_kind t c) v ≡ None
  taken c v other fine = rw other at fine

  set_at : (i m : ℕ) (p : Place) (v : Val) (x : C) → nat_eq t.status m ≡ false → alone_fault t p v ≡ None → set_to (put_at t with_column blank i p v x) m ≡ cond (is_cell m i p) (Some v) (set_to x m)
  set_at i m Outside v x ne fine = refl
  set_at i m Entry v x ne fine = refl
  set_at i m (Column c) v x ne fine = refl
  set_at i m (Cell c k) v x ne fine =
      elim (nat_eq k i) as (λ s. set_to (cond s (cond (nat_eq c t.status) x (with_column x c v)) x) m ≡ cond (s && nat_eq c m) (Some v) (set_to x m)) [
        | true ↦ elim (nat_eq c t.status) as (λ s. nat_eq c t.status ≡ s → set_to (cond s x (with_column x c v)) m ≡ cond (nat_eq c m) (Some v) (set_to x m)) [
          | true ↦ λ e. let is : c ≡ t.status = eqb-true c t.status e in rw (is, ne)
          | false ↦ λ e. law x c m v (taken c v e (no_first _ _ fine))
        ] refl
        | false ↦ refl
      ]

  -- what a column is then set to
  pub set_in_all : (bs : Bindings) (i m : ℕ) (x : C) → nat_eq t.status m ≡ false → AllFine t bs → set_to (put_all t with_column blank bs i x) m ≡ option_or (value_given bs (cell_name t.entry m (row_index t i))) (set_to x m)
  set_in_all [] i m x ne fine = refl
  set_in_all (b ∷ bs) i m x ne fine =
      let name : List ℕ = cell_name t.entry m (row_index t i) in
      set_at i m (place_of t b.name) b.value (put_all t with_column blank bs i x) ne fine.0
      ∙ elim (is_cell m i (place_of t b.name)) as (λ s. cond s (Some b.value) (set_to (put_all t with_column blank bs i x) m) ≡ option_or (option_map (λ a. a.value) (cond s (Some b) (find (λ a. bytes_eq a.name name) bs))) (set_to x m)) [
        | true ↦ refl
        | false ↦ set_in_all bs i m x ne fine.1
      ]
      ∙ ap (λ s. option_or (option_map (λ a. a.value) (cond s (Some b) (find (λ a. bytes_eq a.name name) bs))) (set_to x m)) (is_cell_name t t.entry b.name m i)

  module _ (sound : is_sound t ≡ true) (bs : Bindings) (i : ℕ) (x : C) (fine : AllFine t bs) where
    each : (m : ℕ) → of_columns t (set_to (put_all t with_column blank bs i x)) m ≡ of_columns t (λ column. option_or (value_given bs (cell_name t.entry column (row_index t i))) (set_to x column)) m
    each m = elim (is_some (column_of t m)) as (λ b. is_some (column_of t m) ≡ b → cond b (set_to (put_all t with_column blank bs i x) m) None ≡ cond b (option_or (value_given bs (cell_name t.entry m (row_index t i))) (set_to x m)) None) [
      | true ↦ λ e. set_in_all bs i m x (not_status t m sound e) fine
      | false ↦ λ _. refl
    ] refl

    -- so a row is as ready as its columns say
    pub ready_is : is_ready t (of_columns t (set_to (put_all t with_column blank bs i x))) ≡ is_ready t (of_columns t (λ column. option_or (value_given bs (cell_name t.entry column (row_index t i))) (set_to x column)))
    ready_is = ap (is_ready t) (λ d m. each m d)

-- a row is as ready by columns that were set to the same
pub same_ready : (t : ControlTable) (given set other : ℕ → Option Val) → ((n : ℕ) → set n ≡ other n) → is_ready t (of_columns t (λ n. option_or (given n) (set n))) ≡ is_ready t (of_columns t (λ n. option_or (given n) (other n)))
same_ready t given set other same = ap (λ (f : ℕ → Option Val). is_ready t (of_columns t (λ n. option_or (given n) (f n)))) (λ d n. (same n) d)

module _ {C : Type 0} (t : ControlTable) (set_to : C → ℕ → Option Val) (rows : List (Row C)) (i : ℕ) where
  abbrev before_in : Option (Row C) → ℕ → Option Val
  before_in o n = cond (is_absent (state_seen o)) (t.rules.first (row_index t i) n) (option_and_then (λ c. set_to c n) (columns_seen o))

  before_at : (n : ℕ) → before_in (row_in rows i) n ≡ set_before t (rows_before t set_to rows) (row_index t i) n
  before_at n = ap (λ k. before_in (row_in rows k) n) (sym (number_at t i))

  -- what the columns of a row were set to before a Set, and what they are set to at first
  pub set_held : AreControlRows t rows → (row : Row C) → Some row ≡ row_in rows i → (n : ℕ) → set_to row.columns n ≡ set_before t (rows_before t set_to rows) (row_index t i) n
  set_held held row here n =
      sym (ap (λ b. cond b (t.rules.first (row_index t i) n) (set_to row.columns n)) (row_there t rows i row held (sym here))) ∙ ap (λ o. before_in o n) here ∙ before_at n

  pub set_not_held : None ≡ row_in rows i → (n : ℕ) → t.rules.first (row_index t i) n ≡ set_before t (rows_before t set_to rows) (row_index t i) n
  set_not_held none n = ap (λ o. before_in o n) none ∙ before_at n
