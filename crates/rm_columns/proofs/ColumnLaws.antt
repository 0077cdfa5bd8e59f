-- How the columns of a control table are set, put together from one law for each column.
use Rattle.std.proofs.Common.{◌≡◌, ℕ, List, [], ◌∷◌, Bool, true, false, cond, Option, Some, None, refl, subst, nat_eq, find, arith}
use Rattle.std.specs.Option.{option_map}
use Rattle.std.proofs.lemmas.Bool.Decides.{nat_tests}
use borrow.Author.Tests.{eqb-true}
use Rattle.rm_val.specs.Val.{Val}
use Rattle.rm_model.specs.ControlTable.{Column}
use Rattle.rm_model.specs.Judgement.{value_fault}
use Rattle.rm_columns.specs.Field.{kind_in, FieldOf}

-- After one of some columns was set to a value, where it takes that value, it has the value that it was set to. All other
-- columns have what they had, whatever the value.
pub record Sets (columns : List Column) (n : ℕ) (value : Val) (before after : ℕ → Option Val) : Type 0 where
  pub itself : value_fault (kind_in columns n) value ≡ None → after n ≡ Some value
  pub others : (m : ℕ) → nat_eq n m ≡ false → after m ≡ before m

-- of no columns none is set
pub no_columns : (n : ℕ) (value : Val) → Sets [] n value (λ m. None) (λ m. None)
no_columns n value = record { itself = λ fine. absurd (cc); others = λ m other. refl }

module _ {F : Type 0} (field : FieldOf F) (c : Column) (holds : field.holds c.kind ≡ true)
    (more : List Column) (n : ℕ) (value : Val) (old : F) (before after : ℕ → Option Val) (sets : Sets more n value before after) where
  abbrev new : F
  new = cond (nat_eq c.number n) (field.taken value) old

  its_own : (t : Bool) → value_fault (option_map (λ x. x.kind) (cond t (Some c) (find (λ x. nat_eq x.number n) more))) value ≡ None → cond t (field.shown (cond t (field.taken value) old)) (after n) ≡ Some value
  its_own true fine = field.shows c.kind value holds fine
  its_own false fine = sets.itself fine

  apart : (m : ℕ) (s t : Bool) → nat_eq c.number m ≡ s → nat_eq c.number n ≡ t → nat_eq n m ≡ false → cond s (field.shown (cond t (field.taken value) old)) (after m) ≡ cond s (field.shown old) (before m)
  apart m false t here there other = sets.others m other
  apart m true false here there other = refl
  apart m true true here there other =
      let one : c.number ≡ m = eqb-true c.number m here in
      let two : c.number ≡ n = eqb-true c.number n there in
      absurd (grind (arith, nat_tests))

  -- one column more, which is kept in a field of its own
  pub one_more : Sets (c ∷ more) n value (λ m. cond (nat_eq c.number m) (field.shown old) (before m)) (λ m. cond (nat_eq c.number m) (field.shown new) (after m))
  one_more = record {
    itself = its_own (nat_eq c.number n);
    others = λ m other. apart m (nat_eq c.number m) (nat_eq c.number n) refl refl other;
  }

-- a column that takes its value is set to it, and no other column
pub set_of : (columns : List Column) (n m : ℕ) (value : Val) (before after : ℕ → Option Val) → Sets columns n value before after → value_fault (kind_in columns n) value ≡ None → after m ≡ cond (nat_eq n m) (Some value) (before m)
set_of columns n m value before after sets fine =
    elim (nat_eq n m) as (λ t. nat_eq n m ≡ t → after m ≡ cond t (Some value) (before m)) [
      | true ↦ λ same. subst (λ k. after k ≡ Some value) (eqb-true n m same) (sets.itself fine)
      | false ↦ λ other. sets.others m other
    ] refl
