-- What holds of rows whose table is described as data.
use Rattle.std.proofs.Common.{◌≡◌, ℕ, List, [], ◌∷◌, Bool, true, false, cond, ◌&&◌, ◌||◌, Option, Some, None, refl, sym, ap, ◌∙◌, nat_eq, find, arith}
use Rattle.std.specs.Prelude.{not, is_some, is_none, unwrap_or}
use Rattle.std.specs.List.{list_all, AllByRecursion}
use Rattle.std.specs.Option.{option_map, option_map_or, option_copied}
use Rattle.std.specs.Borrow.{Bor}
use Rattle.std.proofs.lemmas.Bool.Decides.{nat_tests}
use Rattle.rm_val.specs.Val.{Val, null}
use Rattle.rm_model.specs.ControlTable.{Column, ControlTable, default_of}
use Rattle.rm_model.specs.Judgement.{of_columns}
use Rattle.rm_model.specs.Alike.{IsSameColumn, HasSameColumns}
use Rattle.rm_model.specs.Sheet.{are_apart, column_of, columns_of}
use Rattle.rm_model.specs.declared.sheet.ColumnSheet.{ColumnSheet}
use Rattle.rm_columns.specs.Field.{first_value, first_in}

right : (a b : Bool) → (a && b) ≡ true → b ≡ true
right true b h = h
right false b h = absurd (cc)

left : (a b : Bool) → (a && b) ≡ true → a ≡ true
left true b h = refl
left false b h = absurd (cc)

same_number : (n : ℕ) → nat_eq n n ≡ true
same_number n = grind (arith, nat_tests)

some_is : {A : Type 0} (x y : A) → Some x ≡ Some y → x ≡ y
some_is x y e = cc

-- what a column begins with, by the column that its number finds
found_first : (columns : List Column) (c : Column) → find (λ x. nat_eq x.number c.number) columns ≡ Some c → first_in columns c.number ≡ first_value c
found_first [] c found = absurd (cc)
found_first (x ∷ more) c found =
    elim (nat_eq x.number c.number) as (λ t. cond t (Some x) (find (λ y. nat_eq y.number c.number) more) ≡ Some c → cond t (first_value x) (first_in more c.number) ≡ first_value c) [
      | true ↦ λ is. ap first_value (some_is x c is)
      | false ↦ λ is. found_first more c is
    ] found

-- each of some columns is the one that its number finds
abbrev AreFound : List Column → List Column → Type 0
AreFound columns = AllByRecursion (λ c. find (λ x. nat_eq x.number c.number) columns ≡ Some c)

behind_one : (x : Column) (columns some : List Column) → list_all (λ other. not (nat_eq x.number other.number)) some ≡ true → AreFound columns some → AreFound (x ∷ columns) some
behind_one x columns [] apart are = tt
behind_one x columns (c ∷ some) apart are = (
  other (nat_eq x.number c.number) (left (not (nat_eq x.number c.number)) (list_all (λ other. not (nat_eq x.number other.number)) some) apart),
  behind_one x columns some (right (not (nat_eq x.number c.number)) _ apart) are.1,
)
  where
    other : (t : Bool) → not t ≡ true → cond t (Some x) (find (λ y. nat_eq y.number c.number) columns) ≡ Some c
    other true not_so = absurd (cc)
    other false is = are.0

all_found : (columns : List Column) → are_apart columns ≡ true → AreFound columns columns
all_found [] apart = tt
all_found (c ∷ more) apart = (
  ap (λ t. cond t (Some c) (find (λ y. nat_eq y.number c.number) more)) (same_number c.number),
  behind_one c more more (left (list_all (λ other. not (nat_eq c.number other.number)) more) (are_apart more) apart) (all_found more (right (list_all (λ other. not (nat_eq c.number other.number)) more) (are_apart more) apart)),
)

-- a new row shows its defaults, and nothing that it needs is set
pub row_begins : (table : ControlTable) (set : ℕ → Option Val) → ((n : ℕ) → set n ≡ first_in table.columns n) → are_apart table.columns ≡ true → HasSameColumns table set (λ column. None)
row_begins table set begins apart = each table.columns (all_found table.columns apart)
  where
    each : (some : List Column) → AreFound table.columns some → AllByRecursion (IsSameColumn table set (λ column. None)) some
    each [] are = tt
    each (c ∷ some) are = (one, each some are.1)
      where
        first : set c.number ≡ first_value c
        first = begins c.number ∙ found_first table.columns c are.0

        default_is : default_of table c.number ≡ c.default
        default_is = ap (λ o. option_map_or (λ x. x.default) o null) are.0

        shown : (b : Bool) → unwrap_or (cond b None (Some c.default)) (default_of table c.number) ≡ default_of table c.number
        shown true = refl
        shown false = sym default_is

        needs : (b : Bool) → b ≡ true → is_some (cond b None (Some c.default)) ≡ false
        needs true is = refl
        needs false is = absurd (cc)

        one : IsSameColumn table set (λ column. None) c
        one = record {
          shown = ap (λ o. unwrap_or o (default_of table c.number)) first ∙ shown c.needed;
          needed = λ is. ap is_some first ∙ needs c.needed is;
        }

-- The column with a number, by the description and by what it describes.
pub found_column : (columns : List ColumnSheet) (n : ℕ) → find (λ c. nat_eq c.number n) (columns_of columns) ≡ option_map column_of (find (λ c. nat_eq c.number n) columns)
found_column [] n = refl
found_column (c ∷ more) n =
    elim (nat_eq c.number n) as (λ t. cond t (Some (column_of c)) (find (λ x. nat_eq x.number n) (columns_of more)) ≡ option_map column_of (cond t (Some c) (find (λ x. nat_eq x.number n) more))) [
      | true ↦ refl
      | false ↦ found_column more n
    ]

-- Each column that a row needs was set where none is found that wasn't.
pub none_missing : (set : ℕ → Option Val) (some : List ColumnSheet)
    → not (is_some (find (λ c. c.needed && is_none (set c.number)) some)) ≡ list_all (λ c. not c.needed || is_some (set c.number)) (columns_of some)
none_missing set [] = refl
none_missing set (c ∷ some) = by_test (c.needed) (set c.number) (none_missing set some)
  where
    by_test : (b : Bool) (o : Option Val) → not (is_some (find (λ x. x.needed && is_none (set x.number)) some)) ≡ list_all (λ x. not x.needed || is_some (set x.number)) (columns_of some)
        → not (is_some (cond (b && is_none o) (Some c) (find (λ x. x.needed && is_none (set x.number)) some))) ≡ ((not b || is_some o) && list_all (λ x. not x.needed || is_some (set x.number)) (columns_of some))
    by_test true None same = refl
    by_test true (Some x) same = same
    by_test false o same = same

-- each column is among the columns
pub needed_among : (table : ControlTable) (set : ℕ → Option Val) → are_apart table.columns ≡ true
    → list_all (λ c. not c.needed || is_some (set c.number)) table.columns ≡ list_all (λ c. not c.needed || is_some (of_columns table set c.number)) table.columns
needed_among table set apart = each table.columns (all_found table.columns apart)
  where
    each : (some : List Column) → AreFound table.columns some → list_all (λ c. not c.needed || is_some (set c.number)) some ≡ list_all (λ c. not c.needed || is_some (of_columns table set c.number)) some
    each [] are = refl
    each (c ∷ some) are =
        ap (λ o. (not c.needed || is_some (cond (is_some o) (set c.number) None)) && list_all (λ x. not x.needed || is_some (set x.number)) some) (sym are.0)
        ∙ ap (λ b. (not c.needed || is_some (of_columns table set c.number)) && b) (each some are.1)

pub is_some_copied : {A : Type 0} (o : Option (Bor A)) → is_some (option_copied o) ≡ is_some o
is_some_copied None = refl
is_some_copied (Some x) = refl
