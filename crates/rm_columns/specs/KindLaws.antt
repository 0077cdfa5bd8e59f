-- What a typed column shows after it was set, by the kind of its values.
use Rattle.std.proofs.Common.{◌≡◌, ℕ, zero, suc, ◌≤◌, nat_eq, List, [], ◌∷◌, length, Bool, true, false, cond, ◌&&◌, ◌||◌, Some, None, refl, sym, ap, subst, nat_le, arith}
use Rattle.std.specs.Prelude.{ℤ, pos, negsuc, int_le, find, unwrap_or}
use Rattle.std.specs.List.{list_all, list_any}
use borrow.Author.Tests.{eqb-true}
use Rattle.std.proofs.lemmas.Bool.Decides.{nat_tests}
use Rattle.std.proofs.lemmas.Slice.Eq.{bytes_eq-Decides}
use Rattle.rm_val.specs.Val.{Val, int, octets, name}
use Rattle.rm_val.specs.declared.error.ErrorStatus.{ErrorStatus}
use Rattle.rm_val.specs.declared.error.ErrorStatus.TheVariants.{WrongValue, WrongLength}
use Rattle.rm_model.specs.ControlTable.{Range, Kind, number, text, any_name, data_source}
use Rattle.rm_model.specs.Judgement.{value_fault, unless, is_in}
use Rattle.rm_model.specs.Interfaces.{interface_name, is_interface, is_source, interfaces}
use Rattle.rm_columns.specs.Numbering.{Numbering, variant}
use Rattle.rm_columns.specs.Values.{number_of, natural_in, octets_in, name_of, interface_in}
use Rattle.rm_columns.specs.Holds.{holds_texts, holds_numbers, holds_within, holds_names, holds_sources, UpTo}

passed : (b : Bool) (status : ErrorStatus) → unless b status ≡ None → b ≡ true
passed true status fine = refl
passed false status fine = absurd (cc)

-- what a column of texts takes, and what one of numbers takes
pub text_is : (longest : ℕ) (value : Val) → value_fault (Some (text longest)) value ≡ None → (bytes : List ℕ) × (value ≡ octets bytes) × (nat_le (length bytes) longest ≡ true)
text_is longest (octets bytes) fine = (bytes, refl, passed (nat_le (length bytes) longest) WrongLength fine)
text_is longest other fine = absurd (cc)

pub number_is : (ranges : List Range) (value : Val) → value_fault (Some (number ranges)) value ≡ None → (n : ℤ) × (value ≡ int n) × (is_in ranges n ≡ true)
number_is ranges (int n) fine = (n, refl, passed (is_in ranges n) WrongValue fine)
number_is ranges other fine = absurd (cc)

-- a text has what it was set to, and room for it
pub text_shows : (most : ℕ) (kind : Kind) (value : Val) → holds_texts most kind ≡ true → value_fault (Some kind) value ≡ None → Some (octets (octets_in value)) ≡ Some value
text_shows most (text longest) value holds fine = let it = text_is longest value fine in subst (λ v. Some (octets (octets_in v)) ≡ Some v) (sym it.1) refl
text_shows most kind value holds fine = absurd (cc)

-- a number is what it was set to
pub number_shows : (kind : Kind) (value : Val) → holds_numbers kind ≡ true → value_fault (Some kind) value ≡ None → Some (int (number_of value)) ≡ Some value
number_shows (number ranges) value holds fine = let it = number_is ranges value fine in subst (λ v. Some (int (number_of v)) ≡ Some v) (sym it.1) refl
number_shows kind value holds fine = absurd (cc)

-- What holds of each number from a least one to a greatest one holds of each value that a column within these takes. So a type
-- of so many variants has a law for these numbers alone.
module _ (P : Val → Type 0) (least greatest : ℤ) (each : (n : ℤ) → int_le least n ≡ true → int_le n greatest ≡ true → P (int n)) where
  both : (a b : Bool) → (a && b) ≡ true → (a ≡ true) × (b ≡ true)
  both true true h = (refl, refl)
  both true false h = absurd (cc)
  both false b h = absurd (cc)

  in_one : (ranges : List Range) (n : ℤ) → list_all (λ range. int_le least range.least && int_le range.greatest greatest) ranges ≡ true → is_in ranges n ≡ true → (int_le least n ≡ true) × (int_le n greatest ≡ true)
  in_one [] n all is = absurd (cc)
  in_one (range ∷ ranges) n all is =
      let split = both (int_le least range.least && int_le range.greatest greatest) (list_all (λ r. int_le least r.least && int_le r.greatest greatest) ranges) all in
      let ends = both (int_le least range.least) (int_le range.greatest greatest) split.0 in
      elim (int_le range.least n && int_le n range.greatest) as (λ t. (int_le range.least n && int_le n range.greatest) ≡ t → (t || is_in ranges n) ≡ true → (int_le least n ≡ true) × (int_le n greatest ≡ true)) [
        | true ↦ λ here _. let inside = both (int_le range.least n) (int_le n range.greatest) here in (through least range.least n ends.0 inside.0, through n range.greatest greatest inside.1 ends.1)
        | false ↦ λ _ later. in_one ranges n split.1 later
      ] refl is
    where
      through : (a b c : ℤ) → int_le a b ≡ true → int_le b c ≡ true → int_le a c ≡ true
      through a b c low high = grind (arith, nat_tests)

  pub of_within : (kind : Kind) (value : Val) → holds_within least greatest kind ≡ true → value_fault (Some kind) value ≡ None → P value
  of_within (number ranges) value holds fine = let it = number_is ranges value fine in let inside = in_one ranges it.0 holds it.2 in subst P (sym it.1) (each it.0 inside.0 inside.1)
  of_within kind value holds fine = absurd (cc)

pub name_is : (value : Val) → value_fault (Some any_name) value ≡ None → (numbers : List ℕ) × (value ≡ name numbers)
name_is (name numbers) fine = (numbers, refl)
name_is other fine = absurd (cc)

pub name_shows : (kind : Kind) (value : Val) → holds_names kind ≡ true → value_fault (Some kind) value ≡ None → Some (name (name_of value)) ≡ Some value
name_shows any_name value holds fine = let it = name_is value fine in subst (λ v. Some (name (name_of v)) ≡ Some v) (sym it.1) refl
name_shows kind value holds fine = absurd (cc)

found_passes : (p : ℕ → Bool) (xs : List ℕ) → list_any p xs ≡ true → p (unwrap_or (find p xs) 0) ≡ true
found_passes p [] is = absurd (cc)
found_passes p (x ∷ xs) is =
    elim (p x) as (λ t. p x ≡ t → (t || list_any p xs) ≡ true → p (unwrap_or (cond t (Some x) (find p xs)) 0) ≡ true) [
      | true ↦ λ here _. here
      | false ↦ λ _ later. found_passes p xs later
    ] refl is

-- a data source is the name of the interface that it names
pub source_is : (value : Val) → value_fault (Some data_source) value ≡ None → Some (name (interface_name (interface_in value))) ≡ Some value
source_is (name numbers) fine =
    let is : is_interface (name numbers) (interface_in (name numbers)) ≡ true =
    found_passes (λ k. is_interface (name numbers) k) interfaces (passed (is_source (name numbers)) WrongValue fine) in
    ap (λ n. Some (name n)) (sym ((bytes_eq-Decides numbers (interface_name (interface_in (name numbers)))).0 is))
source_is other fine = absurd (cc)

pub source_shows : (kind : Kind) (value : Val) → holds_sources kind ≡ true → value_fault (Some kind) value ≡ None → Some (name (interface_name (interface_in value))) ≡ Some value
source_shows data_source value holds fine = source_is value fine
source_shows kind value holds fine = absurd (cc)

-- a number that isn't negative, within a range, is what it was set to
pub natural_within : (least greatest : ℕ) (n : ℤ) → int_le (pos least) n ≡ true → int_le n (pos greatest) ≡ true → Some (int (pos (natural_in (int n)))) ≡ Some (int n)
natural_within least greatest (pos n) low high = refl
natural_within least greatest (negsuc n) low high = absurd (cc)

one_of_them : (P : ℕ → Type 0) (greatest n : ℕ) → UpTo greatest P → 1 ≤ n → n ≤ greatest → P n
one_of_them P zero n all some few = absurd (omega arith)
one_of_them P (suc greatest) n all some few =
    elim (nat_eq n (suc greatest)) as (λ t. nat_eq n (suc greatest) ≡ t → P n) [
      | true ↦ λ e. subst P (sym (eqb-true n (suc greatest) e)) all.0
      | false ↦ λ e. one_of_them P greatest n all.1 some (grind (arith, nat_tests))
    ] refl

-- A type of so many variants, each with its number from 1.
module _ {E : Type 0} (numbering : Numbering E) (greatest : ℕ) (again : UpTo greatest (λ n. numbering.number_of (variant numbering n) ≡ n)) where
  abbrev Again : Val → Type 0
  Again value = Some (int (pos (numbering.number_of (variant numbering (natural_in value))))) ≡ Some value

  variant_again : (n : ℤ) → int_le (pos 1) n ≡ true → int_le n (pos greatest) ≡ true → Again (int n)
  variant_again (pos n) low high = ap (λ k. Some (int (pos k))) (one_of_them (λ n. numbering.number_of (variant numbering n) ≡ n) greatest n again (grind (arith, nat_tests)) (grind (arith, nat_tests)))
  variant_again (negsuc n) low high = absurd (cc)

  pub variant_shows : (kind : Kind) (value : Val) → holds_within (pos 1) (pos greatest) kind ≡ true → value_fault (Some kind) value ≡ None → Some (int (pos (numbering.number_of (variant numbering (natural_in value))))) ≡ Some value
  variant_shows = of_within Again (pos 1) (pos greatest) variant_again
