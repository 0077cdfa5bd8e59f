-- That the cells of hostTopNControl and hostTopN are finitely many.
use Rattle.std.proofs.Common.{◌≡◌, ℕ, ◌≤◌, List, [], ◌∷◌, Contains, Bool, true, false, cond, ◌&&◌, nat_le, refl, ap, Option, Some, None, arith}
use Rattle.std.specs.Prelude.{is_some, not}
use Rattle.std.specs.Option.{option_map, option_and_then}
use Rattle.std.proofs.Math.Nat.{min-le_right}
use Rattle.std.proofs.lemmas.Bool.Decides.{nat_tests}
use Rattle.rm_model.specs.Counting.{Counting}
use Rattle.rm_model.specs.Journal.{Journal}
use Rattle.rm_model.specs.Cells.{cells_of}
use Rattle.rm_model.specs.ControlRows.{is_valid}
use Rattle.rm_model.specs.Finite.{AreFinite}
use Rattle.rm_model.proofs.Finite.{both_finite, table_finite}
use Rattle.rm_columns.specs.Values.{natural_in}
use Rattle.rm_status.proofs.RowFacts.{valid_there}
use Rattle.rm_nested.proofs.Finite.{rows_of, in_rows, numbers, in_numbers, nested, in_nested}
use Rattle.rm_nested.specs.Nested.{is_number}
use Rattle.rm_report.specs.declared.ranked.Ranked.{Ranked}
use Rattle.rm_topn.specs.Control.{control_set, control_state, seconds_set, size_granted, top_control}
use Rattle.rm_topn.specs.HostTop.{control_table, is_place, report_table, top_cells}
use Rattle.rm_topn.specs.Reports.{ranked_in}
use Rattle.rm_topn.specs.StartLaws.{idle_start}
use Rattle.rm_topn.specs.Starts.{before_moment, end_of, last_start}

module _ (settings : Counting) (journal : Journal) (now : ℕ) where
  abbrev is_at : (row place : ℕ) → Bool
  is_at = is_place settings journal now

  module _ (row place : ℕ) where
    -- the host at a place of a report that began so
    abbrev host_from : Journal → Option Ranked
    host_from from = cond (nat_le 1 (seconds_set from row) && nat_le (end_of row from) now) (ranked_in settings from (before_moment (end_of row from) journal) row place) None

    -- hosts are shown of valid rows alone
    of_valid : is_at row place ≡ true → is_valid (control_state journal row) ≡ true
    of_valid shown = go (is_valid (control_state journal row)) refl
      where
        go : (t : Bool) → is_valid (control_state journal row) ≡ t → t ≡ true
        go true valid = refl
        go false idle = let none : is_at row place ≡ false = ap (λ o. is_some (option_and_then host_from o)) (idle_start row journal idle) in absurd (cc)

    -- and at the first 100 places alone
    some_of : {A B : Type 0} (f : A → B) (ended within : Bool) (gainer : Option A) → is_some (cond ended (option_map f (cond within gainer None)) None) ≡ true → within ≡ true
    some_of f true true gainer some = refl
    some_of f true false gainer some = absurd (cc)
    some_of f false within gainer some = absurd (cc)

    within_most : (from : Journal) → nat_le place (size_granted from row) ≡ true → place ≤ 100
    within_most from le =
        let most : size_granted from row ≤ 100 = min-le_right (natural_in (control_set from row 6)) 100 in
        let under : place ≤ size_granted from row = grind (arith, nat_tests) in
        omega (arith, most, under)

    at_most_100 : is_at row place ≡ true → place ≤ 100
    at_most_100 shown = go (last_start row journal) shown
      where
        go : (o : Option Journal) → is_some (option_and_then host_from o) ≡ true → place ≤ 100
        go None some = absurd (cc)
        go (Some from) some = within_most from (some_of _ (nat_le 1 (seconds_set from row) && nat_le (end_of row from) now) (nat_le place (size_granted from row)) _ some)

  -- the indexes that reported hosts can have
  abbrev places : List (List ℕ)
  places = nested (rows_of top_control journal) (λ row. numbers 100)

  of_row : (row : ℕ) (index : List ℕ) → is_number (is_at row) index ≡ true → Contains (rows_of top_control journal) (row ∷ [])
  of_row row [] is = absurd (cc)
  of_row row (place ∷ []) is = in_rows top_control journal (row ∷ []) (ap not (valid_there (control_state journal row) (of_valid row place is)))
  of_row row (place ∷ next ∷ more) is = absurd (cc)

  of_place : (row : ℕ) (index : List ℕ) → is_number (is_at row) index ≡ true → Contains (numbers 100) index
  of_place row index is = in_numbers (is_at row) 100 (λ place shown. at_most_100 row place shown) index is

  in_places : (index : List ℕ) → (report_table settings journal now).is_row index ≡ true → Contains places index
  in_places = in_nested (λ row. is_number (is_at row)) (rows_of top_control journal) (λ row. numbers 100) of_row of_place

-- the cells of both are finitely many
pub top_finite : (settings : Counting) (journal : Journal) (now : ℕ) → AreFinite (top_cells settings journal now)
top_finite settings journal now =
    both_finite (cells_of (control_table journal now)) (cells_of (report_table settings journal now))
    (table_finite (control_table journal now) (rows_of top_control journal) (in_rows top_control journal))
    (table_finite (report_table settings journal now) (places settings journal now) (in_places settings journal now))
