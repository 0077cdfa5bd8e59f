-- The search for a filter that matches, in the order of the indexes.
use Rattle.std.proofs.Common.{◌≡◌, ℕ, ◌≤◌, inl, inr, List, false, Some, None, ap, ◌∙◌, arith}
use Rattle.std.proofs.lemmas.Bool.{cases_lt}
use Rattle.rm_status.specs.declared.row.Row.{Row}
use Rattle.rm_status.specs.Rows.{row_in, AllThere, IsIndexAfter}
use Rattle.rm_status.proofs.RowFacts.{no_row_0}
use Rattle.rm_acts.specs.Filters.{filter_table}
use Rattle.rm_filter.specs.declared.filter_row.FilterRow.{FilterRow}
use Rattle.rm_filter.specs.Matching.{matches_seen, matches_at}

module _ (rows : List (Row FilterRow)) (channel status : ℕ) (octets : List ℕ) where
  -- no filter up to an index matches
  abbrev pub NoneUpTo : ℕ → Type 0
  NoneUpTo last = (index : ℕ) → index ≤ last → matches_at rows channel status octets index ≡ false

  no_row_matches : (index : ℕ) → row_in rows index ≡ None → matches_at rows channel status octets index ≡ false
  no_row_matches index none = ap (λ o. matches_seen o channel status octets) none

  pub none_at_first : AllThere filter_table rows → NoneUpTo 0
  none_at_first there index low = let zero_is : index ≡ 0 = omega arith in no_row_matches index (ap (row_in rows) zero_is ∙ no_row_0 filter_table rows there)

  pub none_up_to_next : (last next : ℕ) → NoneUpTo last → IsIndexAfter rows last (Some next) → matches_at rows channel status octets next ≡ false → NoneUpTo next
  none_up_to_next last next none after fails index low =
      elim (cases_lt last index) [
        | inl above ↦ elim (cases_lt index next) [
          | inl between ↦ no_row_matches index (after.2 index above between)
          | inr same ↦ let is : index ≡ next = omega (arith, low, same) in ap (matches_at rows channel status octets) is ∙ fails
        ]
        | inr before ↦ none index before
      ]

  pub none_at_all : (last : ℕ) → NoneUpTo last → IsIndexAfter rows last None → (index : ℕ) → matches_at rows channel status octets index ≡ false
  none_at_all last none after index =
      elim (cases_lt last index) [
        | inl above ↦ no_row_matches index (after index above)
        | inr before ↦ none index before
      ]
