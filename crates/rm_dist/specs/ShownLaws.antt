-- The laws of what the rows of the distribution that are held show.
use Rattle.std.proofs.Common.{◌≡◌, ℕ, List, [], ◌∷◌, false, Option, Some, None, is_some, option_map, refl}
use Rattle.std.specs.Option.{option_and_then}
use Rattle.rm_status.specs.declared.row.Row.{Row}
use Rattle.rm_status.specs.Rows.{columns_in}
use Rattle.rm_nested.specs.Nested.{is_number}
use Rattle.rm_dist.specs.declared.row.DistributionRow.{DistributionRow}
use Rattle.rm_dist.specs.declared.row.Tally.{Tally}
use Rattle.rm_dist.specs.Counts.{count_in}
use Rattle.rm_dist.specs.Shown.{has_count}

-- a row that there isn't has counted nothing
pub of_row : (rows : List (Row DistributionRow)) (row : ℕ) (index : List ℕ) → is_some (columns_in rows row) ≡ false → is_number (has_count rows row) index ≡ false
of_row rows row [] none = refl
of_row rows row (local ∷ []) none = by_columns (columns_in rows row) none
  where
    by_columns : (columns : Option DistributionRow) → is_some columns ≡ false
        → is_some (option_and_then (λ counts. count_in counts local) (option_map (λ (tally : Tally). tally.counts) (option_and_then (λ (kept : DistributionRow). kept.tally) columns))) ≡ false
    by_columns None none = refl
    by_columns (Some kept) none = absurd (cc)
of_row rows row (local ∷ next ∷ more) none = refl
