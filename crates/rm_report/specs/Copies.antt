-- Copies of what hosts have counted, by the stamps of their entries.
use Rattle.std.specs.Prelude.{◌≡◌, ℕ, ◌<◌, ◌%◌, ◌^◌, List, [], ◌∷◌, true, nat_eq, find, is_some, unwrap_or, Option, Some, ⊤}
use Rattle.std.specs.List.{AllByRecursion}
use Rattle.std.specs.Option.{option_map, option_map_or}
use Rattle.std.specs.Str.{bytes_eq}
use Rattle.rm_model.specs.Counting.{Counting}
use Rattle.rm_model.specs.Journal.{Journal}
use Rattle.rm_evicting.specs.declared.Row.{Row}
use Rattle.rm_rows.specs.Table.{row_of, entry_of as entry_in, value_of}
use Rattle.rm_hosts.specs.declared.host_counts.HostCounts.{HostCounts}
use Rattle.rm_hosts.specs.Held.{is_held, sum_of}
use Rattle.rm_report.specs.declared.copied.Copied.{Copied}
use Rattle.rm_report.specs.declared.rate_base.RateBase.{RateBase}
use Rattle.rm_report.specs.RateBase.{count_of}
use Rattle.rm_report.specs.Rates.{entry_of}

-- the copies stand in the order of the stamps
abbrev pub AreRising : List Copied → Type 0
AreRising [] = ⊤
AreRising (copied ∷ copies) = AllByRecursion (λ other. copied.entry < other.entry) copies × AreRising copies

-- the copy with a stamp, and what it counted; 0 where there is none
abbrev pub copy_with : List Copied → (entry : ℕ) → Option Copied
copy_with copies entry = find (λ copied. nat_eq copied.entry entry) copies

abbrev pub copied_count : List Copied → (entry : ℕ) → ℕ
copied_count copies entry = option_map_or (λ copied. copied.count) (copy_with copies entry) 0

-- the copy of a host among the rows of a table
abbrev pub copy_in : RateBase → List (Row (List ℕ) HostCounts) → (address : List ℕ) → Copied
copy_in base rows address = record {
  entry = unwrap_or (option_map entry_in (row_of bytes_eq address rows)) 0;
  count = option_map_or (count_of base) (option_map value_of (row_of bytes_eq address rows)) 0;
}

-- The copies are those of the hosts that a control row holds after a journal, one for each.
pub record AreCopies (settings : Counting) (journal : Journal) (row : ℕ) (base : RateBase) (copies : List Copied) : Type 0 where
  pub rising : AreRising copies
  pub held : (address : List ℕ) → is_held settings journal row address ≡ true
      → copy_with copies (entry_of settings journal row address) ≡ Some (record { entry = entry_of settings journal row address; count = sum_of settings journal row (count_of base) address % 2 ^ 64 })
  pub others : (stamp : ℕ) → is_some (copy_with copies stamp) ≡ true
      → (address : List ℕ) × (is_held settings journal row address ≡ true) × (stamp ≡ entry_of settings journal row address)
