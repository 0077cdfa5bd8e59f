-- Which kinds of columns a type can be kept for.
use Rattle.std.specs.Prelude.{ℕ, zero, suc, ℤ, List, Bool, true, false, ◌&&◌, int_le, nat_le}
use Rattle.std.specs.List.{list_all}
use Rattle.rm_model.specs.ControlTable.{Kind, number, text, any_name, data_source}

-- texts of at most so many octets
abbrev pub holds_texts : ℕ → Kind → Bool
holds_texts most (text longest) = nat_le longest most
holds_texts most kind = false

-- every number
abbrev pub holds_numbers : Kind → Bool
holds_numbers (number ranges) = true
holds_numbers kind = false

-- the numbers from a least one to a greatest one
abbrev pub holds_within : ℤ → ℤ → Kind → Bool
holds_within least greatest (number ranges) = list_all (λ range. int_le least range.least && int_le range.greatest greatest) ranges
holds_within least greatest kind = false

-- every name, and the names of the interfaces
abbrev pub holds_names : Kind → Bool
holds_names any_name = true
holds_names kind = false

abbrev pub holds_sources : Kind → Bool
holds_sources data_source = true
holds_sources kind = false

-- what holds of each number from 1 to a greatest one
abbrev pub UpTo : ℕ → (ℕ → Type 0) → Type 0
UpTo zero P = Unit {0}
UpTo (suc n) P = P (suc n) × UpTo n P
