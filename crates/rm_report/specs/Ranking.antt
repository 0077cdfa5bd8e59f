-- Hosts with their rates, as they are kept.
use Rattle.std.specs.Prelude.{◌≡◌, ℕ, zero, suc, ◌+◌, ◌-◌, ◌%◌, ◌^◌, List, Bool, nat_lt, slice_get, take, Option, None}
use Rattle.std.specs.List.Sorted.{IsPermutation, IsSorted}
use Rattle.std.specs.Option.{option_map}
use Rattle.std.specs.Ordering.{nat_cmp, ordering_then}
use Rattle.std.specs.declared.cmp.Ordering.{Ordering}
use Rattle.std.specs.Cmp.Lexicographic.{slice_cmp}
use Rattle.rm_evicting.specs.declared.Row.{Row}
use Rattle.rm_hosts.specs.declared.host_counts.HostCounts.{HostCounts}
use Rattle.rm_report.specs.declared.copied.Copied.{Copied}
use Rattle.rm_report.specs.declared.ranked.Ranked.{Ranked}
use Rattle.rm_report.specs.declared.rate_base.RateBase.{RateBase}
use Rattle.rm_report.specs.Copies.{copied_count, copy_in}
use Rattle.rm_report.specs.Ranks.{reported_at}

-- a host with a rate
abbrev pub with_rate : (rate : ℕ) (address : List ℕ) → Ranked
with_rate rate address = record { rate = record { 0 = rate }; address = address }

-- a host of a table, with what it gained since copies were taken; counters are kept modulo 2 ^ 64
abbrev pub rated : RateBase → List Copied → List (Row (List ℕ) HostCounts) → (address : List ℕ) → Ranked
rated base copies rows address =
    let now = copy_in base rows address in
    with_rate ((now.count + (2 ^ 64 - copied_count copies now.entry)) % 2 ^ 64) address

abbrev pub gains_something : Ranked → Bool
gains_something ranked = nat_lt 0 ranked.rate.0

-- how two of them compare: the greater rate stands first, and of equal ones the lesser address
abbrev pub in_order : Ranked → Ranked → Ordering
in_order one other = ordering_then (nat_cmp other.rate.0 one.rate.0) (slice_cmp nat_cmp one.address other.address)

-- some hosts are the first ones of others, of so many at most, when these are put in order
pub record AreFirst (most : ℕ) (others ranked : List Ranked) : Type 0 where
  pub placed : List Ranked
  pub moved : IsPermutation others placed
  pub order : IsSorted in_order placed
  pub first : ranked ≡ take most placed

-- the one at a place, from 1
abbrev pub ranked_at : (place : ℕ) → List Ranked → Option Ranked
ranked_at zero ranked = None
ranked_at (suc i) ranked = slice_get ranked i

-- They are the report of the hosts that are held, of so many at most, by the rates of these.
abbrev pub IsReport : (rate : List ℕ → ℕ) (held : List (List ℕ)) (most : ℕ) → List Ranked → Type 0
IsReport rate held most ranked = (place : ℕ) → ranked_at place ranked ≡ option_map (λ address. with_rate (rate address) address) (reported_at rate held most place)
