-- The order of lists of numbers.
use Rattle.std.proofs.Common.{◌≡◌, ◌↔◌, ℕ, List}
use Rattle.std.proofs.lemmas.Cmp.{nat_list_cmp_total, tied_itself}
use Rattle.std.proofs.lemmas.Map.Lookups.{exact_bytes}
use Rattle.std.specs.Cmp.{IsTotalOrder}
use Rattle.std.specs.Cmp.Lexicographic.{slice_cmp}
use Rattle.std.specs.Ordering.{nat_cmp}
use Rattle.std.specs.declared.cmp.Ordering.TheVariants.{Equal}

-- it is total
pub order_total : IsTotalOrder (slice_cmp nat_cmp)
order_total = nat_list_cmp_total

-- a list ranks as equal to itself alone
pub equal_alone : (xs ys : List ℕ) → (slice_cmp nat_cmp xs ys ≡ Equal) ↔ (xs ≡ ys)
equal_alone xs ys = (exact_bytes xs ys, λ same. rw same (tied_itself nat_list_cmp_total ys))
