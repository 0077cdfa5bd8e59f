-- Laws of pairs of addresses.
use Rattle.std.specs.Prelude.{◌≡◌}
use Rattle.std.specs.Ordering.{ordering_then}
use Rattle.std.specs.declared.cmp.Ordering.{Ordering}
use Rattle.std.specs.declared.cmp.Ordering.TheVariants.{Less, Equal, Greater}
use Rattle.std.proofs.Common.{refl}
use Rattle.rm_layer_matrices.specs.declared.address_pair.AddressPair.{AddressPair}

both_equal : (o p : Ordering) → ordering_then o p ≡ Equal → (o ≡ Equal) × (p ≡ Equal)
both_equal Less p e = cc
both_equal Equal p e = (refl, e)
both_equal Greater p e = cc

-- pairs that compare as equal are the same
pub exact_pair : {A : Type 0} (cmp : A → A → Ordering) (exact : (a b : A) → cmp a b ≡ Equal → a ≡ b) (one other : AddressPair A)
    → ordering_then (cmp one.first other.first) (cmp one.second other.second) ≡ Equal → one ≡ other
exact_pair cmp exact one other e =
    let both = both_equal (cmp one.first other.first) (cmp one.second other.second) e in
    let firsts = exact one.first other.first both.0 in
    let seconds = exact one.second other.second both.1 in
    λ d. record { first = firsts d; second = seconds d }
