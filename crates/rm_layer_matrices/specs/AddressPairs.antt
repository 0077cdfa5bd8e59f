-- Pairs of addresses.
use Rattle.std.specs.Prelude.{Bool, ◌&&◌}
use Rattle.rm_layer_matrices.specs.declared.address_pair.AddressPair.{AddressPair}

-- the second first
abbrev pub reversed : {A : Type 0} → AddressPair A → AddressPair A
reversed pair = record { first = pair.second; second = pair.first }

-- whether two pairs are one
abbrev pub pair_eq : {A : Type 0} → (A → A → Bool) → AddressPair A → AddressPair A → Bool
pair_eq eq one other = eq one.first other.first && eq one.second other.second
