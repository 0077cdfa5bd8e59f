-- Addresses as keys.
use Rattle.std.proofs.Common.{refl}
use Rattle.std.specs.Str.{bytes_eq}
use Rattle.std.proofs.lemmas.Slice.Eq.{bytes_eq-Decides}
use Rattle.rm_evicting.specs.Held.{IsExact}

-- two addresses are one where they are alike
pub exact : IsExact bytes_eq
exact = record {
  itself = λ key. (bytes_eq-Decides key key).1 refl;
  same = λ one other alike. (bytes_eq-Decides one other).0 alike;
}
