-- The octets that were written.
use Rattle.std.proofs.Common.{◌≡◌, ℕ, List, ◌++◌, length, take, ap, ◌∙◌}
use Rattle.std.proofs.Math.Seq.{take-append_seam}

-- the octets that were written to the front
pub written : (count : ℕ) (octets rest out : List ℕ) → count ≡ length octets → out ≡ octets ++ rest → take count out ≡ octets
written count octets rest out is whole = ap (λ (xs : List ℕ). take count xs) whole ∙ ap (λ n. take n (octets ++ rest)) is ∙ take-append_seam octets rest
