-- What a column of a row shows: a sum that is kept modulo 2 ^ 64 and shown modulo 2 ^ 32.
use Rattle.std.proofs.Common.{◌≡◌, ℕ, ◌+◌, ◌%◌, ◌^◌, List, [], ◌∷◌, refl, arith}
use Rattle.std.specs.Prelude.{sum_by}
use Rattle.std.proofs.lemmas.List.Sums.{sum_by-cons}
use Rattle.rm_evicting.specs.Stands.{total}

module _ {C V : Type 0} (blank : V) (plus : V → C → V) (column : V → ℕ) (gained : C → ℕ)
    (nothing : column blank ≡ 0) (more : (sum : V) (gain : C) → column (plus sum gain) ≡ (column sum + gained gain) % 2 ^ 64) where
  pub column_shown : (gains : List C) → column (total blank plus gains) % 2 ^ 32 ≡ sum_by gained gains % 2 ^ 32
  column_shown [] = rw nothing refl
  column_shown (gain ∷ earlier) =
      let before : column (total blank plus earlier) % 2 ^ 32 ≡ sum_by gained earlier % 2 ^ 32 = column_shown earlier in
      let after : column (plus (total blank plus earlier) gain) ≡ (column (total blank plus earlier) + gained gain) % 2 ^ 64 = more (total blank plus earlier) gain in
      let sums : sum_by gained (gain ∷ earlier) ≡ gained gain + sum_by gained earlier = sum_by-cons gained gain earlier in
      rw (after, sums) (omega arith)
