-- Laws of the order of pairs of addresses.
use Rattle.std.specs.Prelude.{◌≡◌, ℕ, List, [], ◌∷◌, ◌++◌, length}
use Rattle.std.specs.Ordering.{nat_cmp, ordering_then}
use Rattle.std.specs.declared.cmp.Ordering.{Ordering}
use Rattle.std.specs.declared.cmp.Ordering.TheVariants.{Less, Equal, Greater}
use Rattle.std.specs.Cmp.Lexicographic.{slice_cmp}
use Rattle.std.proofs.Common.{refl, sym, ap, ◌∙◌, subst, arith}
use Rattle.std.proofs.Math.Nat.{ℕ_set}
use Rattle.std.proofs.lemmas.Map.Lookups.{exact_bytes}
use Rattle.rm_model.specs.Names.{Below}

then_first : (o p q : Ordering) → ordering_then (ordering_then o p) q ≡ ordering_then o (ordering_then p q)
then_first Less p q = refl
then_first Equal p q = refl
then_first Greater p q = refl

both_equal : (o p : Ordering) → ordering_then o p ≡ Equal → (o ≡ Equal) × (p ≡ Equal)
both_equal Less p e = cc
both_equal Equal p e = (refl, e)
both_equal Greater p e = cc

-- behind lists of one length others decide where those are the same
joined : (xs ys us vs : List ℕ) → length xs ≡ length ys → slice_cmp nat_cmp (xs ++ us) (ys ++ vs) ≡ ordering_then (slice_cmp nat_cmp xs ys) (slice_cmp nat_cmp us vs)
joined [] [] us vs e = refl
joined [] (y ∷ ys) us vs e = absurd (omega (arith, e))
joined (x ∷ xs) [] us vs e = absurd (omega (arith, e))
joined (x ∷ xs) (y ∷ ys) us vs e =
    ap (ordering_then (nat_cmp x y)) (joined xs ys us vs (omega (arith, e))) ∙ sym (then_first (nat_cmp x y) (slice_cmp nat_cmp xs ys) (slice_cmp nat_cmp us vs))

-- pairs stand in the order of their indexes
pub pair_rises : (first other second more : List ℕ) → length first ≡ 6 → length other ≡ 6 → ordering_then (slice_cmp nat_cmp first other) (slice_cmp nat_cmp second more) ≡ Less
    → Below (6 ∷ (first ++ 6 ∷ second)) (6 ∷ (other ++ 6 ∷ more))
pair_rises first other second more six sixth less = joined first other (6 ∷ second) (6 ∷ more) (six ∙ sym sixth) ∙ less

-- pairs of the same lists are the same, whatever shows that they have six octets
pub same_pair : {P : Type 0} (pair : (first second : List ℕ) → length first ≡ 6 → length second ≡ 6 → P) (first other second more : List ℕ)
    (six : length first ≡ 6) (sixth : length other ≡ 6) (seven : length second ≡ 6) (seventh : length more ≡ 6) → first ≡ other → second ≡ more → pair first second six seven ≡ pair other more sixth seventh
same_pair pair first other second more six sixth seven seventh firsts seconds =
    subst (λ xs. (is : length xs ≡ 6) → pair first second six seven ≡ pair xs more is seventh) firsts
    (λ is. subst (λ ys. (has : length ys ≡ 6) → pair first second six seven ≡ pair first ys is has) seconds
    (λ has i. pair first second (ℕ_set (length first) 6 six is i) (ℕ_set (length second) 6 seven has i)) seventh) sixth

-- pairs that compare as equal are the same
pub pair_exact : {P : Type 0} (pair : (first second : List ℕ) → length first ≡ 6 → length second ≡ 6 → P) (first other second more : List ℕ)
    (six : length first ≡ 6) (sixth : length other ≡ 6) (seven : length second ≡ 6) (seventh : length more ≡ 6)
    → ordering_then (slice_cmp nat_cmp first other) (slice_cmp nat_cmp second more) ≡ Equal → pair first second six seven ≡ pair other more sixth seventh
pair_exact pair first other second more six sixth seven seventh e =
    let both = both_equal (slice_cmp nat_cmp first other) (slice_cmp nat_cmp second more) e in
    same_pair pair first other second more six sixth seven seventh (exact_bytes first other both.0) (exact_bytes second more both.1)
