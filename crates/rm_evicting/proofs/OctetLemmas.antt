-- Octets of one length stand in the order of their numbers.
use Rattle.std.proofs.Common.{◌≡◌, ℕ, suc, ◌+◌, ◌*◌, ◌-◌, ◌^◌, ◌<◌, ◌≤◌, List, [], ◌∷◌, length, take, drop, slice_index, refl, ap, ◌∙◌, arith}
use Rattle.std.proofs.lemmas.List.{take_all}
use Rattle.std.specs.declared.cmp.Ordering.{Ordering}
use Rattle.std.specs.declared.cmp.Ordering.TheVariants.{Less, Equal, Greater}
use Rattle.std.specs.Ordering.{nat_cmp, ordering_then, MatchOrdering}
use Rattle.std.specs.Cmp.{ranks, nat_cmp_is}
use Rattle.std.specs.Cmp.Lexicographic.{slice_cmp}
use Rattle.byteorder.specs.Endian.{big_number}
use Rattle.rm_evicting.specs.Octets.{with_octets, number_of}

then_equal : (o : Ordering) → ordering_then o Equal ≡ o
then_equal Less = refl
then_equal Equal = refl
then_equal Greater = refl

then_first : (o p q : Ordering) → ordering_then o (ordering_then p q) ≡ ordering_then (ordering_then o p) q
then_first Less p q = refl
then_first Equal p q = refl
then_first Greater p q = refl

-- an octet behind a number decides where the numbers are the same
octet_behind : (a b x y : ℕ) → x < 256 → y < 256 → ordering_then (nat_cmp a b) (nat_cmp x y) ≡ nat_cmp (a * 256 + x) (b * 256 + y)
octet_behind a b x y p q = nat_cmp_is (a * 256 + x) (b * 256 + y) (ordering_then (nat_cmp a b) (nat_cmp x y)) (decided (nat_cmp a b) (ranks a b) (nat_cmp x y) (ranks x y))
  where
    decided : (o : Ordering) → MatchOrdering o (a < b) (a ≡ b) (b < a) → (r : Ordering) → MatchOrdering r (x < y) (x ≡ y) (y < x)
        → MatchOrdering (ordering_then o r) (a * 256 + x < b * 256 + y) (a * 256 + x ≡ b * 256 + y) (b * 256 + y < a * 256 + x)
    decided Less h r k = omega (arith, h, p, q)
    decided Greater h r k = omega (arith, h, p, q)
    decided Equal h Less k = omega (arith, h, k)
    decided Equal h Equal k = omega (arith, h, k)
    decided Equal h Greater k = omega (arith, h, k)

behind : (a b : ℕ) (xs ys : List ℕ) → length xs ≡ length ys → ((i : ℕ) → slice_index xs i < 256) → ((i : ℕ) → slice_index ys i < 256)
    → ordering_then (nat_cmp a b) (slice_cmp nat_cmp xs ys) ≡ nat_cmp (with_octets a xs) (with_octets b ys)
behind a b [] [] e p q = then_equal (nat_cmp a b)
behind a b [] (y ∷ ys) e p q = absurd (omega (arith, e))
behind a b (x ∷ xs) [] e p q = absurd (omega (arith, e))
behind a b (x ∷ xs) (y ∷ ys) e p q =
    then_first (nat_cmp a b) (nat_cmp x y) (slice_cmp nat_cmp xs ys)
    ∙ ap (λ o. ordering_then o (slice_cmp nat_cmp xs ys)) (octet_behind a b x y (p 0) (q 0))
    ∙ behind (a * 256 + x) (b * 256 + y) xs ys (omega (arith, e)) (λ i. p (suc i)) (λ i. q (suc i))

pub in_order : (xs ys : List ℕ) → length xs ≡ length ys → ((i : ℕ) → slice_index xs i < 256) → ((i : ℕ) → slice_index ys i < 256)
    → slice_cmp nat_cmp xs ys ≡ nat_cmp (number_of xs) (number_of ys)
in_order = behind 0 0

-- four octets may be read at once
pub four_first : (xs : List ℕ) → 4 ≤ length xs → with_octets (big_number 4 xs) (take (length xs - 4) (drop 4 xs)) ≡ number_of xs
four_first [] h = absurd (omega (arith, h))
four_first (a ∷ []) h = absurd (omega (arith, h))
four_first (a ∷ b ∷ []) h = absurd (omega (arith, h))
four_first (a ∷ b ∷ c ∷ []) h = absurd (omega (arith, h))
four_first (a ∷ b ∷ c ∷ d ∷ rest) h = ap (with_octets (big_number 4 (a ∷ b ∷ c ∷ d ∷ rest))) (take_all (length (a ∷ b ∷ c ∷ d ∷ rest) - 4) rest (omega arith)) ∙ ap (λ n. with_octets n rest) (same a b c d)
  where
    same : (a b c d : ℕ) → a * 256 ^ 3 + (b * 256 ^ 2 + (c * 256 ^ 1 + (d * 256 ^ 0 + 0))) ≡ (((0 * 256 + a) * 256 + b) * 256 + c) * 256 + d
    same a b c d = omega arith
