-- Pairs of addresses, by their indexes.
use Rattle.std.proofs.Common.{◌≡◌, ℕ, List, [], ◌∷◌, ◌++◌, length, drop, Bool, true, ◌&&◌, refl, sym, ap, ◌∙◌, arith}
use Rattle.std.specs.Str.{bytes_eq}
use Rattle.std.proofs.lemmas.Bool.{and_parts}
use Rattle.std.proofs.lemmas.Slice.Eq.{bytes_eq-Decides}
use Rattle.rm_evicting.specs.Held.{IsExact}
use Rattle.rm_keyed.specs.declared.address_pair.AddressPair.{AddressPair}
use Rattle.rm_keyed.specs.PairLaws.{same_pair}
use Rattle.rm_keyed.specs.Addresses.{six_of, address_pair, reversed, pair_eq, pair_index}

-- pairs of the same addresses are the same
pub one_pair : (one other : AddressPair) → one.first ≡ other.first → one.second ≡ other.second → one ≡ other
one_pair one other firsts seconds =
    same_pair (λ first second first_six second_six. record { first = first; second = second; first_six = first_six; second_six = second_six })
    one.first other.first one.second other.second one.first_six other.first_six one.second_six other.second_six firsts seconds

pub exact_pair : IsExact pair_eq
exact_pair = record {
  itself = λ pair. both (bytes_eq pair.first pair.first) (bytes_eq pair.second pair.second) ((bytes_eq-Decides pair.first pair.first).1 refl) ((bytes_eq-Decides pair.second pair.second).1 refl);
  same = λ one other alike.
      let parts = and_parts (bytes_eq one.first other.first) (bytes_eq one.second other.second) alike in
      one_pair one other ((bytes_eq-Decides one.first other.first).0 parts.0) ((bytes_eq-Decides one.second other.second).0 parts.1);
}
  where
    both : (a b : Bool) → a ≡ true → b ≡ true → (a && b) ≡ true
    both a b e f = rw (e, f) refl

-- lists of one length that stand before others are the same where the whole are
fronts : (xs ys us vs : List ℕ) → length xs ≡ length ys → xs ++ us ≡ ys ++ vs → (xs ≡ ys) × (us ≡ vs)
fronts [] [] us vs l e = (refl, e)
fronts [] (y ∷ ys) us vs l e = absurd (omega (arith, l))
fronts (x ∷ xs) [] us vs l e = absurd (omega (arith, l))
fronts (x ∷ xs) (y ∷ ys) us vs l e =
    let heads : x ≡ y = cc in
    let tails : xs ++ us ≡ ys ++ vs = cc in
    let more = fronts xs ys us vs (omega (arith, l)) tails in
    ((λ d. heads d ∷ more.0 d), more.1)

-- a pair has an index of its own
pub pair_apart : (one other : AddressPair) → pair_index one ≡ pair_index other → one ≡ other
pair_apart one other same =
    let parts = fronts (6 ∷ one.first) (6 ∷ other.first) (6 ∷ one.second) (6 ∷ other.second) (counted one.first other.first (one.first_six ∙ sym other.first_six)) same in
    one_pair one other (ap (drop 1) parts.0) (ap (drop 1) parts.1)
  where
    counted : (xs ys : List ℕ) → length xs ≡ length ys → length (6 ∷ xs) ≡ length (6 ∷ ys)
    counted xs ys l = omega (arith, l)

-- and so when it is reversed
pub reversed_apart : (one other : AddressPair) → pair_index (reversed one) ≡ pair_index (reversed other) → one ≡ other
reversed_apart one other same = ap reversed (pair_apart (reversed one) (reversed other) same)

-- a list of six is its first six
six_same : (xs : List ℕ) → length xs ≡ 6 → six_of xs ≡ xs
six_same (a ∷ b ∷ c ∷ d ∷ e ∷ f ∷ []) six = refl
six_same xs six = absurd (omega (arith, six))

pub pair_again : (pair : AddressPair) → address_pair pair.first pair.second ≡ pair
pair_again pair = one_pair (address_pair pair.first pair.second) pair (six_same pair.first pair.first_six) (six_same pair.second pair.second_six)
