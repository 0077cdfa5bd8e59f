-- The numbers of addresses, and of pairs of them, are their own.
use Rattle.std.proofs.Common.{◌≡◌, ℕ, ◌≤◌, ◌+◌, Bool, true, false, cond, ◌&&◌, nat_eq, nat_lt, List, [], ◌∷◌, ◌++◌, length, take, drop, Option, Some, None, refl, sym, ap, ◌∙◌, subst, arith}
use Rattle.std.specs.Prelude.{is_some}
use Rattle.std.specs.List.{list_all}
use Rattle.std.specs.Ordering.{nat_cmp, ordering_then}
use Rattle.std.specs.declared.cmp.Ordering.{Ordering}
use Rattle.std.specs.Cmp.Lexicographic.{slice_cmp}
use Rattle.std.proofs.lemmas.Bool.{and_parts, eqb-true}
use Rattle.std.proofs.lemmas.Bool.Decides.{nat_tests}
use Rattle.std.proofs.lemmas.List.{length-append, take-append-drop}
use Rattle.std.proofs.lemmas.Option.{none-some, same_Some}
use Rattle.rm_layer_matrices.specs.declared.address_pair.AddressPair.{AddressPair}
use Rattle.rm_walk_places.specs.declared.places.Bounds.{Bounds}
use Rattle.rm_walk_places.specs.Within.{AreWithin}
use Rattle.rm_walk_places.proofs.Order.{joined}
use Rattle.rm_layer_tables.specs.Indexes.{is_address, address_numbers, address_of, IsForm}
use Rattle.rm_layer_tables.specs.Addresses.{octet_bounds, address_bounds, address_form, pair_of, pair_form}

abbrev cmp : List ℕ → List ℕ → Ordering
cmp = slice_cmp nat_cmp

-- numbers that are an address
record IsOne (numbers address : List ℕ) : Type 0 where
  named : numbers ≡ 4 ∷ address
  octets : is_address address ≡ true

address_is : (numbers address : List ℕ) → address_of numbers ≡ Some address → IsOne numbers address
address_is [] address e = absurd (none-some address e)
address_is (count ∷ octets) address e = by_test (nat_eq count 4 && is_address octets) refl e
  where
    by_test : (t : Bool) → (nat_eq count 4 && is_address octets) ≡ t → cond t (Some octets) None ≡ Some address → IsOne (count ∷ octets) address
    by_test false f none = absurd (none-some address none)
    by_test true f some =
        let parts = and_parts (nat_eq count 4) (is_address octets) f in
        let four : count ≡ 4 = eqb-true count 4 parts.0 in
        let same : octets ≡ address = same_Some octets address some in
        record { named = λ d. four d ∷ same d; octets = subst (λ (some : List ℕ). is_address some ≡ true) same parts.1 }

four : (address : List ℕ) → is_address address ≡ true → length address ≡ 4
four address is = eqb-true (length address) 4 (and_parts (nat_eq (length address) 4) (list_all (λ number. nat_lt number 256) address) is).0

-- an address has four octets
octets_within : (address : List ℕ) → is_address address ≡ true → AreWithin (octet_bounds ∷ octet_bounds ∷ octet_bounds ∷ octet_bounds ∷ []) address
octets_within (a ∷ b ∷ c ∷ d ∷ []) is =
    let all = (and_parts (nat_eq 4 4) (list_all (λ number. nat_lt number 256) (a ∷ b ∷ c ∷ d ∷ [])) is).1 in
    let first = and_parts (nat_lt a 256) (list_all (λ number. nat_lt number 256) (b ∷ c ∷ d ∷ [])) all in
    let second = and_parts (nat_lt b 256) (list_all (λ number. nat_lt number 256) (c ∷ d ∷ [])) first.1 in
    let third = and_parts (nat_lt c 256) (list_all (λ number. nat_lt number 256) (d ∷ [])) second.1 in
    let fourth = and_parts (nat_lt d 256) true third.1 in
    (omega arith, octet a first.0, (omega arith, octet b second.0, (omega arith, octet c third.0, (omega arith, octet d fourth.0, tt))))
  where
    octet : (number : ℕ) → nat_lt number 256 ≡ true → number ≤ 255
    octet number low = grind (arith, nat_tests, low)
octets_within [] is = absurd (let none : 0 ≡ 4 = four [] is in omega (arith, none))
octets_within (a ∷ []) is = absurd (let one : 1 ≡ 4 = four (a ∷ []) is in omega (arith, one))
octets_within (a ∷ b ∷ []) is = absurd (let two : 2 ≡ 4 = four (a ∷ b ∷ []) is in omega (arith, two))
octets_within (a ∷ b ∷ c ∷ []) is = absurd (let three : 3 ≡ 4 = four (a ∷ b ∷ c ∷ []) is in omega (arith, three))
octets_within (a ∷ b ∷ c ∷ d ∷ e ∷ more) is = absurd (let many : length (a ∷ b ∷ c ∷ d ∷ e ∷ more) ≡ 4 = four (a ∷ b ∷ c ∷ d ∷ e ∷ more) is in omega (arith, many))

-- and four octets are one
octets_fit : (numbers : List ℕ) → AreWithin (octet_bounds ∷ octet_bounds ∷ octet_bounds ∷ octet_bounds ∷ []) numbers → is_address numbers ≡ true
octets_fit (a ∷ b ∷ c ∷ d ∷ []) (la, ga, (lb, gb, (lc, gc, (ld, gd, end)))) = rw (octet a ga, octet b gb, octet c gc, octet d gd) refl
  where
    octet : (number : ℕ) → number ≤ 255 → nat_lt number 256 ≡ true
    octet number low = grind (arith, nat_tests, low)
octets_fit [] within = absurd within
octets_fit (a ∷ []) within = absurd within.2
octets_fit (a ∷ b ∷ []) within = absurd within.2.2
octets_fit (a ∷ b ∷ c ∷ []) within = absurd within.2.2.2
octets_fit (a ∷ b ∷ c ∷ d ∷ e ∷ more) within = absurd within.2.2.2.2

address_within : (numbers address : List ℕ) → address_of numbers ≡ Some address → AreWithin address_bounds numbers
address_within numbers address e =
    let it = address_is numbers address e in
    subst (AreWithin address_bounds) (sym it.named) (omega arith, omega arith, octets_within address it.octets)

address_fits : (numbers : List ℕ) → AreWithin address_bounds numbers → is_some (address_of numbers) ≡ true
address_fits [] within = absurd within
address_fits (count ∷ octets) within =
    let fits : is_address octets ≡ true = octets_fit octets within.2 in
    let counted : nat_eq count 4 ≡ true = grind (arith, nat_tests, within.0, within.1) in
    rw (counted, fits) refl

address_long : (numbers address : List ℕ) → address_of numbers ≡ Some address → length numbers ≡ 5
address_long numbers address e =
    let it = address_is numbers address e in
    let long : length address ≡ 4 = four address it.octets in
    ap length it.named ∙ (let whole : length (4 ∷ address) ≡ 5 = omega (arith, long) in whole)

address_ordered : (one other numbers more : List ℕ) → address_of numbers ≡ Some one → address_of more ≡ Some other → cmp one other ≡ cmp numbers more
address_ordered one other numbers more e f = λ d. cmp (sym (address_is numbers one e).named d) (sym (address_is more other f).named d)

pub address_numbered : IsForm address_form cmp
address_numbered = record {
  exact = λ numbers address e. (address_is numbers address e).named;
  long = address_long;
  within = address_within;
  fitting = address_fits;
  ordered = address_ordered;
}

-- numbers that are a pair: those of the first address, and then those of the second
record ArePair (numbers : List ℕ) (pair : AddressPair (List ℕ)) : Type 0 where
  first : address_of (take 5 numbers) ≡ Some pair.first
  second : address_of (drop 5 numbers) ≡ Some pair.second

pair_is : (numbers : List ℕ) (pair : AddressPair (List ℕ)) → pair_form.key_of numbers ≡ Some pair → ArePair numbers pair
pair_is numbers pair e = by_both (address_of (take 5 numbers)) (address_of (drop 5 numbers)) refl refl e
  where
    by_both : (o p : Option (List ℕ)) → address_of (take 5 numbers) ≡ o → address_of (drop 5 numbers) ≡ p → pair_of o p ≡ Some pair → ArePair numbers pair
    by_both None None f g none = absurd (none-some pair none)
    by_both None (Some second) f g none = absurd (none-some pair none)
    by_both (Some first) None f g none = absurd (none-some pair none)
    by_both (Some first) (Some second) f g some =
        let same = same_Some _ _ some in
        record { first = f ∙ ap (λ (one : AddressPair (List ℕ)). Some one.first) same; second = g ∙ ap (λ (one : AddressPair (List ℕ)). Some one.second) same }

pair_exact : (numbers : List ℕ) (pair : AddressPair (List ℕ)) → pair_form.key_of numbers ≡ Some pair → numbers ≡ address_numbers pair.first ++ address_numbers pair.second
pair_exact numbers pair e =
    let it = pair_is numbers pair e in
    sym (take-append-drop 5 numbers) ∙ (λ d. (address_is (take 5 numbers) pair.first it.first).named d ++ (address_is (drop 5 numbers) pair.second it.second).named d)

pair_long : (numbers : List ℕ) (pair : AddressPair (List ℕ)) → pair_form.key_of numbers ≡ Some pair → length numbers ≡ 10
pair_long numbers pair e =
    let it = pair_is numbers pair e in
    let first : length (take 5 numbers) ≡ 5 = address_long (take 5 numbers) pair.first it.first in
    let second : length (drop 5 numbers) ≡ 5 = address_long (drop 5 numbers) pair.second it.second in
    ap length (sym (take-append-drop 5 numbers)) ∙ length-append (take 5 numbers) (drop 5 numbers) ∙ (λ d. first d + second d)

-- two lists of bounds, and what is within each
both_within : (bounds more : List Bounds) (numbers others : List ℕ) → AreWithin bounds numbers → AreWithin more others → AreWithin (bounds ++ more) (numbers ++ others)
both_within [] more [] others first second = second
both_within [] more (number ∷ numbers) others first second = absurd first
both_within (bound ∷ bounds) more [] others first second = absurd first
both_within (bound ∷ bounds) more (number ∷ numbers) others first second = (first.0, first.1, both_within bounds more numbers others first.2 second)

pair_within : (numbers : List ℕ) (pair : AddressPair (List ℕ)) → pair_form.key_of numbers ≡ Some pair → AreWithin (address_bounds ++ address_bounds) numbers
pair_within numbers pair e =
    let it = pair_is numbers pair e in
    subst (AreWithin (address_bounds ++ address_bounds)) (take-append-drop 5 numbers)
    (both_within address_bounds address_bounds (take 5 numbers) (drop 5 numbers) (address_within (take 5 numbers) pair.first it.first) (address_within (drop 5 numbers) pair.second it.second))

-- the first numbers are within the first bounds, and the rest within the others
first_within : (bounds more : List Bounds) (numbers : List ℕ) → AreWithin (bounds ++ more) numbers → AreWithin bounds (take (length bounds) numbers)
first_within [] more numbers within = tt
first_within (bound ∷ bounds) more [] within = absurd within
first_within (bound ∷ bounds) more (number ∷ numbers) within = (within.0, within.1, first_within bounds more numbers within.2)

rest_within : (bounds more : List Bounds) (numbers : List ℕ) → AreWithin (bounds ++ more) numbers → AreWithin more (drop (length bounds) numbers)
rest_within [] more numbers within = within
rest_within (bound ∷ bounds) more [] within = absurd within
rest_within (bound ∷ bounds) more (number ∷ numbers) within = rest_within bounds more numbers within.2

pair_fits : (numbers : List ℕ) → AreWithin (address_bounds ++ address_bounds) numbers → is_some (pair_form.key_of numbers) ≡ true
pair_fits numbers within =
    by_both (address_of (take 5 numbers)) (address_of (drop 5 numbers))
    (address_fits (take 5 numbers) (first_within address_bounds address_bounds numbers within))
    (address_fits (drop 5 numbers) (rest_within address_bounds address_bounds numbers within))
  where
    by_both : (o p : Option (List ℕ)) → is_some o ≡ true → is_some p ≡ true → is_some (pair_of o p) ≡ true
    by_both (Some first) (Some second) here there = refl
    by_both None p none there = absurd (cc)
    by_both (Some first) None here none = absurd (cc)

pair_ordered : (one other : AddressPair (List ℕ)) (numbers more : List ℕ) → pair_form.key_of numbers ≡ Some one → pair_form.key_of more ≡ Some other
    → ordering_then (cmp one.first other.first) (cmp one.second other.second) ≡ cmp numbers more
pair_ordered one other numbers more e f =
    let it = pair_is numbers one e in
    let also = pair_is more other f in
    let long : length (take 5 numbers) ≡ length (take 5 more) = address_long (take 5 numbers) one.first it.first ∙ sym (address_long (take 5 more) other.first also.first) in
    (λ d. ordering_then (address_ordered one.first other.first (take 5 numbers) (take 5 more) it.first also.first d) (address_ordered one.second other.second (drop 5 numbers) (drop 5 more) it.second also.second d))
    ∙ sym (joined (take 5 numbers) (take 5 more) (drop 5 numbers) (drop 5 more) long)
    ∙ (λ d. cmp (take-append-drop 5 numbers d) (take-append-drop 5 more d))

pub pair_numbered : IsForm pair_form (λ one other. ordering_then (cmp one.first other.first) (cmp one.second other.second))
pair_numbered = record { exact = pair_exact; long = pair_long; within = pair_within; fitting = pair_fits; ordered = pair_ordered }
