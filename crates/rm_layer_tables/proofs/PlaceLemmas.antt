-- The numbers of indexes.
use Rattle.std.proofs.Common.{◌≡◌, ℕ, ◌+◌, ◌<◌, ◌≤◌, List, [], ◌∷◌, ◌++◌, length, take, drop, Bool, true, false, cond, nat_eq, nat_lt, Option, Some, None, refl, ap, ◌∙◌, arith}
use Rattle.std.specs.Prelude.{slice_index}
use Rattle.std.proofs.lemmas.Bool.Decides.{nat_tests}
use Rattle.std.specs.List.{list_all}
use Rattle.std.proofs.lemmas.Bool.{and_parts}
use Rattle.std.proofs.lemmas.List.{length-drop, drop-drop, drop-take, take-take, take_all, drop_all, take-append-le, drop-append-le}
use Rattle.rm_layer_tables.specs.Indexes.{ip_local, is_address, address_numbers, address_of, KeyForm, with_protocol, application_place}
use Rattle.rm_layer_tables.specs.Addresses.{pair_of, pair_form}

-- four octets are an address
pub four_octets : (numbers : List ℕ) → length numbers ≡ 4 → ((k : ℕ) → slice_index numbers k < 256) → is_address numbers ≡ true
four_octets (a ∷ b ∷ c ∷ d ∷ []) long octets = rw (octet a (octets 0), octet b (octets 1), octet c (octets 2), octet d (octets 3)) refl
  where
    octet : (number : ℕ) → number < 256 → nat_lt number 256 ≡ true
    octet number lt = grind (arith, nat_tests)
four_octets [] long octets = absurd (omega (arith, long))
four_octets (a ∷ []) long octets = absurd (omega (arith, long))
four_octets (a ∷ b ∷ []) long octets = absurd (omega (arith, long))
four_octets (a ∷ b ∷ c ∷ []) long octets = absurd (omega (arith, long))
four_octets (a ∷ b ∷ c ∷ d ∷ e ∷ more) long octets = absurd (omega (arith, long))

module _ {K : Type 0} (form : KeyForm K) where
  abbrev nothing : Option (ℕ × (K × ℕ))
  nothing = None

  never : (t : Bool) → cond t nothing nothing ≡ nothing
  never true = refl
  never false = refl

  -- no other list of numbers names a protocol of a key
  pub other_length : (numbers : List ℕ) → (length numbers ≡ form.count + 4 → ⊥) → application_place form (drop 1 numbers) ≡ None
  other_length [] other = refl
  other_length (n ∷ []) other = refl
  other_length (n ∷ mark ∷ []) other = refl
  other_length (n ∷ mark ∷ protocol ∷ rest) other = by_behind (drop form.count rest) refl
    where
      by_behind : (behind : List ℕ) → drop form.count rest ≡ behind → cond (nat_eq protocol ip_local) (with_protocol form mark (form.key_of (take form.count rest)) (drop form.count rest)) None ≡ None
      by_behind [] e = rw e (by_key (form.key_of (take form.count rest)))
        where
          by_key : (o : Option K) → cond (nat_eq protocol ip_local) (with_protocol form mark o []) None ≡ None
          by_key None = never (nat_eq protocol ip_local)
          by_key (Some key) = never (nat_eq protocol ip_local)
      by_behind (local ∷ []) e =
          let one : length (drop form.count rest) ≡ 1 = ap length e in
          let cut = length-drop form.count rest in
          absurd (other (omega (arith, one, cut)))
      by_behind (local ∷ next ∷ more) e = rw e (by_key (form.key_of (take form.count rest)))
        where
          by_key : (o : Option K) → cond (nat_eq protocol ip_local) (with_protocol form mark o (local ∷ next ∷ more)) None ≡ None
          by_key None = never (nat_eq protocol ip_local)
          by_key (Some key) = never (nat_eq protocol ip_local)

  pub other_protocol : (numbers : List ℕ) → (slice_index numbers 2 ≡ ip_local → ⊥) → application_place form (drop 1 numbers) ≡ None
  other_protocol [] other = refl
  other_protocol (n ∷ []) other = refl
  other_protocol (n ∷ mark ∷ []) other = refl
  other_protocol (n ∷ mark ∷ protocol ∷ rest) other = by_test (nat_eq protocol ip_local) refl
    where
      by_test : (t : Bool) → nat_eq protocol ip_local ≡ t → application_place form (mark ∷ protocol ∷ rest) ≡ None
      by_test true e = let same : protocol ≡ ip_local = grind (arith, nat_tests, e) in absurd (other same)
      by_test false e = rw e refl

-- the pair whose numbers stand in an index from a place on
pub pair_from : (index : List ℕ) (from : ℕ)
    → pair_form.key_of (take 10 (drop from index)) ≡ pair_of (address_of (take 5 (drop from index))) (address_of (take 5 (drop (from + 5) index)))
pair_from index from =
    let first : take 5 (take 10 (drop from index)) ≡ take 5 (drop from index) = take-take 5 10 (drop from index) (omega arith) in
    let second : drop 5 (take 10 (drop from index)) ≡ take 5 (drop (from + 5) index) = drop-take 5 5 (drop from index) ∙ ap (take 5) (drop-drop 5 from index) in
    λ d. pair_of (address_of (first d)) (address_of (second d))

-- the numbers of two addresses are those of the pair of them
pub pair_named : (first second : List ℕ) → is_address first ≡ true → is_address second ≡ true
    → pair_form.key_of (pair_form.numbers (record { first = first; second = second })) ≡ Some (record { first = first; second = second })
pair_named first second is also =
    let four : nat_eq (length first) 4 ≡ true = (and_parts (nat_eq (length first) 4) (list_all (λ number. nat_lt number 256) first) is).0 in
    let long : length first ≡ 4 = grind (arith, nat_tests, four) in
    let few : 5 ≤ length (address_numbers first) = omega (arith, long) in
    let front : take 5 (address_numbers first ++ address_numbers second) ≡ address_numbers first =
    take-append-le 5 (address_numbers first) (address_numbers second) few ∙ take_all 5 (address_numbers first) (omega (arith, long)) in
    let behind : drop 5 (address_numbers first ++ address_numbers second) ≡ address_numbers second =
    drop-append-le 5 (address_numbers first) (address_numbers second) few ∙ ap (λ none. none ++ address_numbers second) (drop_all 5 (address_numbers first) (omega (arith, long))) in
    let named : pair_of (address_of (address_numbers first)) (address_of (address_numbers second)) ≡ Some (record { first = first; second = second }) = rw (is, also) refl in
    (λ d. pair_of (address_of (front d)) (address_of (behind d))) ∙ named
