-- At most how many octets messages and their bindings take.
use Rattle.std.proofs.Common.{◌≡◌, ℕ, zero, suc, ◌+◌, ◌*◌, ◌%◌, ◌≤◌, ℤ, pos, List, [], ◌∷◌, ◌++◌, length, flat_map, refl, sym, ap, ◌∙◌, length-append, arith}
use Rattle.std.proofs.lemmas.Bool.Decides.{nat_tests}
use Rattle.std.proofs.lemmas.List.Sums.{sum_by-cons}
use Rattle.std.specs.List.{sum_by}
use Rattle.rm_val.specs.Val.{Val, int, name, ticks}
use Rattle.rm_ber.specs.Element.{higher_groups, marked_groups, group_octets, name_octets, number_size, number_octets, value_element}
use Rattle.rm_pdu.specs.Message.{Binding, Message, binding_octets, message_octets}
use Rattle.rm_pdu.specs.Draft.{drafted, binding_of}
use Rattle.rm_pdu.specs.DraftParts.{pdu_size, content_size}
use Rattle.rm_pdu.proofs.DraftSizes.{length-element, length-message, header_short, integer_short, octets_short, number_short, length-bytes}

length-marked : (k n : ℕ) → length (marked_groups k n) ≡ k
length-marked zero n = refl
length-marked (suc k) n = ap suc (length-marked k n)

few_groups : (n : ℕ) → higher_groups n ≤ 4
few_groups n = grind (arith, nat_tests)

-- a number of a name takes at most five octets
group_short : (n : ℕ) → length (group_octets n) ≤ 5
group_short n =
    let joined = length-append (marked_groups (higher_groups n) n) ((n % 128) ∷ []) in
    omega (arith, joined, length-marked (higher_groups n) n, few_groups n)

groups_short : (numbers : List ℕ) → length (flat_map group_octets numbers) ≤ 5 * length numbers
groups_short [] = omega arith
groups_short (n ∷ more) =
    omega (arith, length-append (group_octets n) (flat_map group_octets more), group_short n, groups_short more)

name_short : (numbers : List ℕ) → length (name_octets numbers) ≤ 5 * length numbers
unfolding name_octets
name_short [] = omega arith
name_short (a ∷ []) = omega (arith, group_short (40 * a))
name_short (a ∷ b ∷ more) =
    omega (arith, length-append (group_octets (40 * a + b)) (flat_map group_octets more), group_short (40 * a + b), groups_short more)

-- at most how many octets the elements of values take
name_element_short : (numbers : List ℕ) → length (value_element (name numbers)) ≤ 5 * length numbers + 6
name_element_short numbers =
    omega (arith, length-element 0x06 (name_octets numbers), header_short (length (name_octets numbers)), name_short numbers)

ticks_element_short : (n : ℕ) → length (value_element (ticks n)) ≤ 15
unfolding number_octets
ticks_element_short n =
    let count : length (number_octets n) ≡ number_size n = length-bytes (number_size n) n in
    omega (arith, length-element 0x43 (number_octets n), header_short (length (number_octets n)), count, number_short n)

binding_short : (numbers : List ℕ) (v : Val) → length (binding_octets (binding_of numbers v)) ≤ 5 * length numbers + 12 + length (value_element v)
binding_short numbers v =
    let content = value_element (name numbers) ++ value_element v in
    omega (
      arith,
      length-element 0x30 content,
      header_short (length content),
      length-append (value_element (name numbers)) (value_element v),
      name_element_short numbers,
    )

pub number_binding : (numbers : List ℕ) (z : ℤ) → length (binding_octets (binding_of numbers (int z))) ≤ 5 * length numbers + 23
number_binding numbers z = omega (arith, binding_short numbers (int z), integer_short z)

pub ticks_binding : (numbers : List ℕ) (n : ℕ) → length (binding_octets (binding_of numbers (ticks n))) ≤ 5 * length numbers + 27
ticks_binding numbers n = omega (arith, binding_short numbers (ticks n), ticks_element_short n)

pub name_binding : (numbers others : List ℕ) → length (binding_octets (binding_of numbers (name others))) ≤ 5 * length numbers + 5 * length others + 18
name_binding numbers others = omega (arith, binding_short numbers (name others), name_element_short others)

-- the octets of bindings one after the other
length-bindings : (bindings : List Binding) → length (flat_map binding_octets bindings) ≡ sum_by (λ binding. length (binding_octets binding)) bindings
length-bindings [] = refl
length-bindings (binding ∷ more) =
    length-append (binding_octets binding) (flat_map binding_octets more)
    ∙ ap (λ n. length (binding_octets binding) + n) (length-bindings more)
    ∙ sym (sum_by-cons (λ (b : Binding). length (binding_octets b)) binding more)

pub message_bound : (m : Message) → length m.community ≤ 127 → length (message_octets m) ≤ 191 + sum_by (λ binding. length (binding_octets binding)) m.bindings
unfolding drafted
message_bound m few =
    let list = length (flat_map binding_octets m.bindings) in
    let d = drafted m in
    omega (
      arith,
      length-message m,
      length-bindings m.bindings,
      integer_short m.id,
      integer_short m.first,
      integer_short m.second,
      integer_short (pos 1),
      octets_short m.community few,
      header_short list,
      header_short (pdu_size d list),
      header_short (content_size d list),
    )
