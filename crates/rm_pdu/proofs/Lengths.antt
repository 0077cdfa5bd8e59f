-- More bindings make a message longer.
use Rattle.std.proofs.Common.{◌≡◌, ◌≤◌, ℕ, pos, List, [], ◌++◌, length, refl, sym, ap, ◌∙◌, arith}
use Rattle.std.specs.Prelude.{flat_map}
use Rattle.std.proofs.lemmas.List.{length-append}
use Rattle.std.proofs.lemmas.Grind.{flat_map-append}
use Rattle.std.proofs.lemmas.Bool.Decides.{nat_tests}
use Rattle.rm_val.specs.Val.{int}
use Rattle.rm_ber.specs.Element.{integer_size, value_element}
use Rattle.rm_pdu.specs.Message.{Binding, Message, binding_octets, message_octets}
use Rattle.rm_pdu.specs.Draft.{Drafted, drafted}
use Rattle.rm_pdu.specs.DraftParts.{header_size, element_size, pdu_size, content_size, message_size}
use Rattle.rm_pdu.proofs.DraftSizes.{length-message, length-integer, new_short}

pub header_mono : (a b : ℕ) → a ≤ b → header_size a ≤ header_size b
unfolding header_size
header_mono a b le = grind (arith, nat_tests)

pub element_mono : (a b : ℕ) → a ≤ b → element_size a ≤ element_size b
element_mono a b le = omega (arith, header_mono a b le)

message_mono : (d : Drafted) (a b : ℕ) → a ≤ b → message_size d a ≤ message_size d b
message_mono d a b le = element_mono (content_size d a) (content_size d b) (omega (arith, element_mono (pdu_size d a) (pdu_size d b) (omega (arith, element_mono a b le))))

pub longer_with : (m : Message) (more : List Binding) → length (message_octets m) ≤ length (message_octets (record m { bindings = m.bindings ++ more }))
unfolding drafted
longer_with m more =
    let longer : Message = record m { bindings = m.bindings ++ more } in
    omega (
      arith,
      length-message m,
      length-message longer,
      message_mono (drafted m) (length (flat_map binding_octets m.bindings)) (length (flat_map binding_octets longer.bindings))
          (omega (arith, ap length (flat_map-append binding_octets m.bindings more), length-append (flat_map binding_octets m.bindings) (flat_map binding_octets more))),
    )

-- a message with no bindings is short
pub empty_short : (m : Message) → length m.community ≤ 127 → m.bindings ≡ [] → length (message_octets m) ≤ 1472
unfolding drafted
empty_short m few none =
    let list : flat_map binding_octets m.bindings ≡ [] = rw none refl in
    let short = new_short (drafted m) few (ap length list) in
    omega (arith, length-message m, short)

size_mono : (a b : ℕ) → a ≤ b → integer_size (pos a) ≤ integer_size (pos b)
size_mono a b le = grind (arith, nat_tests)

integer_mono : (a b : ℕ) → a ≤ b → length (value_element (int (pos a))) ≤ length (value_element (int (pos b)))
integer_mono a b le =
    omega (arith, length-integer (pos a), length-integer (pos b), element_mono (integer_size (pos a)) (integer_size (pos b)) (size_mono a b le))

-- small numbers take one octet
small_size : (a : ℕ) → a ≤ 127 → integer_size (pos a) ≡ 1
small_size a le = grind (arith, nat_tests)

small_integer : (a : ℕ) → a ≤ 127 → length (value_element (int (pos a))) ≡ length (value_element (int (pos 0)))
small_integer a le = length-integer (pos a) ∙ ap element_size (small_size a le) ∙ sym (length-integer (pos 0))

-- of a message with small numbers the one with the index 128 is longest
pub longest_at_128 : (m : Message) (status index : ℕ) → status ≤ 127 → index ≤ 128
    → length (message_octets (record m { first = pos status; second = pos index })) ≤ length (message_octets (record m { first = pos 0; second = pos 128 }))
unfolding drafted
longest_at_128 m status index low few =
    let one : Message = record m { first = pos status; second = pos index } in
    let other : Message = record m { first = pos 0; second = pos 128 } in
    let list : ℕ = length (flat_map binding_octets m.bindings) in
    let first : length (value_element (int (pos status))) ≡ length (value_element (int (pos 0))) = small_integer status low in
    let second : length (value_element (int (pos index))) ≤ length (value_element (int (pos 128))) = integer_mono index 128 few in
    let pdu : pdu_size (drafted one) list ≤ pdu_size (drafted other) list = omega (arith, first, second) in
    let inside = element_mono (pdu_size (drafted one) list) (pdu_size (drafted other) list) pdu in
    let content : content_size (drafted one) list ≤ content_size (drafted other) list = omega (arith, inside) in
    omega (arith, length-message one, length-message other, element_mono (content_size (drafted one) list) (content_size (drafted other) list) content)
