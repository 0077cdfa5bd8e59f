-- A message is what its canonical octets spell.
use Rattle.std.proofs.Common.{◌≡◌, ◌≤◌, ℕ, pos, List, [], ◌∷◌, ◌++◌, length, flat_map, All, refl, sym, subst, append_assoc, length-append, rules, arith}
use Rattle.std.proofs.lemmas.List.{append-nil}
use Rattle.std.proofs.lemmas.List.Elements.{All-head, All-tail}
use Rattle.rm_val.specs.Val.{Val, int, octets, name, opaque_octets}
use Rattle.rm_val.specs.Spellable.{HasSpelling}
use Rattle.rm_ber.specs.Element.{length_octets, element, value_element}
use Rattle.rm_ber.specs.Grammar.{StandsFirst, ValueFirst}
use Rattle.rm_ber.specs.Canonical.{HasLength, IsInRange, IsAccepted}
use Rattle.rm_pdu.specs.Message.{kind_tag, Binding, Message, binding_octets, pdu_octets, message_octets}
use Rattle.rm_pdu.specs.Spells.{IsBinding, AreBindings, IsPdu, Spells}
use Rattle.rm_pdu.specs.Draft.{IsWritableBinding, IsWritable}
use Rattle.rm_pdu.proofs.DraftSizes.{length-element}

abbrev pub ElementsReadBack : Type 0
ElementsReadBack = (tag : ℕ) (content rest : List ℕ) → length content ≤ 4294967295 → StandsFirst tag content rest (tag ∷ length_octets (length content) ++ content ++ rest)

abbrev pub ValuesReadBack : Type 0
ValuesReadBack = (v : Val) → HasSpelling v → HasLength v → IsInRange v → IsAccepted v

element_first : ElementsReadBack → (tag : ℕ) (content rest : List ℕ) → length content ≤ 4294967295 → StandsFirst tag content rest (element tag content ++ rest)
unfolding element
element_first read tag content rest short = read tag content rest short

element_alone : ElementsReadBack → (tag : ℕ) (content : List ℕ) → length content ≤ 4294967295 → StandsFirst tag content [] (element tag content)
element_alone read tag content short =
    subst (λ (x : List ℕ). StandsFirst tag content [] x) (append-nil (element tag content)) (element_first read tag content [] short)

value_alone : (v : Val) → IsAccepted v → ValueFirst v [] (value_element v)
value_alone v accepted = subst (λ (x : List ℕ). ValueFirst v [] x) (append-nil (value_element v)) (accepted [])

inside : (tag : ℕ) (content : List ℕ) → length (element tag content) ≤ 4294967295 → length content ≤ 4294967295
inside tag content short = let e = length-element tag content in omega arith

left : (a b : List ℕ) → length (a ++ b) ≤ 4294967295 → length a ≤ 4294967295
left a b short = let e = length-append a b in omega arith

right : (a b : List ℕ) → length (a ++ b) ≤ 4294967295 → length b ≤ 4294967295
right a b short = let e = length-append a b in omega arith

has_length : (v : Val) → length (value_element v) ≤ 4294967295 → HasLength v
has_length (octets bytes) short = inside 0x04 bytes short
has_length (opaque_octets bytes) short = inside 0x44 bytes short
has_length v short = tt

binding_is : ValuesReadBack → (b : Binding) → IsWritableBinding b → length (value_element (name b.name) ++ value_element b.value) ≤ 4294967295
    → IsBinding (value_element (name b.name) ++ value_element b.value) b
binding_is read b writable short =
    let last = has_length b.value (right (value_element (name b.name)) (value_element b.value) short) in (
      value_element b.value,
      read (name b.name) writable.spellable tt writable.name_in_range (value_element b.value),
      value_alone b.value (read b.value writable.spelling last writable.value_in_range),
    )

bindings_are : ElementsReadBack → ValuesReadBack → (bs : List Binding) → All IsWritableBinding bs → length (flat_map binding_octets bs) ≤ 4294967295
    → AreBindings (flat_map binding_octets bs) bs
bindings_are elements values [] are short = refl
bindings_are elements values (b ∷ more) are short =
    let content = value_element (name b.name) ++ value_element b.value in
    let some = inside 0x30 content (left (binding_octets b) (flat_map binding_octets more) short) in (
      content,
      flat_map binding_octets more,
      element_first elements 0x30 content (flat_map binding_octets more) some,
      binding_is values b (All-head IsWritableBinding b more are) some,
      bindings_are elements values more (All-tail IsWritableBinding b more are) (right (binding_octets b) (flat_map binding_octets more) short),
    )

-- a value stands in front of others
value_before : (v : Val) (rest bytes : List ℕ) → IsAccepted v → value_element v ++ rest ≡ bytes → ValueFirst v rest bytes
value_before v rest bytes accepted e = subst (λ (x : List ℕ). ValueFirst v rest x) e (accepted rest)

abbrev list_of : Message → List ℕ
list_of m = element 0x30 (flat_map binding_octets m.bindings)

abbrev pdu_content : Message → List ℕ
pdu_content m = value_element (int m.id) ++ value_element (int m.first) ++ value_element (int m.second) ++ list_of m

three : (a b c d : List ℕ) → a ++ (b ++ (c ++ d)) ≡ a ++ b ++ c ++ d
three a b c d = simp append_assoc refl

pdu_is : ElementsReadBack → ValuesReadBack → (m : Message) → IsWritable m → length (pdu_content m) ≤ 4294967295 → IsPdu (pdu_content m) m
pdu_is elements values m writable short =
    let id = value_element (int m.id) in
    let first = value_element (int m.first) in
    let second = value_element (int m.second) in
    let list = inside 0x30 (flat_map binding_octets m.bindings) (right (id ++ first ++ second) (list_of m) short) in
    record {
      after_id = first ++ (second ++ list_of m);
      after_first = second ++ list_of m;
      after_second = list_of m;
      list = flat_map binding_octets m.bindings;
      id = value_before (int m.id) (first ++ (second ++ list_of m)) (pdu_content m) (values (int m.id) tt tt writable.id) (three id first second (list_of m));
      first = values (int m.first) tt tt writable.first (second ++ list_of m);
      second = values (int m.second) tt tt writable.second (list_of m);
      opens = element_alone elements 0x30 (flat_map binding_octets m.bindings) list;
      bindings = bindings_are elements values m.bindings writable.bindings list;
    }

abbrev content_of : Message → List ℕ
content_of m = value_element (int (pos 1)) ++ value_element (octets m.community) ++ pdu_octets m

pub message_spells : ElementsReadBack → ValuesReadBack → (m : Message) → IsWritable m → Spells (message_octets m) m
unfolding message_octets
message_spells elements values m writable =
    let version = value_element (int (pos 1)) in
    let community = value_element (octets m.community) in
    let content = inside 0x30 (content_of m) writable.short in
    let text = inside 0x04 m.community (right version community (left (version ++ community) (pdu_octets m) content)) in
    let pdu = inside (kind_tag m.kind) (pdu_content m) (right (version ++ community) (pdu_octets m) content) in
    record {
      content = content_of m;
      after_version = community ++ pdu_octets m;
      after_community = pdu_octets m;
      pdu = pdu_content m;
      opens = element_alone elements 0x30 (content_of m) content;
      version = value_before (int (pos 1)) (community ++ pdu_octets m) (content_of m) (values (int (pos 1)) tt tt (search rules)) (sym (append_assoc version community (pdu_octets m)));
      community = values (octets m.community) tt text tt (pdu_octets m);
      opens_pdu = element_alone elements (kind_tag m.kind) (pdu_content m) pdu;
      is_pdu = pdu_is elements values m writable pdu;
    }
