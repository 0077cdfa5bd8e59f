-- The canonical octets of a message are the fewest that spell it, and no others are as few.
use Rattle.std.proofs.Common.{◌≡◌, ◌≤◌, ◌<◌, ◌+◌, ℕ, pos, List, [], ◌∷◌, ◌++◌, length, flat_map, All, refl, sym, ap, subst, ◌∙◌, append_assoc, length-append, arith}
use Rattle.std.proofs.lemmas.List.{append-nil}
use Rattle.std.proofs.lemmas.List.Elements.{All-nil, All-cons, All-head, All-tail}
use Rattle.rm_val.specs.Val.{Val, int, octets, name}
use Rattle.rm_ber.specs.Element.{element, value_element}
use Rattle.rm_ber.specs.Grammar.{StandsFirst, ValueFirst}
use Rattle.rm_ber.specs.Canonical.{AreFewest}
use Rattle.rm_pdu.specs.Message.{kind_tag, Binding, Message, binding_octets, pdu_octets, message_octets}
use Rattle.rm_pdu.specs.Spells.{IsBinding, AreBindings, IsPdu, Spells}
use Rattle.rm_pdu.specs.DraftParts.{element_size}
use Rattle.rm_pdu.proofs.DraftSizes.{length-element}
use Rattle.rm_pdu.proofs.Lengths.{header_mono, element_mono}

-- each is an octet
abbrev pub AreOctets : List ℕ → Type 0
AreOctets bytes = All (λ octet. octet < 256) bytes

-- what the laws of elements and of values say
abbrev pub ElementsFewest : Type 0
ElementsFewest = (tag : ℕ) (content rest bytes : List ℕ) → StandsFirst tag content rest bytes → AreOctets bytes → AreFewest (element tag content ++ rest) bytes

abbrev pub ValuesFew : Type 0
ValuesFew = (v : Val) (rest bytes : List ℕ) → ValueFirst v rest bytes → AreOctets bytes → length (value_element v ++ rest) ≤ length bytes

abbrev pub ValuesAlone : Type 0
ValuesAlone = (v : Val) (rest bytes : List ℕ) → ValueFirst v rest bytes → AreOctets bytes
    → length bytes ≡ length (value_element v ++ rest) → bytes ≡ value_element v ++ rest

-- both laws of values
abbrev ValuesFewest : Type 0
ValuesFewest = ValuesFew × ValuesAlone

front_octets : (xs ys : List ℕ) → AreOctets (xs ++ ys) → AreOctets xs
front_octets [] ys are = All-nil (λ octet. octet < 256)
front_octets (x ∷ xs) ys are =
    All-cons (λ octet. octet < 256) x xs (All-head (λ octet. octet < 256) x (xs ++ ys) are) (front_octets xs ys (All-tail (λ octet. octet < 256) x (xs ++ ys) are))

back_octets : (xs ys : List ℕ) → AreOctets (xs ++ ys) → AreOctets ys
back_octets [] ys are = are
back_octets (x ∷ xs) ys are = back_octets xs ys (All-tail (λ octet. octet < 256) x (xs ++ ys) are)

-- the octets of what stands first
whole_octets : (tag : ℕ) (content rest bytes : List ℕ) (first : StandsFirst tag content rest bytes) → AreOctets bytes → AreOctets ((tag ∷ first.is_element.count ++ content) ++ rest)
whole_octets tag content rest bytes first are =
    subst AreOctets (first.is ∙ ap (λ (xs : List ℕ). xs ++ rest) first.is_element.is) are

content_octets : (tag : ℕ) (content rest bytes : List ℕ) → StandsFirst tag content rest bytes → AreOctets bytes → AreOctets content
content_octets tag content rest bytes first are =
    let count = first.is_element.count in
    back_octets (tag ∷ count) content (front_octets (tag ∷ count ++ content) rest (whole_octets tag content rest bytes first are))

rest_octets : (tag : ℕ) (content rest bytes : List ℕ) → StandsFirst tag content rest bytes → AreOctets bytes → AreOctets rest
rest_octets tag content rest bytes first are =
    back_octets (tag ∷ first.is_element.count ++ content) rest (whole_octets tag content rest bytes first are)

value_rest : (v : Val) (rest bytes : List ℕ) → ValueFirst v rest bytes → AreOctets bytes → AreOctets rest
value_rest v rest bytes first are = rest_octets first.tag first.content rest bytes first.stands are

-- no shorter content makes an element as long
same_size : (a b : ℕ) → a ≤ b → element_size b ≤ element_size a → b ≡ a
same_size a b few most = omega (arith, header_mono a b few)

none_fewest : AreFewest [] []
none_fewest = record { few = omega arith; only = λ same. refl }

-- an element and what follows it are the fewest octets where its content and what follows are
element_fewest : ElementsFewest → (tag : ℕ) (content rest bytes canonical others : List ℕ) → StandsFirst tag content rest bytes → AreOctets bytes
    → AreFewest canonical content → AreFewest others rest → AreFewest (element tag canonical ++ others) bytes
element_fewest elements tag content rest bytes canonical others first are inner behind =
    let whole = elements tag content rest bytes first are in
    let given = length-append (element tag content) rest ∙ ap (λ (n : ℕ). n + length rest) (length-element tag content) in
    let least = length-append (element tag canonical) others ∙ ap (λ (n : ℕ). n + length others) (length-element tag canonical) in
    let few = element_mono (length canonical) (length content) inner.few in
    let fewer = behind.few in
    let total = whole.few in
    record {
      few = omega arith;
      only = λ same.
          let as_many : length content ≡ length canonical = same_size (length canonical) (length content) inner.few (omega arith) in
          let size = ap element_size as_many in
          whole.only (omega arith) ∙ ap (λ (xs : List ℕ). element tag xs ++ rest) (inner.only as_many)
          ∙ ap (λ (xs : List ℕ). element tag canonical ++ xs) (behind.only (omega arith));
    }

last_element : ElementsFewest → (tag : ℕ) (content bytes canonical : List ℕ) → StandsFirst tag content [] bytes → AreOctets bytes → AreFewest canonical content
    → AreFewest (element tag canonical) bytes
last_element elements tag content bytes canonical first are inner =
    subst (λ (xs : List ℕ). AreFewest xs bytes) (append-nil (element tag canonical)) (element_fewest elements tag content [] bytes canonical [] first are inner none_fewest)

-- a value and what follows it are the fewest octets where what follows is
value_fewest : ValuesFewest → (v : Val) (rest bytes others : List ℕ) → ValueFirst v rest bytes → AreOctets bytes → AreFewest others rest
    → AreFewest (value_element v ++ others) bytes
value_fewest values v rest bytes others first are behind =
    let given = length-append (value_element v) rest in
    let least = length-append (value_element v) others in
    let total = values.0 v rest bytes first are in
    let fewer = behind.few in
    record {
      few = omega arith;
      only = λ same. values.1 v rest bytes first are (omega arith) ∙ ap (λ (xs : List ℕ). value_element v ++ xs) (behind.only (omega arith));
    }

last_value : ValuesFewest → (v : Val) (bytes : List ℕ) → ValueFirst v [] bytes → AreOctets bytes → AreFewest (value_element v) bytes
last_value values v bytes first are =
    subst (λ (xs : List ℕ). AreFewest xs bytes) (append-nil (value_element v)) (value_fewest values v [] bytes [] first are none_fewest)

binding_fewest : ValuesFewest → (content : List ℕ) (binding : Binding) → IsBinding content binding → AreOctets content
    → AreFewest (value_element (name binding.name) ++ value_element binding.value) content
binding_fewest values content binding is are =
    let behind = last_value values binding.value is.0 is.2 (value_rest (name binding.name) is.0 content is.1 are) in
    value_fewest values (name binding.name) is.0 content (value_element binding.value) is.1 are behind

bindings_fewest : ElementsFewest → ValuesFewest → (bytes : List ℕ) (bindings : List Binding) → AreBindings bytes bindings → AreOctets bytes
    → AreFewest (flat_map binding_octets bindings) bytes
bindings_fewest elements values bytes [] is are = subst (λ (xs : List ℕ). AreFewest [] xs) (sym is) none_fewest
bindings_fewest elements values bytes (binding ∷ more) is are =
    let inner = binding_fewest values is.0 binding is.3 (content_octets 0x30 is.0 is.1 bytes is.2 are) in
    let behind = bindings_fewest elements values is.1 more is.4 (rest_octets 0x30 is.0 is.1 bytes is.2 are) in
    element_fewest elements 0x30 is.0 is.1 bytes (value_element (name binding.name) ++ value_element binding.value) (flat_map binding_octets more) is.2 are inner behind

-- one after the other, in either grouping
in_front : (a b c d : List ℕ) → a ++ (b ++ (c ++ d)) ≡ a ++ b ++ c ++ d
in_front a b c d = sym (append_assoc a b (c ++ d)) ∙ sym (append_assoc (a ++ b) c d)

pdu_fewest : ElementsFewest → ValuesFewest → (content : List ℕ) (m : Message) → IsPdu content m → AreOctets content
    → AreFewest (value_element (int m.id) ++ value_element (int m.first) ++ value_element (int m.second) ++ element 0x30 (flat_map binding_octets m.bindings)) content
pdu_fewest elements values content m is are =
    let id = value_rest (int m.id) is.after_id content is.id are in
    let first = value_rest (int m.first) is.after_first is.after_id is.first id in
    let second = value_rest (int m.second) is.after_second is.after_first is.second first in
    let list = flat_map binding_octets m.bindings in
    let inner = bindings_fewest elements values is.list m.bindings is.bindings (content_octets 0x30 is.list [] is.after_second is.opens second) in
    let opened = last_element elements 0x30 is.list is.after_second list is.opens second inner in
    let two = value_fewest values (int m.second) is.after_second is.after_first (element 0x30 list) is.second first opened in
    let three = value_fewest values (int m.first) is.after_first is.after_id (value_element (int m.second) ++ element 0x30 list) is.first id two in
    let four = value_fewest values (int m.id) is.after_id content (value_element (int m.first) ++ (value_element (int m.second) ++ element 0x30 list)) is.id are three in
    subst (λ (xs : List ℕ). AreFewest xs content) (in_front (value_element (int m.id)) (value_element (int m.first)) (value_element (int m.second)) (element 0x30 list)) four

-- the canonical octets of a message are the fewest
pub message_fewest : ElementsFewest → ValuesFew → ValuesAlone → (bytes : List ℕ) (m : Message) → Spells bytes m → AreOctets bytes → AreFewest (message_octets m) bytes
unfolding message_octets
message_fewest elements few alone bytes m spells are =
    let values : ValuesFewest = (few, alone) in
    let inside = content_octets 0x30 spells.content [] bytes spells.opens are in
    let version = value_rest (int (pos 1)) spells.after_version spells.content spells.version inside in
    let community = value_rest (octets m.community) spells.after_community spells.after_version spells.community version in
    let pdu = pdu_fewest elements values spells.pdu m spells.is_pdu (content_octets (kind_tag m.kind) spells.pdu [] spells.after_community spells.opens_pdu community) in
    let opened : AreFewest (pdu_octets m) spells.after_community = last_element elements (kind_tag m.kind) spells.pdu spells.after_community _ spells.opens_pdu community pdu in
    let text = value_fewest values (octets m.community) spells.after_community spells.after_version (pdu_octets m) spells.community version opened in
    let all = value_fewest values (int (pos 1)) spells.after_version spells.content (value_element (octets m.community) ++ pdu_octets m) spells.version inside text in
    let grouped = sym (append_assoc (value_element (int (pos 1))) (value_element (octets m.community)) (pdu_octets m)) in
    last_element elements 0x30 spells.content bytes _ spells.opens are (subst (λ (xs : List ℕ). AreFewest xs spells.content) grouped all)
