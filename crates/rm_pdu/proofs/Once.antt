-- Octets spell one message, and are one thing.
use Rattle.std.proofs.Common.{◌≡◌, ℕ, ℤ, pos, Bool, true, false, List, [], ◌∷◌, ◌++◌, nat_eq, find, refl, sym, ap, subst, ◌∙◌, inl, inr, arith}
use Rattle.std.specs.Prelude.{unwrap_or}
use Rattle.rm_val.specs.Val.{Val, int, octets, name}
use Rattle.rm_ber.specs.Grammar.{StandsFirst, ValueFirst}
use Rattle.rm_pdu.specs.declared.kind.Kind.{Kind}
use Rattle.rm_pdu.specs.declared.kind.Kind.TheVariants.{Get, Next, Response, Set, Bulk, Inform, Trap, Report}
use Rattle.rm_pdu.specs.Message.{kind_tag, Binding, Message}
use Rattle.rm_pdu.specs.Spells.{IsBinding, AreBindings, IsPdu, Spells}
use Rattle.rm_pdu.specs.Parse.{Awaited, version, community, pdu, request_id, first_number, second_number, bindings, binding, binding_name, binding_value, binding_end, pdu_end, message_end, datagram_end, Point, Begins, begins, goes_on, is_request, is_read, octets_left, IsMalformed, HasVersion, IsOtherTag, HasOtherPdu, Parse, too_long, malformed, other_version, not_request, message, IsParse}
use Rattle.rm_pdu.proofs.FirstThings.{OneElement, OneValue, none_first}
use Rattle.rm_pdu.proofs.Points.{IsLast, last_once}

int_of : Val → ℤ
int_of (int z) = z
int_of v = pos 0

octets_of : Val → List ℕ
octets_of (octets bytes) = bytes
octets_of v = []

numbers_in : Val → List ℕ
numbers_in (name numbers) = numbers
numbers_in v = []

-- the kind of PDU that a tag names
kind_of : ℕ → Kind
kind_of tag = unwrap_or (find (λ kind. nat_eq (kind_tag kind) tag) (Get ∷ Next ∷ Response ∷ Set ∷ Bulk ∷ Inform ∷ Trap ∷ [])) Report

kind_back : (kind : Kind) → kind_of (kind_tag kind) ≡ kind
unfolding kind_of
kind_back Get = refl
kind_back kind = refl

one_kind : (kind other : Kind) → kind_tag kind ≡ kind_tag other → kind ≡ other
one_kind kind other e = sym (kind_back kind) ∙ ap kind_of e ∙ kind_back other

one_int : OneValue → (y z : ℤ) (rest other bytes : List ℕ) → ValueFirst (int y) rest bytes → ValueFirst (int z) other bytes → (y ≡ z) × (rest ≡ other)
unfolding int_of
one_int one y z rest other bytes h k = let same = one (int y) (int z) rest other bytes h k in (ap int_of same.0, same.1)

bound : List ℕ → Val → Binding
bound numbers v = record { name = numbers; value = v }

bindings_once : OneElement → OneValue → (bytes : List ℕ) (some others : List Binding) → AreBindings bytes some → AreBindings bytes others → some ≡ others
unfolding numbers_in bound
bindings_once element value bytes [] [] h k = refl
bindings_once element value bytes [] (b ∷ more) h k = absurd (none_first 0x30 k.0 k.1 (subst (λ (x : List ℕ). StandsFirst 0x30 k.0 k.1 x) h k.2))
bindings_once element value bytes (a ∷ some) [] h k = absurd (none_first 0x30 h.0 h.1 (subst (λ (x : List ℕ). StandsFirst 0x30 h.0 h.1 x) k h.2))
bindings_once element value bytes (a ∷ some) (b ∷ others) h k =
    let same = element 0x30 0x30 h.0 k.0 h.1 k.1 bytes h.2 k.2 in
    let content = subst (λ (x : List ℕ). IsBinding x a) same.1 h.3 in
    let rest = subst (λ (x : List ℕ). AreBindings x some) same.2 h.4 in
    let names = value (name a.name) (name b.name) content.0 k.3.0 k.0 content.1 k.3.1 in
    let values = value a.value b.value [] [] k.3.0 (subst (λ (x : List ℕ). ValueFirst a.value [] x) names.1 content.2) k.3.2 in
    let first : a ≡ b = same_binding a.name b.name a.value b.value (ap numbers_in names.0) values.0 in
    let behind = bindings_once element value k.1 some others rest k.4 in
    ap (λ (x : Binding). x ∷ some) first ∙ ap (λ (x : List Binding). b ∷ x) behind
  where
    same_binding : (n m : List ℕ) (v w : Val) → n ≡ m → v ≡ w → bound n v ≡ bound m w
    same_binding n m v w e f = ap (λ (x : List ℕ). bound x v) e ∙ ap (λ (x : Val). bound m x) f

message_of : List ℕ → Kind → ℤ → ℤ → ℤ → List Binding → Message
message_of text kind id first second held =
    record { community = text; kind = kind; id = id; first = first; second = second; bindings = held }

same_message : (c d : List ℕ) (k l : Kind) (a b x y p q : ℤ) (bs cs : List Binding) → c ≡ d → k ≡ l → a ≡ b → x ≡ y → p ≡ q → bs ≡ cs
    → message_of c k a x p bs ≡ message_of d l b y q cs
same_message c d k l a b x y p q bs cs e f g h i j =
    ap (λ (t : List ℕ). message_of t k a x p bs) e ∙ ap (λ (t : Kind). message_of d t a x p bs) f ∙ ap (λ (t : ℤ). message_of d l t x p bs) g
    ∙ ap (λ (t : ℤ). message_of d l b t p bs) h ∙ ap (λ (t : ℤ). message_of d l b y t bs) i ∙ ap (λ (t : List Binding). message_of d l b y q t) j

-- octets spell one message
pub message_once : OneElement → OneValue → (bytes : List ℕ) (m n : Message) → Spells bytes m → Spells bytes n → m ≡ n
unfolding message_of octets_of
message_once element value bytes m n h k =
    let whole_same = element 0x30 0x30 h.content k.content [] [] bytes h.opens k.opens in
    let version_same = one_int value (pos 1) (pos 1) h.after_version k.after_version k.content (subst (λ (x : List ℕ). ValueFirst (int (pos 1)) h.after_version x) whole_same.1 h.version) k.version in
    let community_same = value (octets m.community) (octets n.community) h.after_community k.after_community k.after_version
    (subst (λ (x : List ℕ). ValueFirst (octets m.community) h.after_community x) version_same.1 h.community) k.community in
    let pdu_same = element (kind_tag m.kind) (kind_tag n.kind) h.pdu k.pdu [] [] k.after_community
    (subst (λ (x : List ℕ). StandsFirst (kind_tag m.kind) h.pdu [] x) community_same.1 h.opens_pdu) k.opens_pdu in
    let a = subst (λ (x : List ℕ). IsPdu x m) pdu_same.1 h.is_pdu in
    let b = k.is_pdu in
    let id = one_int value m.id n.id a.after_id b.after_id k.pdu a.id b.id in
    let first = one_int value m.first n.first a.after_first b.after_first b.after_id (subst (λ (x : List ℕ). ValueFirst (int m.first) a.after_first x) id.1 a.first) b.first in
    let second = one_int value m.second n.second a.after_second b.after_second b.after_first (subst (λ (x : List ℕ). ValueFirst (int m.second) a.after_second x) first.1 a.second) b.second in
    let list = element 0x30 0x30 a.list b.list [] [] b.after_second (subst (λ (x : List ℕ). StandsFirst 0x30 a.list [] x) second.1 a.opens) b.opens in
    let bindings_same = bindings_once element value b.list m.bindings n.bindings (subst (λ (x : List ℕ). AreBindings x m.bindings) list.1 a.bindings) b.bindings in
    same_message m.community n.community m.kind n.kind m.id n.id m.first n.first m.second n.second m.bindings n.bindings
    (ap octets_of community_same.0) (one_kind m.kind n.kind pdu_same.0) id.0 first.0 second.0 bindings_same

abbrev pub at_end : Point
at_end = record { awaited = datagram_end; left = []; outer = [] }

bindings_pass : (requests : Bool) (bytes list after : List ℕ) (outer : List (List ℕ)) (bound_here : List Binding) → AreBindings list bound_here
    → Begins requests bytes (record { awaited = binding; left = list; outer = after ∷ outer }) → Begins requests bytes (record { awaited = pdu_end; left = after; outer = outer })
bindings_pass requests bytes list after outer [] are before = goes_on _ _ before (inl (after, outer, are, refl, refl))
bindings_pass requests bytes list after outer (b ∷ more) are before =
    let opened = goes_on _ (record { awaited = binding_name; left = are.0; outer = are.1 ∷ after ∷ outer }) before (inr (are.0, are.1, are.2, refl)) in
    let named = goes_on _ (record { awaited = binding_value; left = are.3.0; outer = are.1 ∷ after ∷ outer }) opened (b.name, are.3.0, are.3.1, refl) in
    let valued = goes_on _ (record { awaited = binding_end; left = []; outer = are.1 ∷ after ∷ outer }) named (b.value, [], are.3.2, refl) in
    let ended = goes_on _ (record { awaited = binding; left = are.1; outer = after ∷ outer }) valued (are.1, after ∷ outer, refl, refl, refl) in
    bindings_pass requests bytes are.1 after outer more are.4 ended

-- a message that is read is passed to the end of the octets
pub spells_to_end : (requests : Bool) (bytes : List ℕ) (m : Message) → Spells bytes m → is_read requests m.kind ≡ true → Begins requests bytes at_end
spells_to_end requests bytes m h read =
    let p = h.is_pdu in
    let opened = goes_on _ (record { awaited = version; left = h.content; outer = [] ∷ [] }) begins (h.content, [], h.opens, refl) in
    let after_version = goes_on _ (record { awaited = community; left = h.after_version; outer = [] ∷ [] }) opened (h.after_version, h.version, refl) in
    let after_community = goes_on _ (record { awaited = pdu; left = h.after_community; outer = [] ∷ [] }) after_version (m.community, h.after_community, h.community, refl) in
    let in_pdu = goes_on _ (record { awaited = request_id; left = h.pdu; outer = [] ∷ [] ∷ [] }) after_community (m.kind, h.pdu, [], read, h.opens_pdu, refl) in
    let after_id = goes_on _ (record { awaited = first_number; left = p.after_id; outer = [] ∷ [] ∷ [] }) in_pdu (m.id, p.after_id, p.id, refl) in
    let after_first = goes_on _ (record { awaited = second_number; left = p.after_first; outer = [] ∷ [] ∷ [] }) after_id (m.first, p.after_first, p.first, refl) in
    let after_second = goes_on _ (record { awaited = bindings; left = p.after_second; outer = [] ∷ [] ∷ [] }) after_first (m.second, p.after_second, p.second, refl) in
    let in_list = goes_on _ (record { awaited = binding; left = p.list; outer = [] ∷ [] ∷ [] ∷ [] }) after_second (p.list, [], p.opens, refl) in
    let after_list = bindings_pass requests bytes p.list [] ([] ∷ [] ∷ []) m.bindings p.bindings in_list in
    let after_pdu = goes_on _ (record { awaited = message_end; left = []; outer = [] ∷ [] }) after_list ([], [] ∷ [], refl, refl, refl) in
    goes_on _ (record { awaited = datagram_end; left = []; outer = [] }) after_pdu ([], [], refl, refl, refl)

end_last : (requests : Bool) → IsLast requests at_end
end_last requests to leads = leads

-- a point at which a version other than 1 stands leads nowhere
version_last : OneValue → (requests : Bool) (z : ℤ) (left rest : List ℕ) (outer : List (List ℕ)) → ValueFirst (int z) rest left → (z ≡ pos 1 → ⊥)
    → IsLast requests (record { awaited = version; left = left; outer = outer })
version_last value requests z left rest outer first other to leads = other (one_int value z (pos 1) rest leads.0 left first leads.1).0

tag_first : (tag : ℕ) (content rest more : List ℕ) (octet : ℕ) → StandsFirst tag content rest (octet ∷ more) → octet ≡ tag
tag_first tag content rest more octet first =
    let e : octet ∷ more ≡ (tag ∷ (first.is_element.count ++ content)) ++ rest = subst (λ (x : List ℕ). octet ∷ more ≡ x ++ rest) first.is_element.is first.is in cc

not_request_tag : (kind : Kind) → is_request kind ≡ true → IsOtherTag (kind_tag kind) → ⊥
not_request_tag Get request other = elim other [ inl e ↦ omega (arith, e) | inr f ↦ elim f [ inl e ↦ omega (arith, e) | inr g ↦ elim g [ inl e ↦ omega (arith, e) | inr e ↦ omega (arith, e) ] ] ]
not_request_tag Next request other = elim other [ inl e ↦ omega (arith, e) | inr f ↦ elim f [ inl e ↦ omega (arith, e) | inr g ↦ elim g [ inl e ↦ omega (arith, e) | inr e ↦ omega (arith, e) ] ] ]
not_request_tag Set request other = elim other [ inl e ↦ omega (arith, e) | inr f ↦ elim f [ inl e ↦ omega (arith, e) | inr g ↦ elim g [ inl e ↦ omega (arith, e) | inr e ↦ omega (arith, e) ] ] ]
not_request_tag Bulk request other = elim other [ inl e ↦ omega (arith, e) | inr f ↦ elim f [ inl e ↦ omega (arith, e) | inr g ↦ elim g [ inl e ↦ omega (arith, e) | inr e ↦ omega (arith, e) ] ] ]
not_request_tag Response request other = absurd cc
not_request_tag Inform request other = absurd cc
not_request_tag Trap request other = absurd cc
not_request_tag Report request other = absurd cc

-- a point at which another PDU's tag stands where a request is awaited leads nowhere
other_last : (tag : ℕ) (more : List ℕ) (outer : List (List ℕ)) → IsOtherTag tag → IsLast true (record { awaited = pdu; left = tag ∷ more; outer = outer })
other_last tag more outer other to leads =
    not_request_tag leads.0 leads.3 (subst IsOtherTag (tag_first (kind_tag leads.0) leads.1 leads.2 more tag leads.4) other)

awaited_of : Point → Awaited
awaited_of point = point.awaited

left_of : Point → List ℕ
left_of point = point.left

is_version : Awaited → Bool
is_version version = true
is_version a = false

is_pdu_awaited : Awaited → Bool
is_pdu_awaited pdu = true
is_pdu_awaited a = false

first_octet : List ℕ → ℕ
first_octet [] = 0
first_octet (octet ∷ more) = octet

-- nothing stands at the point of a fault, a version or a tag neither
not_both : OneElement → OneValue → (requests : Bool) (bytes : List ℕ) (at : ℕ) (z : ℤ) → IsMalformed requests bytes at → HasVersion requests bytes z → ⊥
unfolding awaited_of left_of
not_both element value requests bytes at z h k =
    let same = last_once element value requests bytes h.point _ h.begins k.begins h.stuck.nothing (version_last value requests z k.left k.rest k.outer k.version k.other) in
    h.stuck.no_version (ap awaited_of same) z k.rest (subst (λ (x : List ℕ). ValueFirst (int z) k.rest x) (sym (ap left_of same)) k.version)

not_other : OneElement → OneValue → (requests : Bool) (bytes : List ℕ) (at tag : ℕ) → IsMalformed requests bytes at → requests ≡ true → HasOtherPdu bytes tag → ⊥
unfolding awaited_of left_of
not_other element value true bytes at tag h is k =
    let same = last_once element value true bytes h.point _ h.begins k.begins h.stuck.nothing (other_last tag k.more k.outer k.other) in
    h.stuck.no_other is (ap awaited_of same) tag k.more (ap left_of same) k.other
not_other element value false bytes at tag h is k = absurd cc

-- nor is there a message
not_malformed : OneElement → OneValue → (requests : Bool) (bytes : List ℕ) (at : ℕ) (m : Message) → IsMalformed requests bytes at → Spells bytes m → is_read requests m.kind ≡ true → ⊥
unfolding awaited_of left_of
not_malformed element value requests bytes at m h spells read =
    let same = last_once element value requests bytes h.point at_end h.begins (spells_to_end requests bytes m spells read) h.stuck.nothing (end_last requests) in
    h.stuck.not_end (ap awaited_of same) (ap left_of same)

not_version : OneElement → OneValue → (requests : Bool) (bytes : List ℕ) (z : ℤ) (m : Message) → HasVersion requests bytes z → Spells bytes m → is_read requests m.kind ≡ true → ⊥
unfolding awaited_of is_version
not_version element value requests bytes z m h spells read =
    let same = last_once element value requests bytes _ at_end h.begins (spells_to_end requests bytes m spells read) (version_last value requests z h.left h.rest h.outer h.version h.other) (end_last requests) in
    let e : true ≡ false = ap (λ (p : Point). is_version (awaited_of p)) same in cc

not_pdu : OneElement → OneValue → (requests : Bool) (bytes : List ℕ) (tag : ℕ) (m : Message) → requests ≡ true → HasOtherPdu bytes tag → Spells bytes m → is_read requests m.kind ≡ true → ⊥
unfolding awaited_of is_pdu_awaited
not_pdu element value true bytes tag m is h spells read =
    let same = last_once element value true bytes _ at_end h.begins (spells_to_end true bytes m spells read) (other_last tag h.more h.outer h.other) (end_last true) in
    let e : true ≡ false = ap (λ (p : Point). is_pdu_awaited (awaited_of p)) same in cc
not_pdu element value false bytes tag m is h spells read = absurd cc

-- the tag of another PDU isn't awaited where another version stands
not_version_and_pdu : OneElement → OneValue → (requests : Bool) (bytes : List ℕ) (z : ℤ) (tag : ℕ) → HasVersion requests bytes z → requests ≡ true → HasOtherPdu bytes tag → ⊥
unfolding awaited_of is_version
not_version_and_pdu element value true bytes z tag h is k =
    let same = last_once element value true bytes _ _ h.begins k.begins (version_last value true z h.left h.rest h.outer h.version h.other) (other_last tag k.more k.outer k.other) in
    let e : true ≡ false = ap (λ (p : Point). is_version (awaited_of p)) same in cc
not_version_and_pdu element value false bytes z tag h is k = absurd cc

-- octets are one thing
pub parse_once : OneElement → OneValue → (requests : Bool) (bytes : List ℕ) (v w : Parse) → IsParse requests bytes v → IsParse requests bytes w → v ≡ w
unfolding left_of first_octet
parse_once element value requests bytes too_long too_long h k = refl
parse_once element value requests bytes too_long (malformed at) h k = absurd (omega (arith, h, k.0))
parse_once element value requests bytes too_long (other_version z) h k = absurd (omega (arith, h, k.0))
parse_once element value requests bytes too_long (not_request tag) h k = absurd (omega (arith, h, k.0))
parse_once element value requests bytes too_long (message m) h k = absurd (omega (arith, h, k.0))
parse_once element value requests bytes (malformed at) too_long h k = absurd (omega (arith, k, h.0))
parse_once element value requests bytes (malformed at) (malformed other) h k =
    let same = last_once element value requests bytes h.1.point k.1.point h.1.begins k.1.begins h.1.stuck.nothing k.1.stuck.nothing in
    ap malformed (omega (arith, h.1.offset, k.1.offset, ap octets_left same))
parse_once element value requests bytes (malformed at) (other_version z) h k = absurd (not_both element value requests bytes at z h.1 k.1)
parse_once element value requests bytes (malformed at) (not_request tag) h k = absurd (not_other element value requests bytes at tag h.1 k.1 k.2)
parse_once element value requests bytes (malformed at) (message m) h k = absurd (not_malformed element value requests bytes at m h.1 k.1 k.2)
parse_once element value requests bytes (other_version z) too_long h k = absurd (omega (arith, k, h.0))
parse_once element value requests bytes (other_version z) (malformed at) h k = absurd (not_both element value requests bytes at z k.1 h.1)
parse_once element value requests bytes (other_version z) (other_version y) h k =
    let same = last_once element value requests bytes _ _ h.1.begins k.1.begins (version_last value requests z h.1.left h.1.rest h.1.outer h.1.version h.1.other)
    (version_last value requests y k.1.left k.1.rest k.1.outer k.1.version k.1.other) in
    ap other_version (one_int value z y h.1.rest k.1.rest k.1.left (subst (λ (x : List ℕ). ValueFirst (int z) h.1.rest x) (ap left_of same) h.1.version) k.1.version).0
parse_once element value requests bytes (other_version z) (not_request tag) h k = absurd (not_version_and_pdu element value requests bytes z tag h.1 k.1 k.2)
parse_once element value requests bytes (other_version z) (message m) h k = absurd (not_version element value requests bytes z m h.1 k.1 k.2)
parse_once element value requests bytes (not_request tag) too_long h k = absurd (omega (arith, k, h.0))
parse_once element value requests bytes (not_request tag) (malformed at) h k = absurd (not_other element value requests bytes at tag k.1 h.1 h.2)
parse_once element value requests bytes (not_request tag) (other_version z) h k = absurd (not_version_and_pdu element value requests bytes z tag k.1 h.1 h.2)
parse_once element value requests bytes (not_request tag) (not_request other) h k =
    let same = last_once element value true bytes _ _ h.2.begins k.2.begins (other_last tag h.2.more h.2.outer h.2.other) (other_last other k.2.more k.2.outer k.2.other) in
    ap not_request (ap (λ (p : Point). first_octet (left_of p)) same)
parse_once element value requests bytes (not_request tag) (message m) h k = absurd (not_pdu element value requests bytes tag m h.1 h.2 k.1 k.2)
parse_once element value requests bytes (message m) too_long h k = absurd (omega (arith, k, h.0))
parse_once element value requests bytes (message m) (malformed at) h k = absurd (not_malformed element value requests bytes at m k.1 h.1 h.2)
parse_once element value requests bytes (message m) (other_version z) h k = absurd (not_version element value requests bytes z m k.1 h.1 h.2)
parse_once element value requests bytes (message m) (not_request tag) h k = absurd (not_pdu element value requests bytes tag m k.1 k.2 h.1 h.2)
parse_once element value requests bytes (message m) (message n) h k = ap message (message_once element value bytes m n h.1 k.1)
