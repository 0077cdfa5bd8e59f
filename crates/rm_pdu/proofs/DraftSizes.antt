-- How many octets a message takes.
use Rattle.std.proofs.Common.{◌≡◌, ℕ, zero, suc, ◌+◌, ◌≤◌, ℤ, pos, negsuc, List, [], ◌∷◌, ◌++◌, length, take, drop, flat_map, refl, sym, ap, ◌∙◌, append_assoc, length-append, arith}
use Rattle.std.proofs.lemmas.Bool.Decides.{nat_tests}
use Rattle.std.proofs.lemmas.Grind.{flat_map-append}
use Rattle.std.proofs.lemmas.List.{append-nil}
use Rattle.std.proofs.lemmas.Slice.{drop-append-drop}
use Rattle.std.proofs.Math.Seq.{take-append_seam}
use Rattle.std.specs.Int.{bytes_high_first}
use Rattle.rm_val.specs.Val.{Val, int, octets, name}
use Rattle.rm_ber.specs.Element.{length_octets, element, number_size, integer_size, integer_octets, value_element}
use Rattle.rm_pdu.specs.Message.{kind_tag, Message, binding_octets, message_octets}
use Rattle.rm_pdu.specs.Draft.{Drafted, drafted, binding_of, and_binding, retold}
use Rattle.rm_pdu.specs.DraftParts.{header, header_size, element_size, pdu_size, content_size, message_size, front_octets}

-- an element's octets are counted by those of its content
pub length-element : (tag : ℕ) (content : List ℕ) → length (element tag content) ≡ element_size (length content)
unfolding element header_size
length-element tag content = let e = length-append (length_octets (length content)) content in grind (arith, e)

pub number_short : (n : ℕ) → number_size n ≤ 9
number_short n = grind (arith, nat_tests)

size_short : (z : ℤ) → integer_size z ≤ 9
size_short (pos n) = number_short n
size_short (negsuc n) = number_short n

pub length-bytes : (n x : ℕ) → length (bytes_high_first n x) ≡ n
length-bytes zero x = refl
length-bytes (suc n) x = let before = length-bytes n x in grind (arith, before)

short_size : (n : ℕ) → n ≤ 127 → element_size n ≤ n + 2
unfolding header_size
short_size n h = grind (arith, nat_tests)

-- the element of a number
pub length-integer : (z : ℤ) → length (value_element (int z)) ≡ element_size (integer_size z)
unfolding integer_octets
length-integer z = length-element 0x02 (integer_octets z) ∙ ap element_size (length-bytes (integer_size z) _)

pub integer_short : (z : ℤ) → length (value_element (int z)) ≤ 11
unfolding integer_octets
integer_short z =
    let few = size_short z in
    let count : length (integer_octets z) ≡ integer_size z = length-bytes (integer_size z) _ in
    let s = short_size (length (integer_octets z)) (omega arith) in
    rw (length-element 0x02 (integer_octets z)) (omega arith)

pub octets_short : (bytes : List ℕ) → length bytes ≤ 127 → length (value_element (octets bytes)) ≤ 129
octets_short bytes few = let s = short_size (length bytes) few in rw (length-element 0x04 bytes) (omega arith)

-- how much more an element takes than its content
pub header_short : (n : ℕ) → element_size n ≤ n + 6
unfolding header_size
header_short n = grind (arith, nat_tests)

-- a message with no bindings is short
pub new_short : (d : Drafted) → length d.community ≤ 127 → length d.list ≡ 0 → message_size d (length d.list) ≤ 1472
new_short d few none =
    let a = integer_short d.id in
    let b = integer_short d.first in
    let c = integer_short d.second in
    let v = integer_short (pos 1) in
    let t = octets_short d.community few in
    let list = header_short (length d.list) in
    let pdu = header_short (pdu_size d (length d.list)) in
    let content = header_short (content_size d (length d.list)) in
    omega arith

abbrev pdu_content : Message → List ℕ → List ℕ
pdu_content m list = value_element (int m.id) ++ value_element (int m.first) ++ value_element (int m.second) ++ element 0x30 list

abbrev content : Message → List ℕ → List ℕ
content m list = value_element (int (pos 1)) ++ value_element (octets m.community) ++ element (kind_tag m.kind) (pdu_content m list)

length-four : (a b c d : List ℕ) → length (a ++ b ++ c ++ d) ≡ length a + length b + length c + length d
length-four a b c d = grind (arith, length-append)

length-three : (a b c : List ℕ) → length (a ++ b ++ c) ≡ length a + length b + length c
length-three a b c = grind (arith, length-append)

length-pdu : (m : Message) (list : List ℕ) → length (pdu_content m list) ≡ pdu_size (drafted m) (length list)
unfolding drafted
length-pdu m list =
    length-four (value_element (int m.id)) (value_element (int m.first)) (value_element (int m.second)) (element 0x30 list)
    ∙ ap (λ (n : ℕ). length (value_element (int m.id)) + length (value_element (int m.first)) + length (value_element (int m.second)) + n) (length-element 0x30 list)

length-content : (m : Message) (list : List ℕ) → length (content m list) ≡ content_size (drafted m) (length list)
unfolding drafted
length-content m list =
    length-three (value_element (int (pos 1))) (value_element (octets m.community)) (element (kind_tag m.kind) (pdu_content m list))
    ∙ ap (λ (n : ℕ). length (value_element (int (pos 1))) + length (value_element (octets m.community)) + n)
    (length-element (kind_tag m.kind) (pdu_content m list) ∙ ap element_size (length-pdu m list))

-- a message takes as many octets as its size says
pub length-message : (m : Message) → length (message_octets m) ≡ message_size (drafted m) (length (flat_map binding_octets m.bindings))
unfolding message_octets
length-message m =
    length-element 0x30 (content m (flat_map binding_octets m.bindings)) ∙ ap element_size (length-content m (flat_map binding_octets m.bindings))

element_is : (tag n : ℕ) (content : List ℕ) → length content ≡ n → element tag content ≡ header tag n ++ content
unfolding element header
element_is tag n content e = ap (λ (k : ℕ). tag ∷ length_octets k ++ content) e

-- a binding takes as many octets as its size says
pub binding_size : (numbers : List ℕ) (v : Val)
    → length (binding_octets (binding_of numbers v)) ≡ element_size (length (value_element (name numbers)) + length (value_element v))
binding_size numbers v =
    length-element 0x30 (value_element (name numbers) ++ value_element v) ∙ ap element_size (length-append (value_element (name numbers)) (value_element v))

parted : (a b c d : List ℕ) → a ++ b ++ c ++ d ≡ a ++ (b ++ (c ++ d))
parted a b c d = simp append_assoc refl

-- the header of a binding, its name and its value are its octets
pub binding_written : (list new numbers : List ℕ) (v : Val) (content : ℕ) → content ≡ length (value_element (name numbers)) + length (value_element v)
    → new ≡ list ++ header 0x30 content ++ value_element (name numbers) ++ value_element v → new ≡ list ++ binding_octets (binding_of numbers v)
binding_written list new numbers v content size is =
    let inside = value_element (name numbers) ++ value_element v in
    let opens = element_is 0x30 content inside (length-append (value_element (name numbers)) (value_element v) ∙ sym size) in
    is ∙ parted list (header 0x30 content) (value_element (name numbers)) (value_element v) ∙ ap (λ (x : List ℕ). list ++ x) (sym opens)

joined : (a b c d e f g h list : List ℕ) → a ++ b ++ c ++ d ++ e ++ f ++ g ++ h ++ list ≡ a ++ (b ++ c ++ (d ++ (e ++ f ++ g ++ (h ++ list))))
joined a b c d e f g h list = simp append_assoc refl

-- the octets of the bindings and those before them are the message
pub whole : (m : Message) → front_octets (drafted m) ++ (drafted m).list ≡ message_octets m
unfolding message_octets front_octets drafted
whole m =
    let list = flat_map binding_octets m.bindings in
    let version = value_element (int (pos 1)) in
    let community = value_element (octets m.community) in
    let id = value_element (int m.id) in
    let first = value_element (int m.first) in
    let second = value_element (int m.second) in
    let size = content_size (drafted m) (length list) in
    let inside = pdu_size (drafted m) (length list) in
    let opens = element_is 0x30 size (content m list) (length-content m list) in
    let pdu = element_is (kind_tag m.kind) inside (pdu_content m list) (length-pdu m list) in
    let bindings = element_is 0x30 (length list) list refl in
    joined (header 0x30 size) version community (header (kind_tag m.kind) inside) id first second (header 0x30 (length list)) list
    ∙ sym (opens ∙ ap (λ (x : List ℕ). header 0x30 size ++ (version ++ community ++ x))
    (pdu ∙ ap (λ (x : List ℕ). header (kind_tag m.kind) inside ++ (id ++ first ++ second ++ x)) bindings))

-- the bindings of a message have no more octets than it
pub longer : (d : Drafted) (list : ℕ) → list ≤ message_size d list
longer d list = omega arith

-- the octets of one more binding come behind the others
drafted-and-list : (m : Message) (numbers : List ℕ) (v : Val)
    → flat_map binding_octets (and_binding m numbers v).bindings ≡ (drafted m).list ++ binding_octets (binding_of numbers v)
unfolding drafted
drafted-and-list m numbers v =
    flat_map-append binding_octets m.bindings (binding_of numbers v ∷ [])
    ∙ ap (λ (x : List ℕ). flat_map binding_octets m.bindings ++ x) (append-nil (binding_octets (binding_of numbers v)))

-- a draft with them is the draft with that binding
pub added : (d : Drafted) (list : List ℕ) (m : Message) (numbers : List ℕ) (v : Val) → d ≡ drafted m → list ≡ d.list ++ binding_octets (binding_of numbers v)
    → record d { list = list } ≡ drafted (and_binding m numbers v)
unfolding drafted
added d list m numbers v is more =
    ap (λ (x : List ℕ). record d { list = x }) more
    ∙ ap (λ (x : Drafted). record x { list = x.list ++ binding_octets (binding_of numbers v) }) is
    ∙ ap (λ (x : List ℕ). record (drafted m) { list = x }) (sym (drafted-and-list m numbers v))

-- and how many octets its message takes
pub length-and : (d : Drafted) (m : Message) (numbers : List ℕ) (v : Val) → d ≡ drafted m
    → length (message_octets (and_binding m numbers v)) ≡ message_size d (length d.list + length (binding_octets (binding_of numbers v)))
unfolding drafted
length-and d m numbers v is =
    let bytes = ap length (drafted-and-list m numbers v) ∙ length-append (drafted m).list (binding_octets (binding_of numbers v)) in
    length-message (and_binding m numbers v) ∙ ap (message_size (drafted m)) bytes
    ∙ ap (λ (x : Drafted). message_size x (length x.list + length (binding_octets (binding_of numbers v)))) (sym is)

-- a draft with another error-status and error-index is the draft of the message that tells them
pub told : (d : Drafted) (m : Message) (first second : ℤ) → d ≡ drafted m → record d { first = first; second = second } ≡ drafted (retold m first second)
unfolding drafted
told d m first second is = ap (λ (x : Drafted). record x { first = first; second = second }) is

-- and it has as many octets
pub told_short : (d : Drafted) (m : Message) (first second : ℤ) → d ≡ drafted m → length (message_octets (retold m first second)) ≤ 1472
    → message_size (record d { first = first; second = second }) (length d.list) ≤ 1472
unfolding drafted
told_short d m first second is short =
    let size = ap (λ (x : Drafted). message_size x (length x.list)) (told d m first second is) in
    let whole = length-message (retold m first second) in
    omega (arith, size, whole, short)

-- octets that are put in the place of others, and more behind them
pub placed : (front list old first last : List ℕ) (from to : ℕ) → first ≡ take 0 old ++ front ++ drop from old → from ≡ 0 + length front
    → last ≡ take from first ++ list ++ drop to first → to ≡ from + length list → last ≡ front ++ list ++ drop to old
placed front list old first last from to is size_is end to_is =
    let size : from ≡ length front = omega arith in
    let head : first ≡ front ++ drop from old = is in
    let start : take from first ≡ front = ap (take from) head ∙ ap (λ (n : ℕ). take n (front ++ drop from old)) size ∙ take-append_seam front (drop from old) in
    let rest : drop to first ≡ drop to old = ap (drop to) head ∙ drop-append-drop from old front to (omega arith) (sym size) in
    end ∙ (λ i. start i ++ list ++ rest i)
