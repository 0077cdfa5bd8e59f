-- How a reader goes from one point of a message to the next, or finds nothing there.
use Rattle.std.proofs.Common.{◌≡◌, ◌⊎◌, ◌+◌, ℕ, ℤ, pos, Bool, true, false, List, [], ◌∷◌, ◌++◌, length, Result, Ok, Err, refl, sym, ap, subst, ◌∙◌, inl, inr, arith}
use Rattle.std.specs.Prelude.{sum_by, MatchResult, IsErrAnd, IsOkAnd, slice_get, Some}
use Rattle.std.specs.Int.{w32}
use Rattle.std.proofs.lemmas.List.Sums.{sum_by-cons}
use Rattle.std.proofs.lemmas.Int.{to_z-of_z}
use Rattle.std.proofs.Common.{to_z, of_z}
use Rattle.rm_val.specs.Val.{Val, int, octets, name}
use Rattle.rm_ber.specs.Grammar.{StandsFirst, ValueFirst, Left, end_of}
use Rattle.rm_pdu.specs.declared.kind.Kind.{Kind}
use Rattle.rm_pdu.specs.declared.kind.Kind.TheVariants.{Get, Next, Response, Set, Bulk, Inform, Trap, Report}
use Rattle.rm_pdu.specs.Message.{kind_tag}
use Rattle.rm_pdu.specs.Parse.{Awaited, whole, version, community, pdu, request_id, first_number, second_number, bindings, binding, binding_name, binding_value, binding_end, pdu_end, message_end, datagram_end, Point, LeadsTo, Begins, begins, goes_on, is_read, is_request, IsStuck, IsMalformed, IsOtherTag}
use Rattle.rm_pdu.specs.Reading.{IsAt, Fails}
use Rattle.rm_pdu.specs.declared.message.Fault.{Fault}
use Rattle.rm_pdu.specs.declared.message.Fault.TheVariants.{Malformed}

-- an error that is passed on
pub errs : {T E : Type 0} (r : Result T E) (e : E) (P : T → Type 0) (Q : E → Type 0) → IsErrAnd r (λ f. f ≡ e) → Q e → MatchResult r P Q
errs (Ok x) e P Q is holds = absurd is
errs (Err f) e P Q is holds = subst Q (sym is) holds

-- a rule that is broken where a reader stands is passed on as that
pub breaks : {T : Type 0} {requests : Bool} {bytes : List ℕ} {place at : ℕ} (r : Result T Fault) (P : T → Type 0) → IsErrAnd r (λ f. f ≡ Malformed place) → place ≡ at
    → IsMalformed requests bytes at → MatchResult r P (Fails requests bytes)
breaks {requests = requests} {bytes = bytes} {place = place} r P is same broken = errs r (Malformed place) P (Fails requests bytes) is (rw same broken)

-- an element is passed
pub moves : (requests : Bool) (bytes : List ℕ) (from to : Awaited) (outer : List (List ℕ)) (old new : Left) → IsAt requests bytes from outer old
    → LeadsTo requests from old.left outer (record { awaited = to; left = new.left; outer = outer }) → end_of new ≡ end_of old → IsAt requests bytes to outer new
moves requests bytes from to outer old new at leads end = record { begins = goes_on _ _ at.begins leads; offset = omega (arith, at.offset, end) }

pub one_outer : (left : List ℕ) (outer : List (List ℕ)) → sum_by length (left ∷ outer) ≡ length left + sum_by length outer
one_outer left outer = sum_by-cons length left outer

-- a header is passed, and the content is inside
pub opens : (requests : Bool) (bytes : List ℕ) (from to : Awaited) (outer : List (List ℕ)) (old new inner : Left) → IsAt requests bytes from outer old
    → LeadsTo requests from old.left outer (record { awaited = to; left = inner.left; outer = new.left ∷ outer }) → end_of inner ≡ new.at → end_of new ≡ end_of old
    → IsAt requests bytes to (new.left ∷ outer) inner
opens requests bytes from to outer old new inner at leads inside end = record { begins = goes_on _ _ at.begins leads; offset = omega (arith, at.offset, inside, end, one_outer new.left outer) }

-- an element ends, and those outside it go on
pub closes : (requests : Bool) (bytes : List ℕ) (from to : Awaited) (outer : List (List ℕ)) (inner after : Left) → IsAt requests bytes from (after.left ∷ outer) inner
    → LeadsTo requests from inner.left (after.left ∷ outer) (record { awaited = to; left = after.left; outer = outer }) → inner.left ≡ [] → end_of inner ≡ after.at
    → IsAt requests bytes to outer after
closes requests bytes from to outer inner after at leads none end =
    record { begins = goes_on _ _ at.begins leads; offset = omega (arith, at.offset, end, ap length none, one_outer after.left outer) }

malformed_at : (requests : Bool) (bytes : List ℕ) (awaited : Awaited) (outer : List (List ℕ)) (reader : Left) → IsAt requests bytes awaited outer reader
    → IsStuck requests (record { awaited = awaited; left = reader.left; outer = outer }) → IsMalformed requests bytes reader.at
malformed_at requests bytes awaited outer reader at stuck =
    record { point = record { awaited = awaited; left = reader.left; outer = outer }; begins = at.begins; stuck = stuck; offset = at.offset }

-- which tests of a point another awaited fact leaves out
unfoldable pub is_plain : Awaited → Bool
is_plain version = false
is_plain pdu = false
is_plain datagram_end = false
is_plain a = true

not_plain : (awaited other : Awaited) → is_plain awaited ≡ true → is_plain other ≡ false → awaited ≡ other → ⊥
not_plain awaited other plain special same = let e : true ≡ false = sym plain ∙ ap is_plain same ∙ special in cc

pub stuck_plain : (requests : Bool) (awaited : Awaited) (left : List ℕ) (outer : List (List ℕ)) → is_plain awaited ≡ true
    → ((to : Point) → LeadsTo requests awaited left outer to → ⊥) → IsStuck requests (record { awaited = awaited; left = left; outer = outer })
unfolding is_plain
stuck_plain requests awaited left outer plain nothing = record {
  nothing = nothing;
  no_version = λ is z rest first. not_plain awaited version plain refl is;
  no_other = λ only is tag more e other. not_plain awaited pdu plain refl is;
  not_end = λ is none. not_plain awaited datagram_end plain refl is;
}

-- no sequence stands where a header is awaited
pub no_header : (requests : Bool) (bytes : List ℕ) (awaited : Awaited) (outer : List (List ℕ)) (reader : Left) → (awaited ≡ whole) ⊎ (awaited ≡ bindings)
    → IsAt requests bytes awaited outer reader → ((content rest : List ℕ) → StandsFirst 0x30 content rest reader.left → ⊥) → IsMalformed requests bytes reader.at
unfolding is_plain
no_header requests bytes whole outer reader is at none = malformed_at requests bytes whole outer reader at (stuck_plain requests whole reader.left outer refl (λ to leads. none leads.0 leads.1 leads.2))
no_header requests bytes bindings outer reader is at none = malformed_at requests bytes bindings outer reader at (stuck_plain requests bindings reader.left outer refl (λ to leads. none leads.0 leads.1 leads.2))
no_header requests bytes awaited outer reader is at none = absurd (elim is [ inl e ↦ cc | inr e ↦ cc ])

-- no number stands where one is awaited
pub no_number : (requests : Bool) (bytes : List ℕ) (awaited : Awaited) (outer : List (List ℕ)) (reader : Left) → (awaited ≡ request_id) ⊎ (awaited ≡ first_number) ⊎ (awaited ≡ second_number)
    → IsAt requests bytes awaited outer reader → ((z : ℤ) (rest : List ℕ) → ValueFirst (int z) rest reader.left → ⊥) → IsMalformed requests bytes reader.at
unfolding is_plain
no_number requests bytes request_id outer reader is at none = malformed_at requests bytes request_id outer reader at (stuck_plain requests request_id reader.left outer refl (λ to leads. none leads.0 leads.1 leads.2))
no_number requests bytes first_number outer reader is at none = malformed_at requests bytes first_number outer reader at (stuck_plain requests first_number reader.left outer refl (λ to leads. none leads.0 leads.1 leads.2))
no_number requests bytes second_number outer reader is at none = malformed_at requests bytes second_number outer reader at (stuck_plain requests second_number reader.left outer refl (λ to leads. none leads.0 leads.1 leads.2))
no_number requests bytes awaited outer reader is at none = absurd (elim is [ inl e ↦ cc | inr f ↦ elim f [ inl e ↦ cc | inr e ↦ cc ] ])

pub no_version : (requests : Bool) (bytes : List ℕ) (outer : List (List ℕ)) (reader : Left) → IsAt requests bytes version outer reader
    → ((z : ℤ) (rest : List ℕ) → ValueFirst (int z) rest reader.left → ⊥) → IsMalformed requests bytes reader.at
no_version requests bytes outer reader at none = malformed_at requests bytes version outer reader at (record {
  nothing = λ to leads. none (pos 1) leads.0 leads.1;
  no_version = λ is z rest first. none z rest first;
  no_other = λ only is. absurd cc;
  not_end = λ is. absurd cc;
})

pub no_community : (requests : Bool) (bytes : List ℕ) (outer : List (List ℕ)) (reader : Left) → IsAt requests bytes community outer reader
    → ((text rest : List ℕ) → ValueFirst (octets text) rest reader.left → ⊥) → IsMalformed requests bytes reader.at
unfolding is_plain
no_community requests bytes outer reader at none =
    malformed_at requests bytes community outer reader at (stuck_plain requests community reader.left outer refl (λ to leads. none leads.0 leads.1 leads.2))

pub no_name : (requests : Bool) (bytes : List ℕ) (outer : List (List ℕ)) (reader : Left) → IsAt requests bytes binding_name outer reader
    → ((numbers rest : List ℕ) → ValueFirst (name numbers) rest reader.left → ⊥) → IsMalformed requests bytes reader.at
unfolding is_plain
no_name requests bytes outer reader at none =
    malformed_at requests bytes binding_name outer reader at (stuck_plain requests binding_name reader.left outer refl (λ to leads. none leads.0 leads.1 leads.2))

pub no_value : (requests : Bool) (bytes : List ℕ) (outer : List (List ℕ)) (reader : Left) → IsAt requests bytes binding_value outer reader
    → ((v : Val) (rest : List ℕ) → ValueFirst v rest reader.left → ⊥) → IsMalformed requests bytes reader.at
unfolding is_plain
no_value requests bytes outer reader at none =
    malformed_at requests bytes binding_value outer reader at (stuck_plain requests binding_value reader.left outer refl (λ to leads. none leads.0 leads.1 leads.2))

-- octets are left in a list of bindings, and no binding is
pub no_binding : (requests : Bool) (bytes : List ℕ) (outer : List (List ℕ)) (reader : Left) → IsAt requests bytes binding outer reader → (reader.left ≡ [] → ⊥)
    → ((content rest : List ℕ) → StandsFirst 0x30 content rest reader.left → ⊥) → IsMalformed requests bytes reader.at
unfolding is_plain
no_binding requests bytes outer reader at some none =
    malformed_at requests bytes binding outer reader at (stuck_plain requests binding reader.left outer refl (λ to leads. elim leads [
      | inl end ↦ some end.2
      | inr more ↦ none more.0 more.1 more.2
    ]))

-- octets are left where an element must end
pub not_ended : (requests : Bool) (bytes : List ℕ) (awaited : Awaited) (outer : List (List ℕ)) (reader : Left)
    → (awaited ≡ binding_end) ⊎ (awaited ≡ pdu_end) ⊎ (awaited ≡ message_end) → IsAt requests bytes awaited outer reader → (reader.left ≡ [] → ⊥) → IsMalformed requests bytes reader.at
unfolding is_plain
not_ended requests bytes binding_end outer reader is at some = malformed_at requests bytes binding_end outer reader at (stuck_plain requests binding_end reader.left outer refl (λ to leads. some leads.2))
not_ended requests bytes pdu_end outer reader is at some = malformed_at requests bytes pdu_end outer reader at (stuck_plain requests pdu_end reader.left outer refl (λ to leads. some leads.2))
not_ended requests bytes message_end outer reader is at some = malformed_at requests bytes message_end outer reader at (stuck_plain requests message_end reader.left outer refl (λ to leads. some leads.2))
not_ended requests bytes awaited outer reader is at some = absurd (elim is [ inl e ↦ cc | inr f ↦ elim f [ inl e ↦ cc | inr e ↦ cc ] ])

pub not_all : (requests : Bool) (bytes : List ℕ) (reader : Left) → IsAt requests bytes datagram_end [] reader → (reader.left ≡ [] → ⊥) → IsMalformed requests bytes reader.at
not_all requests bytes reader at some = malformed_at requests bytes datagram_end [] reader at (record {
  nothing = λ to leads. leads;
  no_version = λ is. absurd cc;
  no_other = λ only is. absurd cc;
  not_end = λ is none. some none;
})

-- the PDU isn't one that is read
pub no_pdu : (requests : Bool) (bytes : List ℕ) (outer : List (List ℕ)) (reader : Left) → IsAt requests bytes pdu outer reader
    → ((kind : Kind) (content rest : List ℕ) → is_read requests kind ≡ true → StandsFirst (kind_tag kind) content rest reader.left → ⊥)
    → (requests ≡ true → (tag : ℕ) (more : List ℕ) → reader.left ≡ tag ∷ more → IsOtherTag tag → ⊥) → IsMalformed requests bytes reader.at
no_pdu requests bytes outer reader at none other = malformed_at requests bytes pdu outer reader at (record {
  nothing = λ to leads. none leads.0 leads.1 leads.2 leads.3 leads.4;
  no_version = λ is. absurd cc;
  no_other = λ only is tag more e tags. other only tag more e tags;
  not_end = λ is. absurd cc;
})

-- an answer isn't both
pub not_ok : {T E : Type 0} (r : Result T E) (e : E) (P : T → Type 0) → r ≡ Err e → IsOkAnd r P → ⊥
not_ok (Ok x) e P is ok = absurd cc
not_ok (Err d) e P is ok = ok

pub not_both : {T E : Type 0} (r : Result T E) (e : E) (x : T) → r ≡ Err e → r ≡ Ok x → ⊥
not_both r e x is ok = let no : Err e ≡ Ok x = sym is ∙ ok in cc

-- an element begins with its tag
pub tag_then : (tag : ℕ) (content rest left : List ℕ) → StandsFirst tag content rest left → (more : List ℕ) × (left ≡ tag ∷ more)
tag_then tag content rest left first =
    ((first.is_element.count ++ content) ++ rest, first.is ∙ ap (λ (x : List ℕ). x ++ rest) first.is_element.is)

pub other_tag : (kind : Kind) → is_request kind ≡ false → IsOtherTag (kind_tag kind)
other_tag Response is = inl refl
other_tag Inform is = inr (inl refl)
other_tag Trap is = inr (inr (inl refl))
other_tag Report is = inr (inr (inr refl))
other_tag Get is = absurd cc
other_tag Next is = absurd cc
other_tag Set is = absurd cc
other_tag Bulk is = absurd cc

-- the kind of PDU of one of these tags
pub kind_of_other : (tag : ℕ) → IsOtherTag tag → (kind : Kind) × (tag ≡ kind_tag kind) × (is_request kind ≡ false)
kind_of_other tag other = elim other [
  | inl e ↦ (Response, e, refl)
  | inr f ↦ elim f [
    | inl e ↦ (Inform, e, refl)
    | inr g ↦ elim g [
      | inl e ↦ (Trap, e, refl)
      | inr e ↦ (Report, e, refl)
    ]
  ]
]

pub first_then : (left : List ℕ) (tag : ℕ) → slice_get left 0 ≡ Some tag → (more : List ℕ) × (left ≡ tag ∷ more)
first_then [] tag is = absurd cc
first_then (octet ∷ more) tag is = (more, let e : octet ≡ tag = cc in ap (λ (x : ℕ). x ∷ more) e)

-- a number that was read, kept in a struct
pub same_number : (kept z : ℤ) (rest left : List ℕ) → kept ≡ to_z w32 (of_z w32 z) → ValueFirst (int z) rest left → ValueFirst (int kept) rest left
same_number kept z rest left is first = subst (λ (x : ℤ). ValueFirst (int x) rest left) (sym (is ∙ to_z-of_z w32 z first.is_value.1.fits)) first

-- PDUs of the kind aren't read
pub not_read : (requests : Bool) (kind : Kind) → is_read requests kind ≡ false → (requests ≡ true) × (is_request kind ≡ false)
not_read true kind is = (refl, is)
not_read false kind is = absurd cc

-- a reader of all octets stands at the beginning of a message
pub begin_at : (requests : Bool) (bytes : List ℕ) (reader : Left) → reader.at ≡ 0 → reader.left ≡ bytes → IsAt requests bytes whole [] reader
begin_at requests bytes reader first all = record {
  begins = subst (λ (x : List ℕ). Begins requests bytes (record { awaited = whole; left = x; outer = [] })) (sym all) begins;
  offset = omega (arith, first, ap length all);
}

-- the content of a message is inside it
pub in_message : (requests : Bool) (bytes : List ℕ) (datagram after content : Left) → datagram.at ≡ 0 → datagram.left ≡ bytes
    → StandsFirst 0x30 content.left after.left datagram.left → end_of content ≡ after.at → end_of after ≡ end_of datagram → IsAt requests bytes version (after.left ∷ []) content
in_message requests bytes datagram after content first all found inside end =
    opens requests bytes whole version [] datagram after content (begin_at requests bytes datagram first all) (content.left, after.left, found, refl) inside end

-- a number that was read fits where it is kept
pub kept_number : (z : ℤ) (rest left : List ℕ) → ValueFirst (int z) rest left → to_z w32 (of_z w32 z) ≡ z
kept_number z rest left first = to_z-of_z w32 z first.is_value.1.fits
