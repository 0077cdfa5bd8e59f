-- The octets of a message from a point on.
use Rattle.std.proofs.Common.{◌≡◌, ◌+◌, ℕ, Bool, List, [], ◌∷◌, ◌++◌, length, drop, refl, sym, ap, subst, ◌∙◌, inl, inr, arith, append_assoc}
use Rattle.std.specs.Prelude.{sum_by}
use Rattle.std.proofs.lemmas.List.{append-nil, length-append}
use Rattle.std.proofs.Math.Seq.{drop-append_seam}
use Rattle.std.proofs.lemmas.List.Sums.{sum_by-cons}
use Rattle.rm_val.specs.Val.{Val}
use Rattle.rm_ber.specs.Grammar.{StandsFirst, ValueFirst, Left}
use Rattle.rm_pdu.specs.Parse.{Awaited, whole, version, community, pdu, request_id, first_number, second_number, bindings, binding, binding_name, binding_value, binding_end, pdu_end, message_end, datagram_end, Point, LeadsTo, Begins, begins, goes_on}
use Rattle.rm_pdu.specs.Reading.{IsAt}

flat : List (List ℕ) → List ℕ
flat [] = []
flat (left ∷ more) = left ++ flat more

length-flat : (outer : List (List ℕ)) → length (flat outer) ≡ sum_by length outer
unfolding flat
length-flat [] = refl
length-flat (left ∷ more) = length-append left (flat more) ∙ ap (λ (n : ℕ). length left + n) (length-flat more) ∙ sym (sum_by-cons length left more)

-- what is left at a point, and behind it
from_point : Point → List ℕ
from_point point = point.left ++ flat point.outer

value_piece : (v : Val) (left rest : List ℕ) (outer : List (List ℕ)) → ValueFirst v rest left → (piece : List ℕ) × (left ++ flat outer ≡ piece ++ (rest ++ flat outer))
value_piece v left rest outer first =
    (first.stands.element, ap (λ (x : List ℕ). x ++ flat outer) first.stands.is ∙ append_assoc first.stands.element rest (flat outer))

header_piece : (tag : ℕ) (left content rest : List ℕ) (outer : List (List ℕ)) → StandsFirst tag content rest left
    → (piece : List ℕ) × (left ++ flat outer ≡ piece ++ (content ++ flat (rest ∷ outer)))
unfolding flat
header_piece tag left content rest outer first =
    let header : List ℕ = tag ∷ first.is_element.count in
    let whole_element : first.element ≡ header ++ content = first.is_element.is in (
      header,
      ap (λ (x : List ℕ). x ++ flat outer) first.is ∙ append_assoc first.element rest (flat outer)
          ∙ ap (λ (x : List ℕ). x ++ (rest ++ flat outer)) whole_element ∙ append_assoc header content (rest ++ flat outer),
    )

end_piece : (left after : List ℕ) (outer more : List (List ℕ)) → left ≡ [] → outer ≡ after ∷ more → (piece : List ℕ) × (left ++ flat outer ≡ piece ++ (after ++ flat more))
unfolding flat
end_piece left after outer more none is = ([], ap (λ (x : List ℕ). x ++ flat outer) none ∙ ap flat is)

piece_to : (a : List ℕ) (to from : Point) → to ≡ from → (piece : List ℕ) × (a ≡ piece ++ from_point from) → (piece : List ℕ) × (a ≡ piece ++ from_point to)
piece_to a to from is p = (p.0, p.1 ∙ ap (λ (q : Point). p.0 ++ from_point q) (sym is))

leads_piece : (requests : Bool) (awaited : Awaited) (left : List ℕ) (outer : List (List ℕ)) (to : Point) → LeadsTo requests awaited left outer to
    → (piece : List ℕ) × (left ++ flat outer ≡ piece ++ from_point to)
unfolding from_point
leads_piece requests whole left outer to h = piece_to _ to _ h.3 (header_piece 0x30 left h.0 h.1 outer h.2)
leads_piece requests version left outer to h = piece_to _ to _ h.2 (value_piece _ left h.0 outer h.1)
leads_piece requests community left outer to h = piece_to _ to _ h.3 (value_piece _ left h.1 outer h.2)
leads_piece requests pdu left outer to h = piece_to _ to _ h.5 (header_piece _ left h.1 h.2 outer h.4)
leads_piece requests request_id left outer to h = piece_to _ to _ h.3 (value_piece _ left h.1 outer h.2)
leads_piece requests first_number left outer to h = piece_to _ to _ h.3 (value_piece _ left h.1 outer h.2)
leads_piece requests second_number left outer to h = piece_to _ to _ h.3 (value_piece _ left h.1 outer h.2)
leads_piece requests bindings left outer to h = piece_to _ to _ h.3 (header_piece 0x30 left h.0 h.1 outer h.2)
leads_piece requests binding left outer to (inl h) = piece_to _ to _ h.4 (end_piece left h.0 outer h.1 h.2 h.3)
leads_piece requests binding left outer to (inr h) = piece_to _ to _ h.3 (header_piece 0x30 left h.0 h.1 outer h.2)
leads_piece requests binding_name left outer to h = piece_to _ to _ h.3 (value_piece _ left h.1 outer h.2)
leads_piece requests binding_value left outer to h = piece_to _ to _ h.3 (value_piece _ left h.1 outer h.2)
leads_piece requests binding_end left outer to h = piece_to _ to _ h.4 (end_piece left h.0 outer h.1 h.2 h.3)
leads_piece requests pdu_end left outer to h = piece_to _ to _ h.4 (end_piece left h.0 outer h.1 h.2 h.3)
leads_piece requests message_end left outer to h = piece_to _ to _ h.4 (end_piece left h.0 outer h.1 h.2 h.3)
leads_piece requests datagram_end left outer to h = absurd h

begins_piece : (requests : Bool) (bytes : List ℕ) (point : Point) → Begins requests bytes point → (front : List ℕ) × (bytes ≡ front ++ from_point point)
unfolding from_point flat
begins_piece requests bytes _ begins = ([], sym (append-nil bytes))
begins_piece requests bytes _ (goes_on from to before leads) =
    let earlier = begins_piece requests bytes from before in
    let piece = leads_piece requests from.awaited from.left from.outer to leads in
    (earlier.0 ++ piece.0, earlier.1 ∙ ap (λ (x : List ℕ). earlier.0 ++ x) piece.1 ∙ sym (append_assoc earlier.0 piece.0 (from_point to)))

-- from a reader's offset on, the octets are those left to it and others
pub octets_at : (requests : Bool) (bytes : List ℕ) (awaited : Awaited) (outer : List (List ℕ)) (reader : Left) → IsAt requests bytes awaited outer reader
    → (tail : List ℕ) × (drop reader.at bytes ≡ reader.left ++ tail)
unfolding from_point
octets_at requests bytes awaited outer reader at =
    let p = begins_piece requests bytes _ at.begins in
    let n : reader.at ≡ length p.0 = omega (arith, at.offset, ap length p.1, length-append p.0 (reader.left ++ flat outer), length-append reader.left (flat outer), length-flat outer) in
    (flat outer, ap (λ (k : ℕ). drop k bytes) n ∙ ap (drop (length p.0)) p.1 ∙ drop-append_seam p.0 (reader.left ++ flat outer))

-- what stands first stands first where more follows
pub first_longer : (v : Val) (rest tail left : List ℕ) → ValueFirst v rest left → ValueFirst v (rest ++ tail) (left ++ tail)
first_longer v rest tail left first = record {
  tag = first.tag;
  content = first.content;
  stands = record {
    element = first.stands.element;
    is_element = first.stands.is_element;
    is = ap (λ (x : List ℕ). x ++ tail) first.stands.is ∙ append_assoc first.stands.element rest tail;
  };
  is_value = first.is_value;
}

-- a value that stands first to a reader stands at its offset
pub value_at : (requests : Bool) (bytes : List ℕ) (awaited : Awaited) (outer : List (List ℕ)) (reader : Left) (v : Val) (rest : List ℕ) → IsAt requests bytes awaited outer reader
    → ValueFirst v rest reader.left → (more : List ℕ) × ValueFirst v more (drop reader.at bytes)
value_at requests bytes awaited outer reader v rest at first =
    let o = octets_at requests bytes awaited outer reader at in
    (rest ++ o.0, subst (λ (x : List ℕ). ValueFirst v (rest ++ o.0) x) (sym o.1) (first_longer v rest o.0 reader.left first))
