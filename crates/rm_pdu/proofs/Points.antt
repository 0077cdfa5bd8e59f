-- The points of a message lie on one line.
use Rattle.std.proofs.Common.{◌≡◌, ◌⊎◌, ℕ, pos, Bool, List, [], ◌∷◌, refl, sym, ap, subst, ◌∙◌, inl, inr}
use Rattle.rm_val.specs.Val.{Val, int, octets, name}
use Rattle.rm_ber.specs.Grammar.{StandsFirst, ValueFirst}
use Rattle.rm_pdu.specs.Message.{kind_tag}
use Rattle.rm_pdu.specs.Parse.{Awaited, whole, version, community, pdu, request_id, first_number, second_number, bindings, binding, binding_name, binding_value, binding_end, pdu_end, message_end, datagram_end, Point, LeadsTo, Begins, begins, goes_on}
use Rattle.rm_pdu.proofs.FirstThings.{OneElement, OneValue, none_first}

point_at : Awaited → List ℕ → List (List ℕ) → Point
point_at awaited left outer = record { awaited = awaited; left = left; outer = outer }

same_place : (awaited : Awaited) (left other : List ℕ) (outer others : List (List ℕ)) → left ≡ other → outer ≡ others → point_at awaited left outer ≡ point_at awaited other others
same_place awaited left other outer others l o = ap (λ (x : List ℕ). point_at awaited x outer) l ∙ ap (point_at awaited other) o

value_leads : OneValue → (awaited : Awaited) (v w : Val) (left rest other : List ℕ) (outer : List (List ℕ)) (to too : Point) → ValueFirst v rest left → ValueFirst w other left
    → to ≡ point_at awaited rest outer → too ≡ point_at awaited other outer → to ≡ too
unfolding point_at
value_leads one awaited v w left rest other outer to too h k is iso =
    is ∙ same_place awaited rest other outer outer (one v w rest other left h k).1 refl ∙ sym iso

header_leads : OneElement → (awaited : Awaited) (tag other_tag : ℕ) (left content other_content rest other_rest : List ℕ) (outer : List (List ℕ)) (to too : Point)
    → StandsFirst tag content rest left → StandsFirst other_tag other_content other_rest left
    → to ≡ point_at awaited content (rest ∷ outer) → too ≡ point_at awaited other_content (other_rest ∷ outer) → to ≡ too
header_leads one awaited tag other_tag left content other_content rest other_rest outer to too h k is iso =
    let same = one tag other_tag content other_content rest other_rest left h k in
    is ∙ same_place awaited content other_content (rest ∷ outer) (other_rest ∷ outer) same.1 (ap (λ (x : List ℕ). x ∷ outer) same.2) ∙ sym iso

end_leads : (awaited : Awaited) (after other : List ℕ) (more others outer : List (List ℕ)) (to too : Point) → outer ≡ after ∷ more → outer ≡ other ∷ others
    → to ≡ point_at awaited after more → too ≡ point_at awaited other others → to ≡ too
end_leads awaited after other more others outer to too o p is iso =
    let e : after ∷ more ≡ other ∷ others = sym o ∙ p in
    let first : after ≡ other = cc in
    let behind : more ≡ others = cc in
    is ∙ same_place awaited after other more others first behind ∙ sym iso

-- a point leads to one point
pub leads_once : OneElement → OneValue → (requests : Bool) (awaited : Awaited) (left : List ℕ) (outer : List (List ℕ)) (to too : Point)
    → LeadsTo requests awaited left outer to → LeadsTo requests awaited left outer too → to ≡ too
unfolding point_at
leads_once element value requests whole left outer to too h k = header_leads element version 0x30 0x30 left h.0 k.0 h.1 k.1 outer to too h.2 k.2 h.3 k.3
leads_once element value requests version left outer to too h k = value_leads value community (int (pos 1)) (int (pos 1)) left h.0 k.0 outer to too h.1 k.1 h.2 k.2
leads_once element value requests community left outer to too h k = value_leads value pdu (octets h.0) (octets k.0) left h.1 k.1 outer to too h.2 k.2 h.3 k.3
leads_once element value requests pdu left outer to too h k = header_leads element request_id (kind_tag h.0) (kind_tag k.0) left h.1 k.1 h.2 k.2 outer to too h.4 k.4 h.5 k.5
leads_once element value requests request_id left outer to too h k = value_leads value first_number (int h.0) (int k.0) left h.1 k.1 outer to too h.2 k.2 h.3 k.3
leads_once element value requests first_number left outer to too h k = value_leads value second_number (int h.0) (int k.0) left h.1 k.1 outer to too h.2 k.2 h.3 k.3
leads_once element value requests second_number left outer to too h k = value_leads value bindings (int h.0) (int k.0) left h.1 k.1 outer to too h.2 k.2 h.3 k.3
leads_once element value requests bindings left outer to too h k = header_leads element binding 0x30 0x30 left h.0 k.0 h.1 k.1 outer to too h.2 k.2 h.3 k.3
leads_once element value requests binding left outer to too (inl h) (inl k) = end_leads pdu_end h.0 k.0 h.1 k.1 outer to too h.3 k.3 h.4 k.4
leads_once element value requests binding left outer to too (inl h) (inr k) = absurd (none_first 0x30 k.0 k.1 (rw h.2 at k.2))
leads_once element value requests binding left outer to too (inr h) (inl k) = absurd (none_first 0x30 h.0 h.1 (rw k.2 at h.2))
leads_once element value requests binding left outer to too (inr h) (inr k) = header_leads element binding_name 0x30 0x30 left h.0 k.0 h.1 k.1 outer to too h.2 k.2 h.3 k.3
leads_once element value requests binding_name left outer to too h k = value_leads value binding_value (name h.0) (name k.0) left h.1 k.1 outer to too h.2 k.2 h.3 k.3
leads_once element value requests binding_value left outer to too h k = value_leads value binding_end h.0 k.0 left h.1 k.1 outer to too h.2 k.2 h.3 k.3
leads_once element value requests binding_end left outer to too h k = end_leads binding h.0 k.0 h.1 k.1 outer to too h.3 k.3 h.4 k.4
leads_once element value requests pdu_end left outer to too h k = end_leads message_end h.0 k.0 h.1 k.1 outer to too h.3 k.3 h.4 k.4
leads_once element value requests message_end left outer to too h k = end_leads datagram_end h.0 k.0 h.1 k.1 outer to too h.3 k.3 h.4 k.4
leads_once element value requests datagram_end left outer to too h k = absurd h

abbrev pub Leads : Bool → Point → Point → Type 0
Leads requests from to = LeadsTo requests from.awaited from.left from.outer to

-- one point leads to the other, by none or more steps
data Path (requests : Bool) (from : Point) : Point → Type 0 where
  here : Path requests from from
  further : (by to : Point) → Path requests from by → Leads requests by to → Path requests from to

path_first : (requests : Bool) (from to : Point) → Path requests from to → (from ≡ to) ⊎ ((by : Point) × Leads requests from by × Path requests by to)
path_first requests from _ here = inl refl
path_first requests from _ (further by to path leads) =
    elim (path_first requests from by path) [
      | inl same ↦ inr (to, subst (λ (p : Point). Leads requests p to) (sym same) leads, here)
      | inr first ↦ inr (first.0, first.1, further by to first.2 leads)
    ]

path_from : (requests : Bool) (bytes : List ℕ) (to : Point) → Begins requests bytes to → Path requests (point_at whole bytes []) to
unfolding point_at
path_from requests bytes _ begins = here
path_from requests bytes _ (goes_on from to before leads) = further from to (path_from requests bytes from before) leads

one_line : OneElement → OneValue → (requests : Bool) (bytes : List ℕ) (a b : Point) → Begins requests bytes a → Begins requests bytes b → Path requests a b ⊎ Path requests b a
unfolding point_at
one_line element value requests bytes _ b begins other = inl (path_from requests bytes b other)
one_line element value requests bytes _ b (goes_on from a before leads) other =
    elim (one_line element value requests bytes from b before other) [
      | inl path ↦ elim (path_first requests from b path) [
        | inl same ↦ inr (further from a (subst (λ (p : Point). Path requests p from) same here) leads)
        | inr first ↦ inl (subst (λ (p : Point). Path requests p b) (leads_once element value requests from.awaited from.left from.outer first.0 a first.1 leads) first.2)
      ]
      | inr path ↦ inr (further from a path leads)
    ]

-- a point that leads nowhere
abbrev pub IsLast : Bool → Point → Type 0
IsLast requests point = (to : Point) → Leads requests point to → ⊥

-- there is one point that leads nowhere
pub last_once : OneElement → OneValue → (requests : Bool) (bytes : List ℕ) (a b : Point) → Begins requests bytes a → Begins requests bytes b → IsLast requests a → IsLast requests b → a ≡ b
last_once element value requests bytes a b h k last other =
    elim (one_line element value requests bytes a b h k) [
      | inl path ↦ elim (path_first requests a b path) [
        | inl same ↦ same
        | inr first ↦ absurd (last first.0 first.1)
      ]
      | inr path ↦ elim (path_first requests b a path) [
        | inl same ↦ sym same
        | inr first ↦ absurd (other first.0 first.1)
      ]
    ]
