-- Octets are a message, or something is wrong with them.
use Rattle.std.proofs.Common.{◌≡◌, ◌⊎◌, ◌↔◌, ◌+◌, ◌-◌, ◌≤◌, ◌<◌, ℕ, zero, suc, ℤ, pos, negsuc, Bool, true, false, List, [], ◌∷◌, ◌++◌, length, refl, ap, subst, ◌∙◌, inl, inr, arith}
use Rattle.std.specs.Prelude.{sum_by}
use Rattle.std.proofs.lemmas.Bool.{cases_eq, cases_lt, cases_Bool}
use Rattle.std.proofs.lemmas.List.{length-append}
use Rattle.rm_val.specs.Val.{Val, int, octets, name}
use Rattle.rm_ber.specs.Grammar.{StandsFirst, ValueFirst}
use Rattle.rm_pdu.specs.declared.kind.Kind.{Kind}
use Rattle.rm_pdu.specs.declared.kind.Kind.TheVariants.{Get, Next, Response, Set, Bulk, Inform, Trap, Report}
use Rattle.rm_pdu.specs.Message.{kind_tag, Binding, Message}
use Rattle.rm_pdu.specs.Spells.{IsBinding, AreBindings, IsPdu, Spells}
use Rattle.rm_pdu.specs.Parse.{Awaited, whole, version, community, pdu, request_id, first_number, second_number, bindings, binding, binding_name, binding_value, binding_end, pdu_end, message_end, datagram_end, Point, LeadsTo, Begins, begins, goes_on, is_read, octets_left, IsStuck, IsOtherTag, Parse, too_long, malformed, other_version, not_request, message, IsParse}
use Rattle.rm_pdu.proofs.FirstThings.{OneElement, OneValue, ElementOrNone, ValueOrNone}
use Rattle.rm_pdu.proofs.Steps.{one_outer, is_plain, stuck_plain, other_tag}

-- what is known of elements and values
record Known : Type 0 where
  element : OneElement
  value : OneValue
  some_element : ElementOrNone
  some_value : ValueOrNone

-- the octets are something
abbrev Found : Bool → List ℕ → Type 0
Found requests bytes = (v : Parse) × IsParse requests bytes v

abbrev point_at : Awaited → List ℕ → List (List ℕ) → Point
point_at awaited left outer = record { awaited = awaited; left = left; outer = outer }

-- No step adds octets.

element_size : (tag : ℕ) (content rest bytes : List ℕ) → StandsFirst tag content rest bytes → length content + length rest < length bytes
element_size tag content rest bytes first =
    let count = first.is_element.count in
    let is : bytes ≡ (tag ∷ (count ++ content)) ++ rest = first.is ∙ ap (λ (x : List ℕ). x ++ rest) first.is_element.is in
    omega (arith, ap length is, length-append (tag ∷ (count ++ content)) rest, length-append count content)

value_size : (v : Val) (rest bytes : List ℕ) → ValueFirst v rest bytes → length rest < length bytes
value_size v rest bytes first = omega (arith, element_size first.tag first.content rest bytes first.stands)

passes : (awaited : Awaited) (v : Val) (rest left : List ℕ) (outer : List (List ℕ)) (to : Point) → ValueFirst v rest left → to ≡ point_at awaited rest outer
    → octets_left to ≤ length left + sum_by length outer
passes awaited v rest left outer to first is = omega (arith, ap octets_left is, value_size v rest left first)

opens : (awaited : Awaited) (tag : ℕ) (content rest left : List ℕ) (outer : List (List ℕ)) (to : Point) → StandsFirst tag content rest left → to ≡ point_at awaited content (rest ∷ outer)
    → octets_left to ≤ length left + sum_by length outer
opens awaited tag content rest left outer to first is = omega (arith, ap octets_left is, element_size tag content rest left first, one_outer rest outer)

closes : (awaited : Awaited) (after left : List ℕ) (more outer : List (List ℕ)) (to : Point) → outer ≡ after ∷ more → to ≡ point_at awaited after more
    → octets_left to ≤ length left + sum_by length outer
closes awaited after left more outer to inside is = omega (arith, ap octets_left is, ap (sum_by length) inside, one_outer after more)

step_adds_none : (requests : Bool) (awaited : Awaited) (left : List ℕ) (outer : List (List ℕ)) (to : Point) → LeadsTo requests awaited left outer to
    → octets_left to ≤ length left + sum_by length outer
step_adds_none requests whole left outer to h = opens version 0x30 h.0 h.1 left outer to h.2 h.3
step_adds_none requests version left outer to h = passes community (int (pos 1)) h.0 left outer to h.1 h.2
step_adds_none requests community left outer to h = passes pdu (octets h.0) h.1 left outer to h.2 h.3
step_adds_none requests pdu left outer to h = opens request_id (kind_tag h.0) h.1 h.2 left outer to h.4 h.5
step_adds_none requests request_id left outer to h = passes first_number (int h.0) h.1 left outer to h.2 h.3
step_adds_none requests first_number left outer to h = passes second_number (int h.0) h.1 left outer to h.2 h.3
step_adds_none requests second_number left outer to h = passes bindings (int h.0) h.1 left outer to h.2 h.3
step_adds_none requests bindings left outer to h = opens binding 0x30 h.0 h.1 left outer to h.2 h.3
step_adds_none requests binding left outer to (inl h) = closes pdu_end h.0 left h.1 outer to h.3 h.4
step_adds_none requests binding left outer to (inr h) = opens binding_name 0x30 h.0 h.1 left outer to h.2 h.3
step_adds_none requests binding_name left outer to h = passes binding_value (name h.0) h.1 left outer to h.2 h.3
step_adds_none requests binding_value left outer to h = passes binding_end h.0 h.1 left outer to h.2 h.3
step_adds_none requests binding_end left outer to h = closes binding h.0 left h.1 outer to h.3 h.4
step_adds_none requests pdu_end left outer to h = closes message_end h.0 left h.1 outer to h.3 h.4
step_adds_none requests message_end left outer to h = closes datagram_end h.0 left h.1 outer to h.3 h.4
step_adds_none requests datagram_end left outer to h = absurd h

no_more_left : (requests : Bool) (bytes : List ℕ) (point : Point) → Begins requests bytes point → octets_left point ≤ length bytes
no_more_left requests bytes _ begins = omega arith
no_more_left requests bytes _ (goes_on from to before leads) =
    omega (arith, no_more_left requests bytes from before, step_adds_none requests from.awaited from.left from.outer to leads)

-- A point where nothing that may stand there does.

stuck_at : (requests : Bool) (bytes : List ℕ) (point : Point) → length bytes ≤ 8192 → Begins requests bytes point → IsStuck requests point → Found requests bytes
stuck_at requests bytes point short before stuck =
    (malformed (length bytes - octets_left point), (short, record { point = point; begins = before; stuck = stuck; offset = omega (arith, no_more_left requests bytes point before) }))

leads_nowhere : (requests : Bool) (bytes : List ℕ) (awaited : Awaited) (left : List ℕ) (outer : List (List ℕ)) → length bytes ≤ 8192 → Begins requests bytes (point_at awaited left outer)
    → is_plain awaited ≡ true → ((to : Point) → LeadsTo requests awaited left outer to → ⊥) → Found requests bytes
leads_nowhere requests bytes awaited left outer short before plain nothing =
    stuck_at requests bytes (point_at awaited left outer) short before (stuck_plain requests awaited left outer plain nothing)

-- Whether an element with that tag, or a value of that kind, stands first.

tagged_or_none : Known → (tag : ℕ) (bytes : List ℕ) → ((content rest : List ℕ) × StandsFirst tag content rest bytes) ⊎ ((content rest : List ℕ) → StandsFirst tag content rest bytes → ⊥)
tagged_or_none known tag bytes = elim (known.some_element bytes) [
  | inl found ↦ elim (cases_eq found.0 tag) [
    | inl same ↦ inl (found.1, found.2, subst (λ (t : ℕ). StandsFirst t found.1 found.2 bytes) same found.3)
    | inr other ↦ inr (λ content rest first. other (known.element found.0 tag found.1 content found.2 rest bytes found.3 first).0)
  ]
  | inr none ↦ inr (λ content rest first. none tag content rest first)
]

module _ {A : Type 0} (make : A → Val) where
  -- a value of some kind stands first, or none does
  abbrev OrNone : List ℕ → Type 0
  OrNone bytes = ((a : A) × (rest : List ℕ) × ValueFirst (make a) rest bytes) ⊎ ((a : A) (rest : List ℕ) → ValueFirst (make a) rest bytes → ⊥)

  -- whether a value is of that kind
  abbrev IsMade : Val → Type 0
  IsMade v = ((a : A) × (v ≡ make a)) ⊎ ((a : A) → v ≡ make a → ⊥)

  made_or_none : ((v : Val) → IsMade v) → Known → (bytes : List ℕ) → OrNone bytes
  made_or_none made known bytes = elim (known.some_value bytes) [
    | inl found ↦ elim (made found.0) [
      | inl is ↦ inl (is.0, found.1, subst (λ (v : Val). ValueFirst v found.1 bytes) is.1 found.2)
      | inr other ↦ inr (λ a rest first. other a (known.value found.0 (make a) found.1 rest bytes found.2 first).0)
    ]
    | inr none ↦ inr (λ a rest first. none (make a) rest first)
  ]

is_int : (v : Val) → IsMade int v
is_int (int z) = inl (z, refl)
is_int v = inr (λ z e. cc)

is_octets : (v : Val) → IsMade octets v
is_octets (octets text) = inl (text, refl)
is_octets v = inr (λ text e. cc)

is_name : (v : Val) → IsMade name v
is_name (name numbers) = inl (numbers, refl)
is_name v = inr (λ numbers e. cc)

is_one : (z : ℤ) → (z ≡ pos 1) ⊎ (z ≡ pos 1 → ⊥)
is_one (pos n) = elim (cases_eq n 1) [ inl same ↦ inl (ap pos same) | inr other ↦ inr (λ e. other cc) ]
is_one (negsuc n) = inr (λ e. cc)

-- whether a tag is that of a PDU
abbrev KindOrNone : ℕ → Type 0
KindOrNone tag = ((kind : Kind) × (tag ≡ kind_tag kind)) ⊎ ((kind : Kind) → tag ≡ kind_tag kind → ⊥)

-- the tag is that of none of these kinds
abbrev NoneHas : ℕ → List Kind → Type 0
NoneHas tag [] = Unit {0}
NoneHas tag (kind ∷ kinds) = (tag ≡ kind_tag kind → ⊥) × NoneHas tag kinds

kind_among : (tag : ℕ) (kinds : List Kind) → ((kind : Kind) × (tag ≡ kind_tag kind)) ⊎ NoneHas tag kinds
kind_among tag [] = inr tt
kind_among tag (kind ∷ kinds) = elim (cases_eq tag (kind_tag kind)) [
  | inl is ↦ inl (kind, is)
  | inr other ↦ elim (kind_among tag kinds) [ inl found ↦ inl found | inr none ↦ inr (other, none) ]
]

abbrev all_kinds : List Kind
all_kinds = Get ∷ Next ∷ Response ∷ Set ∷ Bulk ∷ Inform ∷ Trap ∷ Report ∷ []

of_no_kind : (tag : ℕ) → NoneHas tag all_kinds → (kind : Kind) → tag ≡ kind_tag kind → ⊥
of_no_kind tag none Get = none.0
of_no_kind tag none Next = none.1.0
of_no_kind tag none Response = none.1.1.0
of_no_kind tag none Set = none.1.1.1.0
of_no_kind tag none Bulk = none.1.1.1.1.0
of_no_kind tag none Inform = none.1.1.1.1.1.0
of_no_kind tag none Trap = none.1.1.1.1.1.1.0
of_no_kind tag none Report = none.1.1.1.1.1.1.1.0

kind_or_none : (tag : ℕ) → KindOrNone tag
kind_or_none tag = elim (kind_among tag all_kinds) [ inl found ↦ inl found | inr none ↦ inr (of_no_kind tag none) ]

-- whether a PDU that is read stands first
abbrev PduOrNone : Bool → List ℕ → Type 0
PduOrNone requests bytes = ((kind : Kind) × (content rest : List ℕ) × (is_read requests kind ≡ true) × StandsFirst (kind_tag kind) content rest bytes)
    ⊎ ((kind : Kind) (content rest : List ℕ) → is_read requests kind ≡ true → StandsFirst (kind_tag kind) content rest bytes → ⊥)

-- no other PDU's tag stands where that of a request is awaited
abbrev NoOther : Bool → List ℕ → Type 0
NoOther requests left = requests ≡ true → (tag : ℕ) (more : List ℕ) → left ≡ tag ∷ more → IsOtherTag tag → ⊥

not_unread : (requests : Bool) (kind : Kind) (content rest bytes : List ℕ) → NoOther requests bytes → StandsFirst (kind_tag kind) content rest bytes → is_read requests kind ≡ false → ⊥
not_unread false kind content rest bytes no_other first unread = cc
not_unread true kind content rest bytes no_other first unread =
    no_other refl (kind_tag kind) ((first.is_element.count ++ content) ++ rest) (first.is ∙ ap (λ (x : List ℕ). x ++ rest) first.is_element.is) (other_tag kind unread)

pdu_or_none : Known → (requests : Bool) (bytes : List ℕ) → NoOther requests bytes → PduOrNone requests bytes
pdu_or_none known requests bytes no_other = elim (known.some_element bytes) [
  | inl found ↦ elim (kind_or_none found.0) [
    | inl is ↦
        let first = subst (λ (t : ℕ). StandsFirst t found.1 found.2 bytes) is.1 found.3 in
        elim (cases_Bool (is_read requests is.0)) [
          | inl read ↦ inl (is.0, found.1, found.2, read, first)
          | inr unread ↦ absurd (not_unread requests is.0 found.1 found.2 bytes no_other first unread)
        ]
    | inr other ↦ inr (λ kind content rest read first. other kind (known.element found.0 (kind_tag kind) found.1 content found.2 rest bytes found.3 first).0)
  ]
  | inr none ↦ inr (λ kind content rest read first. none (kind_tag kind) content rest first)
]

-- whether another PDU's tag stands where that of a request is awaited
abbrev OtherOrNone : Bool → List ℕ → Type 0
OtherOrNone requests left = ((requests ≡ true) × (tag : ℕ) × (more : List ℕ) × (left ≡ tag ∷ more) × IsOtherTag tag)
    ⊎ NoOther requests left

or_not : {A B : Type 0} → A ⊎ (A → ⊥) → B ⊎ (B → ⊥) → (A ⊎ B) ⊎ (A ⊎ B → ⊥)
or_not (inl a) other = inl (inl a)
or_not (inr not) (inl b) = inl (inr b)
or_not (inr not) (inr neither) = inr (λ either. elim either [ inl a ↦ not a | inr b ↦ neither b ])

other_tag_or_not : (tag : ℕ) → IsOtherTag tag ⊎ (IsOtherTag tag → ⊥)
other_tag_or_not tag = or_not (cases_eq tag 0xa2) (or_not (cases_eq tag 0xa6) (or_not (cases_eq tag 0xa7) (cases_eq tag 0xa8)))

other_or_none : (requests : Bool) (left : List ℕ) → OtherOrNone requests left
other_or_none false left = inr (λ only tag more is other. cc)
other_or_none true [] = inr (λ only tag more is other. cc)
other_or_none true (octet ∷ rest) = elim (other_tag_or_not octet) [
  | inl other ↦ inl (refl, octet, rest, refl, other)
  | inr not ↦ inr (λ only tag more is other. let e : tag ≡ octet = cc in not (subst IsOtherTag e other))
]

-- The points of a message, one after the other: either the next begins, or the octets are something.

module _ {A : Type 0} (make : A → Val) (from to : Awaited) where
  -- where a value of that kind is awaited, it leads to the next point
  abbrev Leads : Type 0
  Leads = (requests : Bool) (left : List ℕ) (outer : List (List ℕ)) (next : Point)
      → LeadsTo requests from left outer next ↔ ((a : A) × (rest : List ℕ) × ValueFirst (make a) rest left × (next ≡ point_at to rest outer))

  abbrev Passes : Type 0
  Passes = (requests : Bool) (bytes left : List ℕ) (outer : List (List ℕ)) → length bytes ≤ 8192 → Begins requests bytes (point_at from left outer)
      → ((a : A) (rest : List ℕ) → ValueFirst (make a) rest left → Begins requests bytes (point_at to rest outer) → Found requests bytes) → Found requests bytes

  at_value : is_plain from ≡ true → Leads → ((left : List ℕ) → OrNone make left) → Passes
  at_value plain leads value_or_none requests bytes left outer short before next = elim (value_or_none left) [
    | inl h ↦ next h.0 h.1 h.2 (goes_on _ (point_at to h.1 outer) before ((leads requests left outer _).1 (h.0, h.1, h.2, refl)))
    | inr none ↦ leads_nowhere requests bytes from left outer short before plain (λ point there. let h = (leads requests left outer point).0 there in none h.0 h.1 h.2)
  ]

module _ (from to : Awaited) where
  -- where an element must end, its end leads to the next point
  abbrev LeadsOut : Type 0
  LeadsOut = (requests : Bool) (left : List ℕ) (outer : List (List ℕ)) (next : Point)
      → LeadsTo requests from left outer next ↔ ((after : List ℕ) × (more : List (List ℕ)) × (left ≡ []) × (outer ≡ after ∷ more) × (next ≡ point_at to after more))

  abbrev Ends : Type 0
  Ends = (requests : Bool) (bytes left after : List ℕ) (outer : List (List ℕ)) → length bytes ≤ 8192 → Begins requests bytes (point_at from left (after ∷ outer))
      → (left ≡ [] → Begins requests bytes (point_at to after outer) → Found requests bytes) → Found requests bytes

  at_end : is_plain from ≡ true → LeadsOut → Ends
  at_end plain leads requests bytes [] after outer short before next =
      next refl (goes_on _ (point_at to after outer) before ((leads requests [] (after ∷ outer) _).1 (after, outer, refl, refl, refl)))
  at_end plain leads requests bytes (octet ∷ left) after outer short before next =
      leads_nowhere requests bytes from (octet ∷ left) (after ∷ outer) short before plain (λ point there. let e = ((leads requests (octet ∷ left) (after ∷ outer) point).0 there).2 in cc)

at_whole : Known → (requests : Bool) (bytes : List ℕ) → length bytes ≤ 8192
    → ((content rest : List ℕ) → StandsFirst 0x30 content rest bytes → Begins requests bytes (point_at version content (rest ∷ [])) → Found requests bytes) → Found requests bytes
unfolding is_plain
at_whole known requests bytes short next = elim (tagged_or_none known 0x30 bytes) [
  | inl h ↦ next h.0 h.1 h.2 (goes_on _ (point_at version h.0 (h.1 ∷ [])) begins (h.0, h.1, h.2, refl))
  | inr none ↦ leads_nowhere requests bytes whole bytes [] short begins refl (λ to leads. none leads.0 leads.1 leads.2)
]

at_version : Known → (requests : Bool) (bytes left : List ℕ) (outer : List (List ℕ)) → length bytes ≤ 8192 → Begins requests bytes (point_at version left outer)
    → ((rest : List ℕ) → ValueFirst (int (pos 1)) rest left → Begins requests bytes (point_at community rest outer) → Found requests bytes) → Found requests bytes
at_version known requests bytes left outer short before next = elim (made_or_none int is_int known left) [
  | inl h ↦ elim (is_one h.0) [
    | inl one ↦ let first = subst (λ (z : ℤ). ValueFirst (int z) h.1 left) one h.2 in next h.1 first (goes_on _ (point_at community h.1 outer) before (h.1, first, refl))
    | inr other ↦ (other_version h.0, (short, record { left = left; rest = h.1; outer = outer; begins = before; version = h.2; other = other }))
  ]
  | inr none ↦ stuck_at requests bytes (point_at version left outer) short before (record {
    nothing = λ to leads. none (pos 1) leads.0 leads.1;
    no_version = λ is z rest first. none z rest first;
    no_other = λ only is. absurd cc;
    not_end = λ is. absurd cc;
  })
]

at_community : Known → Passes octets community pdu
unfolding is_plain
at_community known = at_value octets community pdu refl (λ requests left outer next. (λ h. h, λ h. h)) (made_or_none octets is_octets known)

at_pdu : Known → (requests : Bool) (bytes left : List ℕ) (outer : List (List ℕ)) → length bytes ≤ 8192 → Begins requests bytes (point_at pdu left outer)
    → ((kind : Kind) (content rest : List ℕ) → is_read requests kind ≡ true → StandsFirst (kind_tag kind) content rest left
    → Begins requests bytes (point_at request_id content (rest ∷ outer)) → Found requests bytes) → Found requests bytes
at_pdu known requests bytes left outer short before next = elim (other_or_none requests left) [
  | inl h ↦
      let begins_other = subst (λ (r : Bool). Begins r bytes (point_at pdu (h.1 ∷ h.2) outer)) h.0 (subst (λ (x : List ℕ). Begins requests bytes (point_at pdu x outer)) h.3 before) in
      (not_request h.1, (short, h.0, record { more = h.2; outer = outer; begins = begins_other; other = h.4 }))
  | inr no_other ↦ elim (pdu_or_none known requests left no_other) [
    | inl h ↦ next h.0 h.1 h.2 h.3 h.4 (goes_on _ (point_at request_id h.1 (h.2 ∷ outer)) before (h.0, h.1, h.2, h.3, h.4, refl))
    | inr none ↦ stuck_at requests bytes (point_at pdu left outer) short before (record {
      nothing = λ to leads. none leads.0 leads.1 leads.2 leads.3 leads.4;
      no_version = λ is. absurd cc;
      no_other = λ only is tag more e other. no_other only tag more e other;
      not_end = λ is. absurd cc;
    })
  ]
]

at_request_id : Known → Passes int request_id first_number
unfolding is_plain
at_request_id known = at_value int request_id first_number refl (λ requests left outer next. (λ h. h, λ h. h)) (made_or_none int is_int known)

at_first_number : Known → Passes int first_number second_number
unfolding is_plain
at_first_number known = at_value int first_number second_number refl (λ requests left outer next. (λ h. h, λ h. h)) (made_or_none int is_int known)

at_second_number : Known → Passes int second_number bindings
unfolding is_plain
at_second_number known = at_value int second_number bindings refl (λ requests left outer next. (λ h. h, λ h. h)) (made_or_none int is_int known)

at_bindings : Known → (requests : Bool) (bytes left : List ℕ) (outer : List (List ℕ)) → length bytes ≤ 8192 → Begins requests bytes (point_at bindings left outer)
    → ((content rest : List ℕ) → StandsFirst 0x30 content rest left → Begins requests bytes (point_at binding content (rest ∷ outer)) → Found requests bytes) → Found requests bytes
unfolding is_plain
at_bindings known requests bytes left outer short before next = elim (tagged_or_none known 0x30 left) [
  | inl h ↦ next h.0 h.1 h.2 (goes_on _ (point_at binding h.0 (h.1 ∷ outer)) before (h.0, h.1, h.2, refl))
  | inr none ↦ leads_nowhere requests bytes bindings left outer short before refl (λ to leads. none leads.0 leads.1 leads.2)
]

at_binding_name : Known → Passes name binding_name binding_value
unfolding is_plain
at_binding_name known = at_value name binding_name binding_value refl (λ requests left outer next. (λ h. h, λ h. h)) (made_or_none name is_name known)

at_binding_value : Known → Passes (λ v. v) binding_value binding_end
unfolding is_plain
at_binding_value known = at_value (λ v. v) binding_value binding_end refl (λ requests left outer next. (λ h. h, λ h. h)) known.some_value

at_binding_end : Ends binding_end binding
unfolding is_plain
at_binding_end = at_end binding_end binding refl (λ requests left outer next. (λ h. h, λ h. h))

at_pdu_end : Ends pdu_end message_end
unfolding is_plain
at_pdu_end = at_end pdu_end message_end refl (λ requests left outer next. (λ h. h, λ h. h))

at_message_end : Ends message_end datagram_end
unfolding is_plain
at_message_end = at_end message_end datagram_end refl (λ requests left outer next. (λ h. h, λ h. h))

at_datagram_end : (requests : Bool) (bytes left : List ℕ) (outer : List (List ℕ)) → length bytes ≤ 8192 → Begins requests bytes (point_at datagram_end left outer)
    → (left ≡ [] → Found requests bytes) → Found requests bytes
at_datagram_end requests bytes [] outer short before done = done refl
at_datagram_end requests bytes (octet ∷ left) outer short before done = stuck_at requests bytes (point_at datagram_end (octet ∷ left) outer) short before (record {
  nothing = λ to leads. leads;
  no_version = λ is. absurd cc;
  no_other = λ only is. absurd cc;
  not_end = λ is none. let e : octet ∷ left ≡ [] = none in cc;
})

-- a binding is read to its end
one_binding : Known → (requests : Bool) (bytes content rest : List ℕ) (outer : List (List ℕ)) → length bytes ≤ 8192 → Begins requests bytes (point_at binding_name content (rest ∷ outer))
    → ((b : Binding) → IsBinding content b → Begins requests bytes (point_at binding rest outer) → Found requests bytes) → Found requests bytes
one_binding known requests bytes content rest outer short before next =
    at_binding_name known requests bytes content (rest ∷ outer) short before (λ numbers after_name named at_value.
    at_binding_value known requests bytes after_name (rest ∷ outer) short at_value (λ v after_value valued at_end.
    at_binding_end requests bytes after_value rest outer short at_end (λ none after.
    next (record { name = numbers; value = v }) (after_name, named, subst (λ (x : List ℕ). ValueFirst v x after_name) none valued) after)))

-- bindings are read to the end of their list, which has at most so many octets
all_bindings : Known → (requests : Bool) (bytes : List ℕ) (most : ℕ) (list after : List ℕ) (outer : List (List ℕ)) → length bytes ≤ 8192 → length list ≤ most
    → Begins requests bytes (point_at binding list (after ∷ outer))
    → ((held : List Binding) → AreBindings list held → Begins requests bytes (point_at pdu_end after outer) → Found requests bytes) → Found requests bytes
unfolding is_plain
all_bindings known requests bytes most [] after outer short fits before next =
    next [] refl (goes_on _ (point_at pdu_end after outer) before (inl (after, outer, refl, refl, refl)))
all_bindings known requests bytes zero (octet ∷ list) after outer short fits before next = absurd (omega (arith, fits))
all_bindings known requests bytes (suc most) (octet ∷ list) after outer short fits before next = elim (tagged_or_none known 0x30 (octet ∷ list)) [
  | inl h ↦
      one_binding known requests bytes h.0 h.1 (after ∷ outer) short (goes_on _ (point_at binding_name h.0 (h.1 ∷ after ∷ outer)) before (inr (h.0, h.1, h.2, refl))) (λ first is_first at_next.
      all_bindings known requests bytes most h.1 after outer short (omega (arith, fits, element_size 0x30 h.0 h.1 (octet ∷ list) h.2)) at_next (λ more are at_end.
      next (first ∷ more) (h.0, h.1, h.2, is_first, are) at_end))
  | inr none ↦ leads_nowhere requests bytes binding (octet ∷ list) (after ∷ outer) short before refl (λ to leads. elim leads [
    | inl end ↦ let e : octet ∷ list ≡ [] = end.2 in cc
    | inr more ↦ none more.0 more.1 more.2
  ])
]

-- octets that aren't too many are something
every_short : Known → (requests : Bool) (bytes : List ℕ) → length bytes ≤ 8192 → Found requests bytes
every_short known requests bytes short =
    at_whole known requests bytes short (λ content after_message opens_message at_its_version.
    at_version known requests bytes content (after_message ∷ []) short at_its_version (λ after_version is_version at_its_community.
    at_community known requests bytes after_version (after_message ∷ []) short at_its_community (λ text after_community is_community at_its_pdu.
    at_pdu known requests bytes after_community (after_message ∷ []) short at_its_pdu (λ kind inside after_pdu read opens_pdu at_id.
    at_request_id known requests bytes inside (after_pdu ∷ after_message ∷ []) short at_id (λ id after_id is_id at_first.
    at_first_number known requests bytes after_id (after_pdu ∷ after_message ∷ []) short at_first (λ first after_first is_first at_second.
    at_second_number known requests bytes after_first (after_pdu ∷ after_message ∷ []) short at_second (λ second after_second is_second at_list.
    at_bindings known requests bytes after_second (after_pdu ∷ after_message ∷ []) short at_list (λ list after_list opens_list in_list.
    all_bindings known requests bytes (length list) list after_list (after_pdu ∷ after_message ∷ []) short (omega arith) in_list (λ held are at_end_of_pdu.
    at_pdu_end requests bytes after_list after_pdu (after_message ∷ []) short at_end_of_pdu (λ list_ends at_end_of_message.
    at_message_end requests bytes after_pdu after_message [] short at_end_of_message (λ pdu_ends at_end_of_datagram.
    at_datagram_end requests bytes after_message [] short at_end_of_datagram (λ message_ends.
    let opens_whole = subst (λ (x : List ℕ). StandsFirst 0x30 content x bytes) message_ends opens_message in
    let opens_inside = subst (λ (x : List ℕ). StandsFirst (kind_tag kind) inside x after_community) pdu_ends opens_pdu in
    let opens_all = subst (λ (x : List ℕ). StandsFirst 0x30 list x after_second) list_ends opens_list in
    let m : Message = record { community = text; kind = kind; id = id; first = first; second = second; bindings = held } in
    let is_pdu : IsPdu inside m = record { after_id = after_id; after_first = after_first; after_second = after_second; list = list; id = is_id; first = is_first; second = is_second; opens = opens_all; bindings = are } in
    let spells : Spells bytes m = record { content = content; after_version = after_version; after_community = after_community; pdu = inside; opens = opens_whole; version = is_version; community = is_community; opens_pdu = opens_inside; is_pdu = is_pdu } in
    (message m, (short, spells, read))))))))))))))

-- octets are something
pub every_parse : OneElement → OneValue → ElementOrNone → ValueOrNone → (requests : Bool) (bytes : List ℕ) → (v : Parse) × IsParse requests bytes v
every_parse element value some_element some_value requests bytes = elim (cases_lt 8192 (length bytes)) [
  | inl long ↦ (too_long, long)
  | inr short ↦ every_short (record { element = element; value = value; some_element = some_element; some_value = some_value }) requests bytes short
]
