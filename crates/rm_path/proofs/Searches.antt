-- The slots and their index: what a search finds, no slot with a protocol, and one more.
use Rattle.std.proofs.Common.{◌≡◌, ℕ, zero, suc, ◌<◌, List, [], ◌∷◌, length, get_or, set, replicate, Bool, true, false, cond, nat_eq, Option, Some, None, option_map, refl, sym, ◌∙◌, ap, subst, arith, length-set, get_or-set_same, get_or-set_other}
use Rattle.std.specs.List.{insert, remove}
use Rattle.std.proofs.lemmas.List.Edits.{length-insert, length-remove}
use Rattle.std.proofs.lemmas.Bool.Decides.{nat_tests}
use Rattle.std.proofs.lemmas.Option.{none-some, same_Some}
use Rattle.rm_path.specs.declared.identifier.ProtocolIdentifier.{ProtocolIdentifier}
use Rattle.rm_path.specs.declared.protocol.Protocol.{Protocol}
use Rattle.rm_path.specs.declared.entry.Entry.{Entry}
use Rattle.rm_path.specs.Identifier.{number_of, IsInRange}
use Rattle.rm_path.specs.Order.{slot_with, no_entry, IsAt, IsGap}
use Rattle.rm_path.specs.Slots.{protocol_in, identifier_in, is_active, AreOfSlots, HaveSlots, IsSlotOfFirst}
use Rattle.rm_path.proofs.Count.{count_filled, count_emptied, count_same, count_below_length}
use Rattle.rm_path.proofs.Identifiers.{same_number}
use Rattle.rm_path.proofs.OrderLemmas.{found_leads, gap_leads, more_leads, more_rise, fewer_leads, fewer_rise}
use Rattle.rm_path.proofs.SlotLemmas.{active_in, inactive}

module _ (slots : List (Option Protocol)) (entries : List Entry) (are : AreOfSlots slots entries) where
  -- an identifier in a slot lies within the slots
  within_slots : (slot : ℕ) (identifier : ProtocolIdentifier) → identifier_in slots slot ≡ Some identifier → slot < 32
  within_slots slot identifier is = subst (λ n. slot < n) are.all_slots (within slots slot is)
    where
      within : (held : List (Option Protocol)) (k : ℕ) → identifier_in held k ≡ Some identifier → k < length held
      within [] k is = absurd (cc)
      within (first ∷ held) zero is = omega arith
      within (first ∷ held) (suc k) is = let more = within held k is in omega (arith, more)

  -- what a number leads to is the protocol of that number
  leads_to : (identifier : ProtocolIdentifier) (slot : ℕ) → IsInRange identifier → slot_with entries (number_of identifier) ≡ Some slot → identifier_in slots slot ≡ Some identifier
  leads_to identifier slot in_range is = by_held (identifier_in slots slot) refl (are.lead (number_of identifier) slot is)
    where
      by_held : (held : Option ProtocolIdentifier) → identifier_in slots slot ≡ held → option_map number_of held ≡ Some (number_of identifier) → held ≡ Some identifier
      by_held None e same = absurd (cc)
      by_held (Some other) e same = ap Some (same_number other identifier (are.in_range slot other e) in_range (same_Some _ _ same))

  -- the slot of an entry that was found
  pub found_slot : (identifier : ProtocolIdentifier) (place : ℕ) → IsInRange identifier → IsAt entries (number_of identifier) place → IsSlotOfFirst slots (identifier ∷ []) (Some (get_or entries place no_entry).slot)
  found_slot identifier place in_range is =
      let slot = (get_or entries place no_entry).slot in
      let it : identifier_in slots slot ≡ Some identifier = leads_to identifier slot in_range (found_leads entries are.rising (number_of identifier) place is) in
      rw (active_in slots slot identifier it) (within_slots slot identifier it, it)

  -- a protocol without an entry is in no slot
  pub no_slot : (identifier : ProtocolIdentifier) (place : ℕ) → IsGap entries (number_of identifier) place → IsSlotOfFirst slots (identifier ∷ []) None
  no_slot identifier place gap =
      let leads : slot_with entries (number_of identifier) ≡ None = gap_leads entries (number_of identifier) place gap in
      rw (inactive slots identifier (λ slot is. let listed = are.listed slot identifier is in absurd (cc))) tt

in_empty : (slot n : ℕ) → protocol_in (replicate n None) slot ≡ None
in_empty slot zero = refl
in_empty zero (suc n) = refl
in_empty (suc slot) (suc n) = in_empty slot n

-- no slot has a protocol
pub none_yet : AreOfSlots (replicate 32 None) []
none_yet = record {
  all_slots = refl;
  counted = refl;
  rising = λ i j below within. absurd (omega (arith, within));
  lead = λ number slot is. absurd (none-some slot is);
  in_range = λ slot identifier is. absurd (none-some identifier (none slot ∙ is));
  listed = λ slot identifier is. absurd (none-some identifier (none slot ∙ is));
}
  where
    none : (slot : ℕ) → None ≡ identifier_in (replicate 32 None) slot
    none slot = ap (option_map (λ protocol. protocol.identifier)) (sym (in_empty slot 32))

-- what is in a slot of some in which one was given another protocol, or none
module _ (slots : List (Option Protocol)) (slot : ℕ) (held : Option Protocol) (there : slot < length slots) where
  abbrev then : List (Option Protocol)
  then = set slots slot held

  here : identifier_in then slot ≡ option_map (λ protocol. protocol.identifier) held
  here = ap (option_map (λ protocol. protocol.identifier)) (get_or-set_same slots slot held None there)

  elsewhere : (other : ℕ) → (other ≡ slot → ⊥) → identifier_in then other ≡ identifier_in slots other
  elsewhere other differs = ap (option_map (λ protocol. protocol.identifier)) (get_or-set_other slots slot other held None differs)

  -- by what is said of that slot and of the others
  each_then : (P : ℕ → ProtocolIdentifier → Type 0)
      → ((identifier : ProtocolIdentifier) → option_map (λ protocol. protocol.identifier) held ≡ Some identifier → P slot identifier)
      → ((other : ℕ) (identifier : ProtocolIdentifier) → (other ≡ slot → ⊥) → identifier_in slots other ≡ Some identifier → P other identifier)
      → (other : ℕ) (identifier : ProtocolIdentifier) → identifier_in then other ≡ Some identifier → P other identifier
  each_then P of_held of_old other identifier is = by_test (nat_eq other slot) refl
    where
      by_test : (t : Bool) → nat_eq other slot ≡ t → P other identifier
      by_test true e =
          let at : other ≡ slot = grind (arith, nat_tests) in
          subst (λ k. P k identifier) (sym at) (of_held identifier (sym here ∙ subst (λ k. identifier_in then k ≡ Some identifier) at is))
      by_test false e = let differs : other ≡ slot → ⊥ = λ same. grind (arith, nat_tests) in of_old other identifier differs (sym (elsewhere other differs) ∙ is)

-- a protocol that isn't active is put into an empty slot
module _ (slots : List (Option Protocol)) (entries : List Entry) (are : AreOfSlots slots entries) (slot : ℕ) (new : Protocol) (within : slot < 32) (empty : protocol_in slots slot ≡ None) where
  there : slot < length slots
  there = omega (arith, within, are.all_slots)

  -- its entry fits
  pub has_room : length entries < 32
  has_room = let fewer = count_below_length slots slot new there empty in omega (arith, fewer, are.counted, are.all_slots)

  module _ (in_range : IsInRange new.identifier) (inactive : is_active slots new.identifier ≡ false) where
    -- no entry has its number
    pub none_found : (place : ℕ) → IsAt entries (number_of new.identifier) place → ⊥
    none_found place is =
        let it = leads_to slots entries are new.identifier _ in_range (found_leads entries are.rising (number_of new.identifier) place is) in
        let active = active_in slots _ new.identifier it in
        absurd (cc)

    module _ (place : ℕ) (gap : IsGap entries (number_of new.identifier) place) where
      abbrev entry : Entry
      entry = record { number = number_of new.identifier; slot = slot }

      none_leads : slot_with entries entry.number ≡ None
      none_leads = gap_leads entries entry.number place gap

      leads : (number : ℕ) → slot_with (insert entries place entry) number ≡ cond (nat_eq entry.number number) (Some slot) (slot_with entries number)
      leads number = more_leads entries entry place number none_leads

      -- nothing was in that slot
      unlike : (other : ℕ) (identifier : ProtocolIdentifier) → identifier_in slots other ≡ Some identifier → other ≡ slot → ⊥
      unlike other identifier is same = none-some identifier (sym (ap (option_map (λ protocol. protocol.identifier)) (subst (λ k. protocol_in slots k ≡ None) (sym same) empty)) ∙ is)

      lead_then : (number other : ℕ) → slot_with (insert entries place entry) number ≡ Some other → option_map number_of (identifier_in (set slots slot (Some new)) other) ≡ Some number
      lead_then number other is = by_test (nat_eq entry.number number) refl (sym (leads number) ∙ is)
        where
          by_test : (t : Bool) → nat_eq entry.number number ≡ t → cond t (Some slot) (slot_with entries number) ≡ Some other → option_map number_of (identifier_in (set slots slot (Some new)) other) ≡ Some number
          by_test true e same = let at : slot ≡ other = same_Some _ _ same in let equal : entry.number ≡ number = grind (arith, nat_tests) in
              subst (λ k. option_map number_of (identifier_in (set slots slot (Some new)) k) ≡ Some number) at (ap (option_map number_of) (here slots slot (Some new) there) ∙ ap Some equal)
          by_test false e same = by_held (identifier_in slots other) refl (are.lead number other same)
            where
              by_held : (held : Option ProtocolIdentifier) → identifier_in slots other ≡ held → option_map number_of held ≡ Some number → option_map number_of (identifier_in (set slots slot (Some new)) other) ≡ Some number
              by_held None h equal = absurd (none-some _ equal)
              by_held (Some identifier) h equal = ap (option_map number_of) (elsewhere slots slot (Some new) there other (unlike other identifier h) ∙ h) ∙ equal

      unchanged : (identifier : ProtocolIdentifier) (other : ℕ) → slot_with entries (number_of identifier) ≡ Some other → slot_with (insert entries place entry) (number_of identifier) ≡ Some other
      unchanged identifier other is = leads (number_of identifier) ∙ by_test (nat_eq entry.number (number_of identifier)) refl
        where
          by_test : (t : Bool) → nat_eq entry.number (number_of identifier) ≡ t → cond t (Some slot) (slot_with entries (number_of identifier)) ≡ Some other
          by_test true e = let same : entry.number ≡ number_of identifier = grind (arith, nat_tests) in absurd (none-some other (sym none_leads ∙ ap (slot_with entries) same ∙ is))
          by_test false e = is

      itself : slot_with (insert entries place entry) entry.number ≡ Some slot
      itself = let same : nat_eq entry.number entry.number ≡ true = grind (arith, nat_tests) in leads entry.number ∙ rw same refl

      pub with_one_more : AreOfSlots (set slots slot (Some new)) (insert entries place entry)
      with_one_more = record {
        all_slots = length-set slots slot (Some new) ∙ are.all_slots;
        counted = let more = count_filled slots slot new there empty in let longer = length-insert entries place entry gap.within in omega (arith, more, longer, are.counted);
        rising = more_rise entries are.rising entry place gap;
        lead = lead_then;
        in_range = each_then slots slot (Some new) there (λ other identifier. IsInRange identifier) (λ identifier same. subst IsInRange (same_Some _ _ same) in_range) (λ other identifier differs. are.in_range other identifier);
        listed = each_then slots slot (Some new) there (λ other identifier. slot_with (insert entries place entry) (number_of identifier) ≡ Some other)
            (λ identifier same. ap (λ k. slot_with (insert entries place entry) (number_of k)) (sym (same_Some _ _ same)) ∙ itself)
            (λ other identifier differs is. unchanged identifier other (are.listed other identifier is));
      }

-- the protocol in a slot is taken away
module _ (slots : List (Option Protocol)) (entries : List Entry) (are : AreOfSlots slots entries) (slot : ℕ) (old : Protocol) (within : slot < 32) (held : protocol_in slots slot ≡ Some old) where
  abbrev number_then : ℕ
  number_then = number_of old.identifier

  lies : slot < length slots
  lies = omega (arith, within, are.all_slots)

  its : identifier_in slots slot ≡ Some old.identifier
  its = ap (option_map (λ protocol. protocol.identifier)) held

  -- its entry is there
  pub some_found : (place : ℕ) → IsGap entries number_then place → ⊥
  some_found place gap = none-some slot (sym (gap_leads entries number_then place gap) ∙ are.listed slot old.identifier its)

  module _ (place : ℕ) (is_at : IsAt entries number_then place) where
    leads_fewer : (number : ℕ) → slot_with (remove entries place) number ≡ cond (nat_eq number_then number) None (slot_with entries number)
    leads_fewer number = fewer_leads entries are.rising place number is_at.within ∙ ap (λ n. cond (nat_eq n number) None (slot_with entries number)) is_at.has_number

    lead_fewer : (number other : ℕ) → slot_with (remove entries place) number ≡ Some other → option_map number_of (identifier_in (set slots slot None) other) ≡ Some number
    lead_fewer number other is = by_test (nat_eq number_then number) refl (sym (leads_fewer number) ∙ is)
      where
        by_test : (t : Bool) → nat_eq number_then number ≡ t → cond t None (slot_with entries number) ≡ Some other → option_map number_of (identifier_in (set slots slot None) other) ≡ Some number
        by_test true e same = absurd (none-some other same)
        by_test false e same = ap (option_map number_of) (elsewhere slots slot None lies other differs) ∙ are.lead number other same
          where
            differs : other ≡ slot → ⊥
            differs at = let equal = same_Some _ _ (ap (option_map number_of) (sym its) ∙ subst (λ k. option_map number_of (identifier_in slots k) ≡ Some number) at (are.lead number other same)) in grind (arith, nat_tests)

    listed_fewer : (other : ℕ) (identifier : ProtocolIdentifier) → (other ≡ slot → ⊥) → identifier_in slots other ≡ Some identifier → slot_with (remove entries place) (number_of identifier) ≡ Some other
    listed_fewer other identifier differs is = leads_fewer (number_of identifier) ∙ by_test (nat_eq number_then (number_of identifier)) refl
      where
        by_test : (t : Bool) → nat_eq number_then (number_of identifier) ≡ t → cond t None (slot_with entries (number_of identifier)) ≡ Some other
        by_test true e =
            let same : number_of identifier ≡ number_then = grind (arith, nat_tests) in
            absurd (differs (same_Some _ _ (sym (are.listed other identifier is) ∙ ap (slot_with entries) same ∙ are.listed slot old.identifier its)))
        by_test false e = are.listed other identifier is

    pub without_one : AreOfSlots (set slots slot None) (remove entries place)
    without_one = record {
      all_slots = length-set slots slot None ∙ are.all_slots;
      counted = let fewer = count_emptied slots slot old lies held in let shorter = length-remove entries place is_at.within in omega (arith, fewer, shorter, are.counted);
      rising = fewer_rise entries are.rising place is_at.within;
      lead = lead_fewer;
      in_range = each_then slots slot None lies (λ other identifier. IsInRange identifier) (λ identifier none. absurd (none-some identifier none)) (λ other identifier differs. are.in_range other identifier);
      listed = each_then slots slot None lies (λ other identifier. slot_with (remove entries place) (number_of identifier) ≡ Some other) (λ identifier none. absurd (none-some identifier none)) listed_fewer;
    }

-- a slot is given what has the identifier of what was there, or nothing where nothing was
module _ (slots : List (Option Protocol)) (entries : List Entry) (are : AreOfSlots slots entries) (slot : ℕ) (new : Option Protocol) (within : slot < 32)
    (same : identifier_in slots slot ≡ option_map (λ protocol. protocol.identifier) new) where
  lies_there : slot < length slots
  lies_there = omega (arith, within, are.all_slots)

  as_before : (other : ℕ) → identifier_in (set slots slot new) other ≡ identifier_in slots other
  as_before other = by_test (nat_eq other slot) refl
    where
      by_test : (t : Bool) → nat_eq other slot ≡ t → identifier_in (set slots slot new) other ≡ identifier_in slots other
      by_test true e = let at : other ≡ slot = grind (arith, nat_tests) in subst (λ k. identifier_in (set slots slot new) k ≡ identifier_in slots k) (sym at) (here slots slot new lies_there ∙ sym same)
      by_test false e = let differs : other ≡ slot → ⊥ = λ at. grind (arith, nat_tests) in elsewhere slots slot new lies_there other differs

  pub with_same : AreOfSlots (set slots slot new) entries
  with_same = record {
    all_slots = length-set slots slot new ∙ are.all_slots;
    counted = are.counted ∙ sym (count_same slots slot new lies_there same);
    rising = are.rising;
    lead = λ number other is. ap (option_map number_of) (as_before other) ∙ are.lead number other is;
    in_range = λ other identifier is. are.in_range other identifier (sym (as_before other) ∙ is);
    listed = λ other identifier is. are.listed other identifier (sym (as_before other) ∙ is);
  }

-- there are 32 slots, and no protocol is in two of them
pub have_slots : (slots : List (Option Protocol)) (entries : List Entry) → AreOfSlots slots entries → HaveSlots slots
have_slots slots entries are = record {
  count = are.all_slots;
  apart = λ slot other one another is also same. same_Some _ _ (sym (are.listed slot one is) ∙ ap (slot_with entries) same ∙ are.listed other another also);
}
