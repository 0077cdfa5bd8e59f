-- The slots of the protocols that are active, as the rows change.
use Rattle.std.proofs.Common.{◌≡◌, ℕ, suc, ◌+◌, ◌<◌, ◌≤◌, ◌^◌, List, [], ◌∷◌, length, set, Bool, true, false, cond, ◌||◌, nat_eq, nat_le, nat_lt, Option, Some, None, is_some, option_map, refl, sym, ◌∙◌, ap, subst, arith, length-set, get_or-set_same, get_or-set_other}
use Rattle.std.specs.Prelude.{option_and_then}
use Rattle.std.specs.Option.{option_map_or}
use Rattle.std.specs.List.{list_any}
use Rattle.std.proofs.lemmas.Bool.Decides.{nat_tests}
use Rattle.std.proofs.lemmas.Option.{none-some, same_Some}
use Rattle.std.proofs.Math.ListN.{get_or-eq_default}
use borrow.Author.Tests.{eqb-true}
use Rattle.rm_model.specs.Judgement.{count_below}
use Rattle.rm_model.specs.declared.row.State.{State}
use Rattle.rm_model.specs.declared.row.State.TheVariants.{Absent, UnderCreation, Valid}
use Rattle.rm_status.specs.declared.row.Row.{Row}
use Rattle.rm_status.specs.Rows.{row_in, IsIndexAfter}
use Rattle.rm_status.proofs.Held.{count_or, count_one}
use Rattle.rm_path.specs.declared.identifier.ProtocolIdentifier.{ProtocolIdentifier}
use Rattle.rm_path.specs.declared.protocol.Protocol.{Protocol}
use Rattle.rm_path.specs.Identifier.{number_of}
use Rattle.rm_path.specs.Slots.{protocol_in, identifier_in, is_active, AreApart, AreFull, HaveSlots, IsSlotOf, IsSlotOfFirst}
use Rattle.rm_path.proofs.SlotLemmas.{active_in, some_slot, in_its_slot}
use Rattle.rm_dir.specs.declared.row.DirectoryRow.{DirectoryRow}
use Rattle.rm_dir.specs.Active.{protocol_kept, held_protocol}
use Rattle.rm_dir.specs.DirectoryIndex.{may_have_row, number_within, of_number, row_of, row_protocol, same_protocol}
use Rattle.rm_dir.specs.Paths.{AreKnown, AreOfRows, DoStay}
use Rattle.rm_dir.proofs.Counts.{count_under}

-- what is known of a protocol is known of that one
its_own : (identifier : ProtocolIdentifier) (state : State) (columns : DirectoryRow) (protocol : Protocol) → protocol_kept identifier state columns ≡ Some protocol → protocol.identifier ≡ identifier
its_own identifier Absent columns protocol is = absurd (none-some protocol is)
its_own identifier UnderCreation columns protocol is = absurd (none-some protocol is)
its_own identifier Valid columns protocol is = sym (ap (λ one. one.identifier) (same_Some _ _ is))

pub named_so : (rows : List (Row DirectoryRow)) (identifier : ProtocolIdentifier) (protocol : Protocol) → held_protocol rows identifier ≡ Some protocol → protocol.identifier ≡ identifier
named_so rows identifier protocol is = by_test (may_have_row identifier) (row_in rows (number_of identifier)) is
  where
    by_test : (t : Bool) (o : Option (Row DirectoryRow)) → cond t (option_and_then (λ row. protocol_kept identifier row.state row.columns) o) None ≡ Some protocol → protocol.identifier ≡ identifier
    by_test false o is = absurd (none-some protocol is)
    by_test true None is = absurd (none-some protocol is)
    by_test true (Some row) is = its_own identifier row.state row.columns protocol is

-- a protocol that is active can have a row, and has one
pub has_row : (rows : List (Row DirectoryRow)) (identifier : ProtocolIdentifier) (protocol : Protocol) → held_protocol rows identifier ≡ Some protocol → (may_have_row identifier ≡ true) × (is_some (row_in rows (number_of identifier)) ≡ true)
has_row rows identifier protocol is = by_test (may_have_row identifier) (row_in rows (number_of identifier)) refl refl is
  where
    by_test : (t : Bool) (o : Option (Row DirectoryRow)) → may_have_row identifier ≡ t → row_in rows (number_of identifier) ≡ o
        → cond t (option_and_then (λ row. protocol_kept identifier row.state row.columns) o) None ≡ Some protocol → (may_have_row identifier ≡ true) × (is_some (row_in rows (number_of identifier)) ≡ true)
    by_test false o e f is = absurd (none-some protocol is)
    by_test true None e f is = absurd (none-some protocol is)
    by_test true (Some row) e f is = (e, ap is_some f)

-- what is in the slots up to one, once these were renewed
pub record AreRenewedTo (rows : List (Row DirectoryRow)) (old now : List (Option Protocol)) (slot : ℕ) : Type 0 where
  pub renewed : (k : ℕ) → protocol_in now k ≡ cond (nat_lt k slot) (option_and_then (λ held. held_protocol rows held.identifier) (protocol_in old k)) (protocol_in old k)
  pub same : length now ≡ length old
  pub count : 0 < slot → length now ≡ 32

module _ (rows : List (Row DirectoryRow)) (old : List (Option Protocol)) where
  pub none_renewed : AreRenewedTo rows old old 0
  none_renewed = record {
    renewed = λ k. let none : nat_lt k 0 ≡ false = grind (arith, nat_tests) in rw none refl;
    same = refl;
    count = λ some. absurd (omega (arith, some));
  }

  pub one_renewed : (now new : List (Option Protocol)) (slot : ℕ) → AreRenewedTo rows old now slot
      → new ≡ set now slot (option_and_then (λ held. held_protocol rows held.identifier) (protocol_in now slot)) → length new ≡ 32 → slot < 32 → AreRenewedTo rows old new (slot + 1)
  one_renewed now new slot is set_to count within = record {
    renewed = each;
    same = ap length set_to ∙ length-set now slot _ ∙ is.same;
    count = λ some. count;
  }
    where
      long : length now ≡ 32
      long = sym (length-set now slot _) ∙ sym (ap length set_to) ∙ count

      at_slot : protocol_in now slot ≡ protocol_in old slot
      at_slot = is.renewed slot ∙ (let not_yet : nat_lt slot slot ≡ false = grind (arith, nat_tests) in rw not_yet refl)

      each : (k : ℕ) → protocol_in new k ≡ cond (nat_lt k (slot + 1)) (option_and_then (λ held. held_protocol rows held.identifier) (protocol_in old k)) (protocol_in old k)
      each k = ap (λ slots. protocol_in slots k) set_to ∙ by_test (nat_eq k slot) refl
        where
          by_test : (t : Bool) → nat_eq k slot ≡ t
              → protocol_in (set now slot (option_and_then (λ held. held_protocol rows held.identifier) (protocol_in now slot))) k ≡ cond (nat_lt k (slot + 1)) (option_and_then (λ held. held_protocol rows held.identifier) (protocol_in old k)) (protocol_in old k)
          by_test true e =
              let at : k ≡ slot = eqb-true k slot e in
              let done : nat_lt k (slot + 1) ≡ true = grind (arith, nat_tests) in
              rw (done, at) (get_or-set_same now slot _ None (omega (arith, within, long)) ∙ ap (option_and_then (λ held. held_protocol rows held.identifier)) at_slot)
          by_test false e =
              let differs : k ≡ slot → ⊥ = λ same. grind (arith, nat_tests) in
              let as_before : nat_lt k (slot + 1) ≡ nat_lt k slot = below (nat_lt k slot) refl in
              get_or-set_other now slot k _ None differs ∙ is.renewed k ∙ ap (λ b. cond b (option_and_then (λ held. held_protocol rows held.identifier) (protocol_in old k)) (protocol_in old k)) (sym as_before)
            where
              below : (b : Bool) → nat_lt k slot ≡ b → nat_lt k (slot + 1) ≡ b
              below true f = grind (arith, nat_tests)
              below false f = grind (arith, nat_tests)

  pub all_renewed : (now : List (Option Protocol)) → AreRenewedTo rows old now 32 → (k : ℕ) → protocol_in now k ≡ option_and_then (λ held. held_protocol rows held.identifier) (protocol_in old k)
  all_renewed now is k = by_test (nat_lt k 32) refl
    where
      by_test : (t : Bool) → nat_lt k 32 ≡ t → protocol_in now k ≡ option_and_then (λ held. held_protocol rows held.identifier) (protocol_in old k)
      by_test true e = is.renewed k ∙ rw e refl
      by_test false e =
          let long = is.count (omega arith) in
          let above : 32 ≤ k = grind (arith, nat_tests) in
          let none_now : protocol_in now k ≡ None = get_or-eq_default now None (omega (arith, above, long)) in
          let none_old : protocol_in old k ≡ None = get_or-eq_default old None (omega (arith, above, long, is.same)) in
          none_now ∙ sym (ap (option_and_then (λ held. held_protocol rows held.identifier)) none_old)

-- whether some slot has the protocol with a number
abbrev is_number : ℕ → Option Protocol → Bool
is_number n held = option_map_or (λ protocol. nat_eq (number_of protocol.identifier) n) held false

abbrev has_number : List (Option Protocol) → ℕ → Bool
has_number slots n = list_any (is_number n) slots

found_it : (slots : List (Option Protocol)) (n : ℕ) → has_number slots n ≡ true → (slot : ℕ) × (protocol : Protocol) × (protocol_in slots slot ≡ Some protocol) × (number_of protocol.identifier ≡ n)
found_it [] n is = absurd (cc)
found_it (first ∷ slots) n is = by_first first refl is (found_it slots n)
  where
    by_first : (held : Option Protocol) → first ≡ held → (is_number n held || has_number slots n) ≡ true
        → (has_number slots n ≡ true → (slot : ℕ) × (protocol : Protocol) × (protocol_in slots slot ≡ Some protocol) × (number_of protocol.identifier ≡ n))
        → (slot : ℕ) × (protocol : Protocol) × (protocol_in (first ∷ slots) slot ≡ Some protocol) × (number_of protocol.identifier ≡ n)
    by_first None e is rest = let it = rest is in (suc it.0, it.1, it.2, it.3)
    by_first (Some protocol) e is rest = by_test (nat_eq (number_of protocol.identifier) n) refl is
      where
        by_test : (t : Bool) → nat_eq (number_of protocol.identifier) n ≡ t → (t || has_number slots n) ≡ true → (slot : ℕ) × (protocol : Protocol) × (protocol_in (first ∷ slots) slot ≡ Some protocol) × (number_of protocol.identifier ≡ n)
        by_test true named is = (0, protocol, e, eqb-true _ n named)
        by_test false other is = let it = rest is in (suc it.0, it.1, it.2, it.3)

-- as many numbers are those of protocols in slots as there are slots, where each has one and no two are the same
counted : (slots : List (Option Protocol)) (bound : ℕ) → ((slot : ℕ) → slot < length slots → is_some (protocol_in slots slot) ≡ true) → AreApart slots
    → ((slot : ℕ) (protocol : Protocol) → protocol_in slots slot ≡ Some protocol → number_of protocol.identifier < bound) → length slots ≤ count_below (has_number slots) bound
counted [] bound full apart low = omega arith
counted (first ∷ slots) bound full apart low =
    by_first first refl
    (counted slots bound (λ slot within. full (suc slot) (omega arith)) (λ slot other one another is also same. let it = apart (suc slot) (suc other) one another is also same in omega (arith, it)) (λ slot protocol is. low (suc slot) protocol is))
  where
    by_first : (held : Option Protocol) → first ≡ held → length slots ≤ count_below (has_number slots) bound → length (first ∷ slots) ≤ count_below (has_number (first ∷ slots)) bound
    by_first None e rest = absurd (let some : is_some first ≡ true = full 0 (omega arith) in let none : is_some first ≡ false = ap is_some e in cc)
    by_first (Some protocol) e rest =
        let one = count_one (number_of protocol.identifier) bound (low 0 protocol e) in
        let both = count_or (λ n. nat_eq (number_of protocol.identifier) n) (has_number slots) bound not_again in
        let as_said : count_below (has_number (first ∷ slots)) bound ≡ count_below (λ n. nat_eq (number_of protocol.identifier) n || has_number slots n) bound = ap (λ held. count_below (λ n. is_number n held || has_number slots n) bound) e in
        omega (arith, one, both, as_said, rest)
      where
        not_again : (n : ℕ) → nat_eq (number_of protocol.identifier) n ≡ true → has_number slots n ≡ false
        not_again n named = by_test (has_number slots n) refl
          where
            by_test : (t : Bool) → has_number slots n ≡ t → has_number slots n ≡ false
            by_test false f = f
            by_test true f =
                let it = found_it slots n f in
                let is : number_of protocol.identifier ≡ n = eqb-true _ n named in
                let same = apart 0 (suc it.0) protocol.identifier it.1.identifier (ap (option_map (λ one. one.identifier)) e) (ap (option_map (λ one. one.identifier)) it.2) (is ∙ sym it.3) in
                absurd (omega (arith, same))

module _ (rows : List (Row DirectoryRow)) (slots : List (Option Protocol)) (known : AreKnown rows slots) where
  low_number : (slot : ℕ) (protocol : Protocol) → protocol_in slots slot ≡ Some protocol → number_of protocol.identifier < 2 ^ 32
  low_number slot protocol is =
      let may = (has_row rows protocol.identifier protocol (known slot protocol is)).0 in
      let bound = number_within protocol.identifier may in
      omega (arith, bound.1)

  -- Where each slot has a protocol, no other one is active: there are no more rows than slots.
  module _ (have : HaveSlots slots) (few : length rows ≤ 32) (are_counted : length rows ≡ count_below (λ row. is_some (row_in rows row)) (2 ^ 32)) (identifier : ProtocolIdentifier) (protocol : Protocol)
      (active : held_protocol rows identifier ≡ Some protocol) (absent : is_active slots identifier ≡ false) where
    not_there : has_number slots (number_of identifier) ≡ false
    not_there = by_test (has_number slots (number_of identifier)) refl
      where
        by_test : (t : Bool) → has_number slots (number_of identifier) ≡ t → has_number slots (number_of identifier) ≡ false
        by_test false e = e
        by_test true e =
            let it = found_it slots (number_of identifier) e in
            let may = (has_row rows identifier protocol active).0 in
            let other = (has_row rows it.1.identifier it.1 (known it.0 it.1 it.2)).0 in
            let same : it.1.identifier ≡ identifier = same_protocol it.1.identifier identifier other may it.3 in
            let is = active_in slots it.0 identifier (ap (option_map (λ one. one.identifier)) it.2 ∙ ap Some same) in
            absurd (cc)

    in_rows : (n : ℕ) → (nat_eq (number_of identifier) n || has_number slots n) ≡ true → is_some (row_in rows n) ≡ true
    in_rows n is = by_test (nat_eq (number_of identifier) n) refl is
      where
        by_test : (t : Bool) → nat_eq (number_of identifier) n ≡ t → (t || has_number slots n) ≡ true → is_some (row_in rows n) ≡ true
        by_test true e so = subst (λ k. is_some (row_in rows k) ≡ true) (eqb-true _ n e) (has_row rows identifier protocol active).1
        by_test false e so = let it = found_it slots n so in subst (λ k. is_some (row_in rows k) ≡ true) it.3 (has_row rows it.1.identifier it.1 (known it.0 it.1 it.2)).1

    pub some_free : AreFull slots → ⊥
    some_free full =
        let all = counted slots (2 ^ 32) (λ slot within. full slot (omega (arith, within, have.count))) have.apart low_number in
        let one = count_one (number_of identifier) (2 ^ 32) (omega (arith, (number_within identifier (has_row rows identifier protocol active).0).1)) in
        let both = count_or (λ n. nat_eq (number_of identifier) n) (has_number slots) (2 ^ 32) (λ n named. subst (λ k. has_number slots k ≡ false) (eqb-true _ n named) not_there) in
        let fewer = count_under (λ n. nat_eq (number_of identifier) n || has_number slots n) (λ n. is_some (row_in rows n)) (2 ^ 32) in_rows in
        omega (arith, all, one, both, fewer, few, are_counted, have.count)

-- what is found of the protocol of a row
module _ (rows : List (Row DirectoryRow)) (number : ℕ) (found : Protocol) (is : option_and_then (held_protocol rows) (row_protocol number) ≡ Some found) where
  pub found_held : held_protocol rows found.identifier ≡ Some found
  found_held = by_row (row_protocol number) is
    where
      by_row : (o : Option ProtocolIdentifier) → option_and_then (held_protocol rows) o ≡ Some found → held_protocol rows found.identifier ≡ Some found
      by_row None none = absurd (none-some found none)
      by_row (Some identifier) held = ap (held_protocol rows) (named_so rows identifier found held) ∙ held

  -- it is of each protocol with that number that is active
  pub found_named : (identifier : ProtocolIdentifier) (protocol : Protocol) → number_of identifier ≡ number → held_protocol rows identifier ≡ Some protocol → found.identifier ≡ identifier
  found_named identifier protocol same active =
      let may = (has_row rows identifier protocol active).0 in
      let at : row_protocol number ≡ Some identifier = ap row_protocol (sym same) ∙ rw (row_of identifier may, of_number identifier may) refl in
      named_so rows identifier found (sym (ap (option_and_then (held_protocol rows)) at) ∙ is)

  -- it is put into a slot
  pub known_then : (slots : List (Option Protocol)) (slot : ℕ) → AreKnown rows slots → slot < length slots → AreKnown rows (set slots slot (Some found))
  known_then slots slot known within other protocol here = by_test (nat_eq other slot) refl
    where
      by_test : (t : Bool) → nat_eq other slot ≡ t → held_protocol rows protocol.identifier ≡ Some protocol
      by_test true e =
          let at : other ≡ slot = eqb-true other slot e in
          let same : found ≡ protocol = same_Some _ _ (sym (get_or-set_same slots slot (Some found) None within) ∙ subst (λ k. protocol_in (set slots slot (Some found)) k ≡ Some protocol) at here) in
          subst (λ (one : Protocol). held_protocol rows one.identifier ≡ Some one) same found_held
      by_test false e = let differs : other ≡ slot → ⊥ = λ same. grind (arith, nat_tests) in known other protocol (sym (get_or-set_other slots slot other (Some found) None differs) ∙ here)

  pub active_then : (slots : List (Option Protocol)) (slot : ℕ) → slot < length slots → is_active (set slots slot (Some found)) found.identifier ≡ true
  active_then slots slot within = active_in (set slots slot (Some found)) slot found.identifier (ap (option_map (λ one. one.identifier)) (get_or-set_same slots slot (Some found) None within))

-- a protocol of which no slot is told isn't active
pub not_active : (slots : List (Option Protocol)) (identifier : ProtocolIdentifier) (slot : Option ℕ) → IsSlotOfFirst slots (identifier ∷ []) slot → is_some slot ≡ false → is_active slots identifier ≡ false
not_active slots identifier slot is none = by_test (is_active slots identifier) slot refl is none
  where
    by_test : (t : Bool) (told : Option ℕ) → is_active slots identifier ≡ t → IsSlotOf slots (cond t (Some identifier) None) told → is_some told ≡ false → is_active slots identifier ≡ false
    by_test false told e is none = e
    by_test true None e is none = absurd is
    by_test true (Some k) e is none = absurd (cc)

-- what is in the slots, once the protocols of the rows up to one were put in
pub record ArePutInTo (rows : List (Row DirectoryRow)) (old now : List (Option Protocol)) (at : ℕ) : Type 0 where
  pub known : AreKnown rows now
  pub stay : (slot : ℕ) (protocol : Protocol) → protocol_in old slot ≡ Some protocol → protocol_in now slot ≡ Some protocol
  pub each : (identifier : ProtocolIdentifier) (protocol : Protocol) → number_of identifier ≤ at → held_protocol rows identifier ≡ Some protocol → is_active now identifier ≡ true
  pub within : at < 2 ^ 32

module _ (rows : List (Row DirectoryRow)) (old : List (Option Protocol)) where
  pub none_put_in : AreKnown rows old → ArePutInTo rows old old 0
  none_put_in known = record {
    known = known;
    stay = λ slot protocol is. is;
    each = λ identifier protocol low active. absurd (omega (arith, low, (number_within identifier (has_row rows identifier protocol active).0).0));
    within = omega arith;
  }

  module _ (now : List (Option Protocol)) (at : ℕ) (is : ArePutInTo rows old now at) where
    -- a protocol that is in a slot is active while it stays there
    stays_active : (new : List (Option Protocol)) → ((slot : ℕ) (protocol : Protocol) → protocol_in now slot ≡ Some protocol → protocol_in new slot ≡ Some protocol)
        → (identifier : ProtocolIdentifier) → is_active now identifier ≡ true → is_active new identifier ≡ true
    stays_active new stay identifier active =
        let slot = some_slot now identifier active in
        let it = in_its_slot now slot.0 identifier slot.1 in
        active_in new slot.0 identifier (ap (option_map (λ one. one.identifier)) (stay slot.0 it.0 it.1) ∙ ap Some it.2)

    pub one_put_in : (new : List (Option Protocol)) (number : ℕ) → IsIndexAfter rows at (Some number) → number < 2 ^ 32 → AreKnown rows new
        → ((slot : ℕ) (protocol : Protocol) → protocol_in now slot ≡ Some protocol → protocol_in new slot ≡ Some protocol)
        → ((identifier : ProtocolIdentifier) (protocol : Protocol) → number_of identifier ≡ number → held_protocol rows identifier ≡ Some protocol → is_active new identifier ≡ true)
        → ArePutInTo rows old new number
    one_put_in new number least low known stay active = record {
      known = known;
      stay = λ slot protocol here. stay slot protocol (is.stay slot protocol here);
      each = each;
      within = low;
    }
      where
        each : (identifier : ProtocolIdentifier) (protocol : Protocol) → number_of identifier ≤ number → held_protocol rows identifier ≡ Some protocol → is_active new identifier ≡ true
        each identifier protocol under held = by_last (nat_eq (number_of identifier) number) refl
          where
            by_last : (t : Bool) → nat_eq (number_of identifier) number ≡ t → is_active new identifier ≡ true
            by_last true e = active identifier protocol (eqb-true _ number e) held
            by_last false e = by_before (nat_le (number_of identifier) at) refl
              where
                by_before : (t : Bool) → nat_le (number_of identifier) at ≡ t → is_active new identifier ≡ true
                by_before true f = stays_active new stay identifier (is.each identifier protocol (grind (arith, nat_tests)) held)
                by_before false f =
                    let none = least.2 (number_of identifier) (grind (arith, nat_tests)) (grind (arith, nat_tests)) in
                    let some = (has_row rows identifier protocol held).1 in
                    absurd (cc)

    pub all_put_in : IsIndexAfter rows at None → AreOfRows rows now
    all_put_in none = record { known = is.known; each = each }
      where
        each : (identifier : ProtocolIdentifier) (protocol : Protocol) → held_protocol rows identifier ≡ Some protocol → is_active now identifier ≡ true
        each identifier protocol held = by_before (nat_le (number_of identifier) at) refl
          where
            by_before : (t : Bool) → nat_le (number_of identifier) at ≡ t → is_active now identifier ≡ true
            by_before true f = is.each identifier protocol (grind (arith, nat_tests)) held
            by_before false f =
                let nothing = none (number_of identifier) (grind (arith, nat_tests)) in
                let some = (has_row rows identifier protocol held).1 in
                absurd (cc)

-- what is in the slots once all were renewed is known, and what stays active stays in its slot
module _ (rows : List (Row DirectoryRow)) (old now : List (Option Protocol)) (renewed : (slot : ℕ) → protocol_in now slot ≡ option_and_then (λ held. held_protocol rows held.identifier) (protocol_in old slot)) where
  pub known_renewed : AreKnown rows now
  known_renewed slot protocol is = by_held (protocol_in old slot) (sym (renewed slot) ∙ is)
    where
      by_held : (held : Option Protocol) → option_and_then (λ held. held_protocol rows held.identifier) held ≡ Some protocol → held_protocol rows protocol.identifier ≡ Some protocol
      by_held None none = absurd (none-some protocol none)
      by_held (Some held) same = ap (held_protocol rows) (named_so rows held.identifier protocol same) ∙ same

  pub do_stay : (new : List (Option Protocol)) → ((slot : ℕ) (protocol : Protocol) → protocol_in now slot ≡ Some protocol → protocol_in new slot ≡ Some protocol) → DoStay rows old new
  do_stay new stay slot identifier here active = by_held (protocol_in old slot) refl here
    where
      by_known : (held : Option Protocol) → protocol_in now slot ≡ held_protocol rows identifier → held_protocol rows identifier ≡ held → is_some held ≡ true → identifier_in new slot ≡ Some identifier
      by_known None e f none = absurd (cc)
      by_known (Some protocol) e f some = ap (option_map (λ one. one.identifier)) (stay slot protocol (e ∙ f)) ∙ ap Some (named_so rows identifier protocol f)

      by_held : (held : Option Protocol) → protocol_in old slot ≡ held → option_map (λ one. one.identifier) held ≡ Some identifier → identifier_in new slot ≡ Some identifier
      by_held None e none = absurd (none-some identifier none)
      by_held (Some held) e same =
          by_known (held_protocol rows identifier) (renewed slot ∙ ap (option_and_then (λ held. held_protocol rows held.identifier)) e ∙ ap (held_protocol rows) (same_Some _ _ same)) refl active
