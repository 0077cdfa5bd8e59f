-- No two rows have the same local index.
use Rattle.std.proofs.Common.{◌≡◌, ℕ, ◌+◌, ◌<◌, ◌≤◌, ◌^◌, List, [], ◌∷◌, length, Bool, true, false, cond, not, ◌&&◌, nat_lt, Option, Some, None, is_some, find, refl, sym, ap, subst, ◌∙◌, arith}
use Rattle.std.specs.Prelude.{unwrap_or}
use Rattle.std.specs.List.{position_from}
use Rattle.std.specs.Option.{option_map_or}
use Rattle.std.proofs.lemmas.Bool.Decides.{nat_tests}
use Rattle.std.proofs.lemmas.Option.{none-some, same_Some}
use Rattle.rm_model.specs.Journal.{Act, Journal}
use Rattle.rm_model.specs.ControlRows.{is_absent, is_valid}
use Rattle.rm_model.specs.declared.row.State.{State}
use Rattle.rm_model.specs.declared.row.State.TheVariants.{Absent, UnderCreation, Valid}
use Rattle.rm_path.specs.declared.identifier.ProtocolIdentifier.{ProtocolIdentifier}
use Rattle.rm_path.specs.declared.protocol.Protocol.{Protocol}
use Rattle.rm_path.specs.Identifier.{number_of, is_same}
use Rattle.rm_path.specs.Slots.{protocol_in, identifier_in}
use Rattle.rm_path.proofs.Identifiers.{same_is}
use Rattle.rm_path.proofs.SlotLemmas.{in_its_slot}
use Rattle.rm_dir.specs.Active.{HaveOwnLocals, active_protocol, is_on}
use Rattle.rm_dir.specs.BuiltIn.{BuiltIn, built_in_rows, built_in_local, is_built_in}
use Rattle.rm_dir.specs.DirectoryIndex.{directory_index, index_with, may_have_row, number_within, of_number, row_of, protocol_is, protocol_of, row_protocol, same_protocol}
use Rattle.rm_dir.specs.LocalIndexes.{makes, count_made_below, greatest_given, local_index}
use Rattle.rm_dir.specs.Paths.{AreActiveAfter}
use Rattle.rm_dir.specs.ProtocolDir.{directory_state}
use Rattle.rm_dir.proofs.Counts.{count_next, count_within}

-- whether the row of a protocol is there
abbrev pub has : Journal → ProtocolIdentifier → Bool
has journal identifier = not (is_absent (directory_state journal (index_with identifier)))

-- its local index
abbrev pub local_of : Journal → ProtocolIdentifier → ℕ
local_of journal identifier = local_index journal (index_with identifier)

-- a protocol that is active can have a row, has one, and has its local index
pub active_has : (journal : Journal) (identifier : ProtocolIdentifier) (known : Protocol) → active_protocol journal identifier ≡ Some known
    → (may_have_row identifier ≡ true) × (has journal identifier ≡ true) × (known.local ≡ local_of journal identifier)
active_has journal identifier known is = by_test (may_have_row identifier) (directory_state journal (index_with identifier)) refl refl is
  where
    by_test : (t : Bool) (state : State) → may_have_row identifier ≡ t → directory_state journal (index_with identifier) ≡ state
        → cond (t && is_valid state) (Some (record { identifier = identifier; local = local_of journal identifier; host = is_on journal (index_with identifier) 7; matrix = is_on journal (index_with identifier) 8 })) None ≡ Some known
        → (may_have_row identifier ≡ true) × (has journal identifier ≡ true) × (known.local ≡ local_of journal identifier)
    by_test false state e f none = absurd (none-some known none)
    by_test true Absent e f none = absurd (none-some known none)
    by_test true UnderCreation e f none = absurd (none-some known none)
    by_test true Valid e f some = (e, ap (λ s. not (is_absent s)) f, sym (ap (λ one. one.local) (same_Some _ _ some)))

pub active_local : (journal : Journal) (identifier : ProtocolIdentifier) (known : Protocol) → active_protocol journal identifier ≡ Some known → known.local ≡ local_of journal identifier
active_local journal identifier known is = (active_has journal identifier known is).2

-- in the slot of a protocol that is active is what is known of it, with its local index
pub held_is : (journal : Journal) (slots : List (Option Protocol)) → AreActiveAfter journal slots → (slot : ℕ) (identifier : ProtocolIdentifier) → identifier_in slots slot ≡ Some identifier
    → (protocol : Protocol) × (protocol_in slots slot ≡ Some protocol) × (protocol.identifier ≡ identifier) × (protocol.local ≡ local_of journal identifier)
held_is journal slots are slot identifier here =
    let it = in_its_slot slots slot identifier here in
    (it.0, it.1, it.2, active_local journal it.0.identifier it.0 (are.known slot it.0 it.1) ∙ ap (local_of journal) it.2)

-- the protocol of the index of a protocol that can have a row
pub own_protocol : (identifier : ProtocolIdentifier) → may_have_row identifier ≡ true → protocol_of (index_with identifier) ≡ Some identifier
own_protocol identifier may =
    let index_is : directory_index (number_of identifier) ≡ index_with identifier = rw (row_of identifier may, of_number identifier may) refl in
    let row_is : row_protocol (number_of identifier) ≡ Some identifier = rw (row_of identifier may, of_number identifier may) refl in
    sym (ap protocol_of index_is) ∙ protocol_is (number_of identifier) ∙ row_is

-- the place of a protocol among rows, from a number on
abbrev place_in : List BuiltIn → ℕ → ProtocolIdentifier → ℕ
place_in rows from identifier = unwrap_or (position_from (λ row. is_same row.protocol identifier) from rows) 0

abbrev is_among : List BuiltIn → ProtocolIdentifier → Bool
is_among rows identifier = is_some (find (λ row. is_same row.protocol identifier) rows)

place_within : (rows : List BuiltIn) (from : ℕ) (identifier : ProtocolIdentifier) → is_among rows identifier ≡ true → (from ≤ place_in rows from identifier) × (place_in rows from identifier < from + length rows)
place_within [] from identifier is = absurd (cc)
place_within (row ∷ rows) from identifier is = by_test (is_same row.protocol identifier) is (place_within rows (from + 1) identifier)
  where
    by_test : (t : Bool) → is_some (cond t (Some row) (find (λ row. is_same row.protocol identifier) rows)) ≡ true
        → (is_among rows identifier ≡ true → (from + 1 ≤ place_in rows (from + 1) identifier) × (place_in rows (from + 1) identifier < (from + 1) + length rows))
        → (from ≤ unwrap_or (cond t (Some from) (position_from (λ row. is_same row.protocol identifier) (from + 1) rows)) 0)
        × (unwrap_or (cond t (Some from) (position_from (λ row. is_same row.protocol identifier) (from + 1) rows)) 0 < from + length (row ∷ rows))
    by_test true some rest = (omega arith, omega arith)
    by_test false some rest = let it = rest some in (omega (arith, it.0), omega (arith, it.1))

-- no two have one place
places_apart : (rows : List BuiltIn) (from : ℕ) (one other : ProtocolIdentifier) → is_among rows one ≡ true → is_among rows other ≡ true → place_in rows from one ≡ place_in rows from other → one ≡ other
places_apart [] from one other first second same = absurd (cc)
places_apart (row ∷ rows) from one other first second same =
    by_tests (is_same row.protocol one) (is_same row.protocol other) refl refl first second same (place_within rows (from + 1) one) (place_within rows (from + 1) other) (places_apart rows (from + 1) one other)
  where
    by_tests : (s t : Bool) → is_same row.protocol one ≡ s → is_same row.protocol other ≡ t
        → is_some (cond s (Some row) (find (λ row. is_same row.protocol one) rows)) ≡ true → is_some (cond t (Some row) (find (λ row. is_same row.protocol other) rows)) ≡ true
        → unwrap_or (cond s (Some from) (position_from (λ row. is_same row.protocol one) (from + 1) rows)) 0 ≡ unwrap_or (cond t (Some from) (position_from (λ row. is_same row.protocol other) (from + 1) rows)) 0
        → (is_among rows one ≡ true → (from + 1 ≤ place_in rows (from + 1) one) × (place_in rows (from + 1) one < (from + 1) + length rows))
        → (is_among rows other ≡ true → (from + 1 ≤ place_in rows (from + 1) other) × (place_in rows (from + 1) other < (from + 1) + length rows))
        → (is_among rows one ≡ true → is_among rows other ≡ true → place_in rows (from + 1) one ≡ place_in rows (from + 1) other → one ≡ other) → one ≡ other
    by_tests true true e f some also equal of_one of_other rest = sym (same_is row.protocol one e) ∙ same_is row.protocol other f
    by_tests true false e f some also equal of_one of_other rest = absurd (let above = (of_other also).0 in omega (arith, equal, above))
    by_tests false true e f some also equal of_one of_other rest = absurd (let above = (of_one some).0 in omega (arith, equal, above))
    by_tests false false e f some also equal of_one of_other rest = rest some also equal

-- the row of a protocol that is there from the beginning is one of those
pub there_first : (identifier : ProtocolIdentifier) → may_have_row identifier ≡ true → has [] identifier ≡ true → is_built_in identifier ≡ true
there_first identifier may is = there_is (is_built_in identifier) (subst (λ o. not (is_absent (cond (option_map_or is_built_in o false) Valid Absent)) ≡ true) (own_protocol identifier may) is)
  where
    there_is : (b : Bool) → not (is_absent (cond b Valid Absent)) ≡ true → b ≡ true
    there_is true e = refl
    there_is false e = absurd (cc)

local_first : (identifier : ProtocolIdentifier) → may_have_row identifier ≡ true → local_of [] identifier ≡ built_in_local identifier
local_first identifier may = ap (λ o. option_map_or built_in_local o 0) (own_protocol identifier may)

-- an act, and the rows of two protocols after it
module _ (act : Act) (earlier : Journal) where
  abbrev made : ProtocolIdentifier → Bool
  made identifier = makes act earlier (index_with identifier)

  -- how many of the rows that it makes are of protocols with lower numbers
  abbrev below : ProtocolIdentifier → ℕ
  below identifier = count_made_below act earlier (number_of identifier)

  local_made : (identifier : ProtocolIdentifier) → may_have_row identifier ≡ true → made identifier ≡ true → local_of (act ∷ earlier) identifier ≡ greatest_given earlier + 1 + below identifier
  local_made identifier may is = rw is (ap (λ o. greatest_given earlier + 1 + count_made_below act earlier (option_map_or number_of o 0)) (own_protocol identifier may))

  local_kept : (identifier : ProtocolIdentifier) → made identifier ≡ false → local_of (act ∷ earlier) identifier ≡ local_of earlier identifier
  local_kept identifier is = rw is refl

  -- a row that wasn't made was there before
  was_there : (identifier : ProtocolIdentifier) → made identifier ≡ false → has (act ∷ earlier) identifier ≡ true → has earlier identifier ≡ true
  was_there identifier is there = by_states (is_absent (directory_state earlier (index_with identifier))) (is_absent (directory_state (act ∷ earlier) (index_with identifier))) is there
    where
      by_states : (a b : Bool) → (a && not b) ≡ false → not b ≡ true → not a ≡ true
      by_states true true none some = absurd (cc)
      by_states true false none some = absurd (cc)
      by_states false b none some = refl

  -- one more is below the next number
  one_below : (identifier : ProtocolIdentifier) → may_have_row identifier ≡ true → made identifier ≡ true → count_made_below act earlier (number_of identifier + 1) ≡ below identifier + 1
  one_below identifier may is =
      let next = count_next (λ row. makes act earlier (directory_index row)) (number_of identifier) in
      let index_is : directory_index (number_of identifier) ≡ index_with identifier = rw (row_of identifier may, of_number identifier may) refl in
      let here : ◌≡◌ {A = ℕ} (cond (makes act earlier (directory_index (number_of identifier))) 1 0) 1 = ap (λ (index : List ℕ). cond (makes act earlier index) 1 0) index_is ∙ ap (λ b. cond b 1 0) is in
      omega (arith, next, here)

  made_within : (identifier : ProtocolIdentifier) → may_have_row identifier ≡ true → made identifier ≡ true → below identifier + 1 ≤ count_made_below act earlier (2 ^ 32)
  made_within identifier may is =
      let one = one_below identifier may is in
      let few = count_within (λ row. makes act earlier (directory_index row)) (number_of identifier + 1) (2 ^ 32) (omega (arith, (number_within identifier may).1)) in
      omega (arith, one, few)

  -- those made have local indexes in the order of their numbers
  made_rise : (one other : ProtocolIdentifier) → may_have_row one ≡ true → may_have_row other ≡ true → made one ≡ true → number_of one < number_of other → below one < below other
  made_rise one other may also is less =
      let next = one_below one may is in
      let few = count_within (λ row. makes act earlier (directory_index row)) (number_of one + 1) (number_of other) (omega (arith, less)) in
      omega (arith, next, few)

  same_made : (one other : ProtocolIdentifier) → may_have_row one ≡ true → may_have_row other ≡ true → made one ≡ true → made other ≡ true → below one ≡ below other → one ≡ other
  same_made one other may also is too equal = by_less (nat_lt (number_of one) (number_of other)) refl
    where
      by_less : (t : Bool) → nat_lt (number_of one) (number_of other) ≡ t → one ≡ other
      by_less true e = absurd (let rises = made_rise one other may also is (grind (arith, nat_tests)) in omega (arith, rises, equal))
      by_less false e = by_more (nat_lt (number_of other) (number_of one)) refl
        where
          by_more : (t : Bool) → nat_lt (number_of other) (number_of one) ≡ t → one ≡ other
          by_more true f = absurd (let rises = made_rise other one also may too (grind (arith, nat_tests)) in omega (arith, rises, equal))
          by_more false f = same_protocol one other may also (grind (arith, nat_tests))

-- the local index of a row was given
pub local_given : (journal : Journal) (identifier : ProtocolIdentifier) → may_have_row identifier ≡ true → has journal identifier ≡ true → local_of journal identifier ≤ greatest_given journal
local_given [] identifier may there =
    let bound = (place_within built_in_rows 1 identifier (there_first identifier may there)).1 in
    let is = local_first identifier may in
    omega (arith, bound, is)
local_given (act ∷ earlier) identifier may there = by_made (made act earlier identifier) refl (local_given earlier identifier may)
  where
    by_made : (t : Bool) → made act earlier identifier ≡ t → (has earlier identifier ≡ true → local_of earlier identifier ≤ greatest_given earlier) → local_of (act ∷ earlier) identifier ≤ greatest_given (act ∷ earlier)
    by_made true e rest = let is = local_made act earlier identifier may e in let few = made_within act earlier identifier may e in omega (arith, is, few)
    by_made false e rest = let is = local_kept act earlier identifier e in let few = rest (was_there act earlier identifier e there) in omega (arith, is, few)

-- no two rows have the same local index
pub locals_apart : (journal : Journal) (one other : ProtocolIdentifier) → may_have_row one ≡ true → may_have_row other ≡ true → has journal one ≡ true → has journal other ≡ true
    → local_of journal one ≡ local_of journal other → one ≡ other
locals_apart [] one other may also there too same =
    places_apart built_in_rows 1 one other (there_first one may there) (there_first other also too) (sym (local_first one may) ∙ same ∙ local_first other also)
locals_apart (act ∷ earlier) one other may also there too same = by_made (made act earlier one) (made act earlier other) refl refl (locals_apart earlier one other may also)
  where
    new_above : (new old : ProtocolIdentifier) → may_have_row new ≡ true → may_have_row old ≡ true → made act earlier new ≡ true → made act earlier old ≡ false → has (act ∷ earlier) old ≡ true
        → local_of (act ∷ earlier) new ≡ local_of (act ∷ earlier) old → ⊥
    new_above new old may_new may_old e f there_old equal =
        let above = local_made act earlier new may_new e in
        let kept = local_kept act earlier old f in
        let given = local_given earlier old may_old (was_there act earlier old f there_old) in
        omega (arith, above, kept, given, equal)

    by_made : (s t : Bool) → made act earlier one ≡ s → made act earlier other ≡ t → (has earlier one ≡ true → has earlier other ≡ true → local_of earlier one ≡ local_of earlier other → one ≡ other) → one ≡ other
    by_made true true e f rest =
        let of_one = local_made act earlier one may e in
        let of_other = local_made act earlier other also f in
        same_made act earlier one other may also e f (omega (arith, of_one, of_other, same))
    by_made true false e f rest = absurd (new_above one other may also e f too same)
    by_made false true e f rest = absurd (new_above other one also may f e there (sym same))
    by_made false false e f rest =
        rest (was_there act earlier one e there) (was_there act earlier other f too) (sym (local_kept act earlier one e) ∙ same ∙ local_kept act earlier other f)

pub own_locals : (journal : Journal) → HaveOwnLocals journal
own_locals journal one other known also is too same =
    let first = active_has journal one known is in
    let second = active_has journal other also too in
    locals_apart journal one other first.0 second.0 first.1 second.1 (sym first.2 ∙ same ∙ second.2)
