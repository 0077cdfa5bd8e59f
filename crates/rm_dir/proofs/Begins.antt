-- The rows before the first act.
use Rattle.std.proofs.Common.{◌≡◌, ℕ, ◌≤◌, ◌<◌, List, [], ◌∷◌, length, Bool, true, false, cond, not, ◌&&◌, nat_eq, nat_le, nat_lt, Option, Some, None, option_map, find, refl, sym, ap, ◌∙◌, subst, arith}
use Rattle.std.specs.Prelude.{is_some, codes}
use Rattle.std.specs.Option.{option_and_then, option_map_or}
use Rattle.std.specs.Str.{bytes_eq}
use Rattle.std.proofs.lemmas.Bool.Decides.{nat_tests}
use Rattle.std.proofs.lemmas.Option.{none-some, same_Some}
use borrow.Author.Tests.{eqb-true}
use Rattle.rm_val.specs.Val.{Val, octets}
use Rattle.rm_model.specs.Alike.{HasSameColumns}
use Rattle.rm_model.specs.ControlRows.{is_absent}
use Rattle.rm_model.specs.declared.row.State.TheVariants.{Absent, Valid}
use Rattle.rm_status.specs.declared.row.Row.{Row}
use Rattle.rm_status.specs.Rows.{row_in, state_seen, columns_seen, state_in}
use Rattle.rm_status.specs.RowsAfter.{is_numbered, AreRowsAfter}
use Rattle.rm_status.proofs.RowsBefore.{state_before, set_before_at}
use Rattle.rm_path.specs.declared.identifier.ProtocolIdentifier.{ProtocolIdentifier}
use Rattle.rm_path.specs.Identifier.{number_of, identified, is_same}
use Rattle.rm_path.proofs.Identifiers.{same_is, is_itself}
use Rattle.rm_dir.specs.declared.row.DirectoryRow.{DirectoryRow}
use Rattle.rm_dir.specs.Support.{support_number}
use Rattle.rm_dir.specs.BuiltIn.{BuiltIn, built_in_rows, built_in, is_built_in, is_countable, built_in_local}
use Rattle.rm_dir.specs.DirectoryIndex.{directory_index, is_directory_row, indexed, index_with, may_have_row, row_protocol, protocol_of, protocol_is, row_of, same_protocol}
use Rattle.rm_dir.specs.DirectoryIndex as index
use Rattle.rm_dir.specs.DirectoryRows.{set_to}
use Rattle.rm_dir.specs.ProtocolDir.{protocol_dir, directory_beginning, built_in_set, first_config}
use Rattle.rm_dir.specs.FirstRows.{columns_of, held_row, first_in, are_sound}
use Rattle.rm_dir.specs.LocalIndexes.{local_index}
use Rattle.rm_dir.specs.Kept.{AreNumbered, AreNoted}
use Rattle.rm_dir.specs.Group.{AreLocal}

both : (a b : Bool) → (a && b) ≡ true → (a ≡ true) × (b ≡ true)
both true b is = (refl, is)
both false b is = absurd (cc)

itself : (n : ℕ) → nat_eq n n ≡ true
itself n = grind (arith, nat_tests)

-- protocols that can have a row are the same where their numbers are
same_test : (one other : ProtocolIdentifier) → may_have_row one ≡ true → may_have_row other ≡ true → nat_eq (number_of one) (number_of other) ≡ is_same one other
same_test one other a b = by_test (is_same one other) refl (nat_eq (number_of one) (number_of other)) refl
  where
    by_test : (s : Bool) → is_same one other ≡ s → (t : Bool) → nat_eq (number_of one) (number_of other) ≡ t → t ≡ s
    by_test true e true f = refl
    by_test false e false f = refl
    by_test true e false f = let same : one ≡ other = same_is one other e in absurd (let yes : nat_eq (number_of one) (number_of other) ≡ true = subst (λ p. nat_eq (number_of one) (number_of p) ≡ true) same (itself (number_of one)) in cc)
    by_test false e true f =
        let same : one ≡ other = same_protocol one other a b (eqb-true (number_of one) (number_of other) f) in
        absurd (let yes : is_same one other ≡ true = subst (λ p. is_same one p ≡ true) same (is_itself one) in cc)

-- what is known of each of some sound rows
sound_parts : (row : BuiltIn) (rows : List BuiltIn) → are_sound (row ∷ rows) ≡ true
    → (may_have_row row.protocol ≡ true) × ((nat_lt 0 (built_in_local row.protocol) && nat_le (built_in_local row.protocol) 2147483647) ≡ true) × (are_sound rows ≡ true)
sound_parts row rows sound =
    let halves = both (may_have_row row.protocol && ((nat_lt 0 (built_in_local row.protocol) && nat_le (built_in_local row.protocol) 2147483647) && nat_le (length row.descr) 64)) _ sound in
    let mine = both (may_have_row row.protocol) _ halves.0 in
    (mine.0, (both (nat_lt 0 (built_in_local row.protocol) && nat_le (built_in_local row.protocol) 2147483647) _ mine.1).0, (both (not (is_some (first_in rows (number_of row.protocol)))) _ halves.1).1)

-- the row of a protocol among sound rows
of_protocol : (rows : List BuiltIn) (protocol : ProtocolIdentifier) → are_sound rows ≡ true → may_have_row protocol ≡ true → first_in rows (number_of protocol) ≡ option_map held_row (find (λ row. is_same row.protocol protocol) rows)
of_protocol [] protocol sound may = refl
of_protocol (row ∷ rows) protocol sound may =
    let parts = sound_parts row rows sound in
    ap (λ t. cond t (Some (held_row row)) (first_in rows (number_of protocol))) (same_test row.protocol protocol parts.0 may)
    ∙ (elim (is_same row.protocol protocol) as (λ t. cond t (Some (held_row row)) (first_in rows (number_of protocol)) ≡ option_map held_row (cond t (Some row) (find (λ one. is_same one.protocol protocol) rows))) [
      | true ↦ refl
      | false ↦ of_protocol rows protocol parts.2 may
    ])

-- a number that is no row's is that of none
of_none : (rows : List BuiltIn) (i : ℕ) → are_sound rows ≡ true → is_directory_row i ≡ false → first_in rows i ≡ None
of_none [] i sound other = refl
of_none (row ∷ rows) i sound other =
    elim (nat_eq (number_of row.protocol) i) as (λ t. nat_eq (number_of row.protocol) i ≡ t → cond t (Some (held_row row)) (first_in rows i) ≡ None) [
      | true ↦ λ e. absurd (let yes : is_directory_row i ≡ true = subst (λ k. is_directory_row k ≡ true) (eqb-true (number_of row.protocol) i e) (row_of row.protocol parts.0) in cc)
      | false ↦ λ _. of_none rows i parts.2 other
    ] refl
  where
    parts : (may_have_row row.protocol ≡ true) × ((nat_lt 0 (built_in_local row.protocol) && nat_le (built_in_local row.protocol) 2147483647) ≡ true) × (are_sound rows ≡ true)
    parts = sound_parts row rows sound

-- a row that is found is one of them
found_one : (rows : List BuiltIn) (i : ℕ) (row : Row DirectoryRow) → are_sound rows ≡ true → first_in rows i ≡ Some row → (one : BuiltIn) × (held_row one ≡ row) × ((nat_lt 0 (built_in_local one.protocol) && nat_le (built_in_local one.protocol) 2147483647) ≡ true)
found_one [] i row sound is = absurd (none-some row is)
found_one (first ∷ rows) i row sound is = elim (nat_eq (number_of first.protocol) i) as (λ t. cond t (Some (held_row first)) (first_in rows i) ≡ Some row → (one : BuiltIn) × (held_row one ≡ row) × ((nat_lt 0 (built_in_local one.protocol) && nat_le (built_in_local one.protocol) 2147483647) ≡ true)) [
  | true ↦ λ e. (first, same_Some _ _ e, (sound_parts first rows sound).1)
  | false ↦ λ e. found_one rows i row (sound_parts first rows sound).2 e
] is

-- the row that is found is that of the protocol
found_same : (list : List BuiltIn) (protocol : ProtocolIdentifier) (one : BuiltIn) → find (λ r. is_same r.protocol protocol) list ≡ Some one → one.protocol ≡ protocol
found_same [] protocol one e = absurd (none-some one e)
found_same (first ∷ list) protocol one e = elim (is_same first.protocol protocol) as (λ t. is_same first.protocol protocol ≡ t → cond t (Some first) (find (λ r. is_same r.protocol protocol) list) ≡ Some one → one.protocol ≡ protocol) [
  | true ↦ λ same f. subst (λ r. r.protocol ≡ protocol) (same_Some _ _ f) (same_is first.protocol protocol same)
  | false ↦ λ _ f. found_same list protocol one f
] refl e

module _ (rows : List (Row DirectoryRow)) (are : (i : ℕ) → row_in rows i ≡ first_in built_in_rows i) where
  all_sound : are_sound built_in_rows ≡ true
  all_sound = refl

  -- the row with a number, by its protocol
  row_is : (i : ℕ) → row_in rows i ≡ option_and_then (λ protocol. option_map held_row (built_in protocol)) (row_protocol i)
  row_is i = are i ∙ by_row (is_directory_row i) refl
    where
      by_row : (t : Bool) → is_directory_row i ≡ t → first_in built_in_rows i ≡ option_and_then (λ protocol. option_map held_row (built_in protocol)) (cond t (Some (identified i)) None)
      by_row false e = of_none built_in_rows i all_sound e
      by_row true e =
          let it = index.is_numbered i e in
          ap (first_in built_in_rows) (sym it.0) ∙ of_protocol built_in_rows (identified i) all_sound it.1

  module _ (i : ℕ) where
    known : protocol_of (directory_index i) ≡ row_protocol i
    known = protocol_is i

    state_first : state_in rows i ≡ directory_beginning.state (directory_index i)
    state_first = ap state_seen (row_is i) ∙ by_protocol (row_protocol i) ∙ ap (λ p. cond (option_map_or is_built_in p false) Valid Absent) (sym known)
      where
        by_protocol : (p : Option ProtocolIdentifier) → state_seen (option_and_then (λ protocol. option_map held_row (built_in protocol)) p) ≡ cond (option_map_or is_built_in p false) Valid Absent
        by_protocol None = refl
        by_protocol (Some protocol) = by_found (built_in protocol)
          where
            by_found : (o : Option BuiltIn) → state_seen (option_map held_row o) ≡ cond (is_some o) Valid Absent
            by_found None = refl
            by_found (Some row) = refl

    local_first : (row : Row DirectoryRow) → row_in rows i ≡ Some row → row.columns.local ≡ local_index [] (directory_index i)
    local_first row here = by_protocol (row_protocol i) (sym (row_is i) ∙ here) ∙ ap (λ p. option_map_or built_in_local p 0) (sym known)
      where
        by_protocol : (p : Option ProtocolIdentifier) → option_and_then (λ protocol. option_map held_row (built_in protocol)) p ≡ Some row → row.columns.local ≡ option_map_or built_in_local p 0
        by_protocol None e = absurd (none-some row e)
        by_protocol (Some protocol) e = by_found (built_in protocol) refl e
          where
            by_found : (o : Option BuiltIn) → built_in protocol ≡ o → option_map held_row o ≡ Some row → row.columns.local ≡ built_in_local protocol
            by_found None f g = absurd (none-some row g)
            by_found (Some one) f g = subst (λ (r : Row DirectoryRow). r.columns.local ≡ built_in_local protocol) (same_Some _ _ g) (ap built_in_local (found_same built_in_rows protocol one f))

  pub numbered_first : AreNumbered rows
  numbered_first i row here =
      let it = found_one built_in_rows i row all_sound (sym (are i) ∙ here) in
      subst (λ (r : Row DirectoryRow). (0 < r.columns.local) × (r.columns.local ≤ 2147483647)) it.1 (within (built_in_local it.0.protocol) it.2)
    where
      within : (n : ℕ) → (nat_lt 0 n && nat_le n 2147483647) ≡ true → (0 < n) × (n ≤ 2147483647)
      within n e = let parts = both (nat_lt 0 n) (nat_le n 2147483647) e in (grind (arith, nat_tests), grind (arith, nat_tests))

  pub noted_first : AreNoted rows
  noted_first i row here =
      let it = found_one built_in_rows i row all_sound (sym (are i) ∙ here) in
      let P : Row DirectoryRow → Type 0 = λ r. (support_number r.columns.host_before ≡ support_number r.columns.host) × (support_number r.columns.matrix_before ≡ support_number r.columns.matrix) in
      subst P it.1 (refl, refl)

  pub locals_first : AreLocal rows []
  locals_first i row here = local_first i row here

  -- what the columns of a row were set to
  module _ (protocol : ProtocolIdentifier) (one : BuiltIn) (found : built_in protocol ≡ Some one) where
    abbrev Alike : Option BuiltIn → Type 0
    Alike o =
        HasSameColumns protocol_dir (set_to (columns_of one)) (λ column. cond (is_some o)
        (cond (nat_eq column 4) (option_map (λ row. octets row.descr) o) (cond (nat_eq column 9) (Some (octets (codes "monitor"))) (first_config protocol column))) None)

    its_own : one.protocol ≡ protocol
    its_own = found_same built_in_rows protocol one found

    alike : HasSameColumns protocol_dir (set_to (columns_of one)) (λ column. cond (is_built_in protocol) (built_in_set protocol column) None)
    alike = subst Alike (sym found) (by_test (is_countable protocol) refl)
      where
        by_test : (t : Bool) → is_countable protocol ≡ t → Alike (Some one)
        by_test true e =
            let mine : is_countable one.protocol ≡ true = ap is_countable its_own ∙ e in
            rw (e, mine) (
              record { shown = refl; needed = λ h. absurd (cc) },
              (record { shown = refl; needed = λ h. absurd (cc) }, (record { shown = refl; needed = λ h. absurd (cc) }, (record { shown = refl; needed = λ h. absurd (cc) }, tt))),
            )
        by_test false e =
            let mine : is_countable one.protocol ≡ false = ap is_countable its_own ∙ e in
            rw (e, mine) (
              record { shown = refl; needed = λ h. absurd (cc) },
              (record { shown = refl; needed = λ h. absurd (cc) }, (record { shown = refl; needed = λ h. absurd (cc) }, (record { shown = refl; needed = λ h. absurd (cc) }, tt))),
            )

  columns_first : (i : ℕ) → is_absent (state_in rows i) ≡ false → HasSameColumns protocol_dir (λ n. option_and_then (λ c. set_to c n) (columns_seen (row_in rows i))) (directory_beginning.set (directory_index i))
  columns_first i there =
      let P : Option ProtocolIdentifier → Type 0 = λ p. HasSameColumns protocol_dir (λ n. option_and_then (λ c. set_to c n) (columns_seen (row_in rows i))) (λ column. cond (option_map_or is_built_in p false) (option_and_then (λ protocol. built_in_set protocol column) p) None) in
      subst P (sym (protocol_is i)) (by_protocol (row_protocol i) (row_is i))
    where
      by_protocol : (p : Option ProtocolIdentifier) → row_in rows i ≡ option_and_then (λ protocol. option_map held_row (built_in protocol)) p
          → HasSameColumns protocol_dir (λ n. option_and_then (λ c. set_to c n) (columns_seen (row_in rows i))) (λ column. cond (option_map_or is_built_in p false) (option_and_then (λ protocol. built_in_set protocol column) p) None)
      by_protocol None e = absurd (let absent : is_absent (state_in rows i) ≡ true = ap (λ o. is_absent (state_seen o)) e in cc)
      by_protocol (Some protocol) e = by_found (built_in protocol) refl e
        where
          by_found : (o : Option BuiltIn) → built_in protocol ≡ o → row_in rows i ≡ option_map held_row o
              → HasSameColumns protocol_dir (λ n. option_and_then (λ c. set_to c n) (columns_seen (row_in rows i))) (λ column. cond (is_built_in protocol) (built_in_set protocol column) None)
          by_found None f g = absurd (let absent : is_absent (state_in rows i) ≡ true = ap (λ o. is_absent (state_seen o)) g in cc)
          by_found (Some one) f g =
              let Q : Option (Row DirectoryRow) → Type 0 = λ o. HasSameColumns protocol_dir (λ n. option_and_then (λ c. set_to c n) (columns_seen o)) (λ column. cond (is_built_in protocol) (built_in_set protocol column) None) in
              subst Q (sym g) (alike protocol one f)

  others_first : (index : List ℕ) → is_numbered protocol_dir index ≡ false → directory_beginning.state index ≡ Absent
  others_first [] other = refl
  others_first (number ∷ []) other = refl
  others_first (first ∷ second ∷ more) other =
      ap (λ p. cond (option_map_or is_built_in p false) Valid Absent) (none_of (may_have_row (indexed (first ∷ second ∷ more)) && bytes_eq (index_with (indexed (first ∷ second ∷ more))) (first ∷ second ∷ more)) refl)
    where
      none_of : (t : Bool) → (may_have_row (indexed (first ∷ second ∷ more)) && bytes_eq (index_with (indexed (first ∷ second ∷ more))) (first ∷ second ∷ more)) ≡ t → protocol_of (first ∷ second ∷ more) ≡ None
      none_of false e = rw e refl
      none_of true e = absurd (let some : is_numbered protocol_dir (first ∷ second ∷ more) ≡ true = rw e refl in cc)

  pub rows_first : AreRowsAfter protocol_dir directory_beginning set_to rows []
  rows_first = record {
    alike = record {
      states = λ i. state_before protocol_dir set_to rows i ∙ state_first i;
      columns = λ i there.
          let P : (ℕ → Option Val) → Type 0 = λ set. HasSameColumns protocol_dir set (directory_beginning.set (directory_index i)) in
          subst P (λ d n. (sym (set_before_at protocol_dir set_to rows i n)) d) (columns_first i (ap is_absent (sym (state_before protocol_dir set_to rows i)) ∙ there));
    };
    others = others_first;
  }
