-- A protocol that has a row is one of those that a journal names.
use Rattle.std.proofs.Common.{◌≡◌, ℕ, Bool, true, false, not, List, [], ◌∷◌, ◌++◌, map, Contains, Option, Some, None, refl, sym, ap, subst, ◌∙◌, inl, inr}
use Rattle.std.specs.Prelude.{find}
use Rattle.std.specs.Option.{option_map, is_some}
use Rattle.std.specs.Str.{bytes_eq}
use Rattle.std.proofs.lemmas.Bool.{cases_Bool, true≢false}
use Rattle.std.proofs.lemmas.List.Elements.{Contains-append_left, Contains-append_right}
use Rattle.std.proofs.lemmas.Slice.Eq.{bytes_eq-Decides}
use Rattle.rm_model.proofs.Members.{each, here, there, in_map, none_in}
use Rattle.rm_model.specs.Journal.{Assignment, Assignments, Journal, passes, assigns, samples, value_given}
use Rattle.rm_model.specs.ControlRows.{cell_name, is_absent, next_state, set_ask, value_ask}
use Rattle.rm_model.specs.declared.row.State.{State}
use Rattle.rm_model.specs.declared.row.State.TheVariants.{Absent, UnderCreation, Valid}
use Rattle.rm_model.specs.declared.row.StatusKind.TheVariants.{RowStatus}
use Rattle.rm_status.proofs.RowsAfterLemmas.{state_sampled}
use Rattle.rm_val.specs.Val.{Val}
use Rattle.rm_path.specs.declared.identifier.ProtocolIdentifier.{ProtocolIdentifier}
use Rattle.rm_path.specs.Identifier.{is_same}
use Rattle.rm_path.proofs.Identifiers.{same_is}
use Rattle.rm_dir.specs.BuiltIn.{BuiltIn, built_in_rows, is_built_in}
use Rattle.rm_dir.specs.DirectoryIndex.{index_with, may_have_row}
use Rattle.rm_dir.specs.ProtocolDir.{protocol_dir, directory_beginning, directory_entry, directory_state}
use Rattle.rm_dir.proofs.LocalLaws.{own_protocol, there_first}
use Rattle.rm_layer_slots.specs.On.{protocols_named, row_named, rows_named, with_named}

-- what passes a test is in the list
found_in : {X : Type 0} (test : X → Bool) (xs : List X) → is_some (find test xs) ≡ true → (x : X) × Contains xs x × (test x ≡ true)
found_in test [] some = absurd (true≢false (sym some))
found_in test (x ∷ xs) some = elim (cases_Bool (test x)) [
  | inl y ↦ (x, here x xs, y)
  | inr y ↦ let more = found_in test xs (rw y at some) in (more.0, there x xs more.0 more.1, more.2)
]

-- a Set gives a value to what it names
given_in : (values : Assignments) (name : List ℕ) → is_some (value_given values name) ≡ true → (one : Assignment) × Contains values one × (one.name ≡ name)
given_in values name given =
    let found = found_in (λ (one : Assignment). bytes_eq one.name name) values (of_map (find (λ (one : Assignment). bytes_eq one.name name) values) given) in
    (found.0, found.1, (bytes_eq-Decides found.0.name name).0 found.2)
  where
    of_map : (o : Option Assignment) → is_some (option_map (λ (one : Assignment). one.value) o) ≡ true → is_some o ≡ true
    of_map None i = i
    of_map (Some one) i = refl

in_rows : (values : Assignments) (identifier : ProtocolIdentifier) (one : Assignment) → Contains values one → row_named one.name ≡ Some identifier → Contains (rows_named values) identifier
in_rows [] identifier one within is = absurd (none_in one within)
in_rows (first ∷ more) identifier one within is =
    each (λ (x : Assignment). row_named x.name ≡ Some identifier → Contains (with_named (row_named first.name) (rows_named more)) identifier) first more
    (λ e. rw e (here identifier (rows_named more)))
    (λ x rest e. beside (row_named first.name) (in_rows more identifier x rest e)) one within is
  where
    beside : (o : Option ProtocolIdentifier) → Contains (rows_named more) identifier → Contains (with_named o (rows_named more)) identifier
    beside None rest = rest
    beside (Some other) rest = there other (rows_named more) identifier rest

module _ (identifier : ProtocolIdentifier) (may : may_have_row identifier ≡ true) where
  abbrev index : List ℕ
  index = index_with identifier

  -- the status of its row names it
  status_named : row_named (cell_name directory_entry 10 index) ≡ Some identifier
  status_named = own_protocol identifier may

  from_first : is_absent (directory_state [] index) ≡ false → Contains (protocols_named []) identifier
  unfolding protocols_named
  from_first is =
      let built : is_built_in identifier ≡ true = there_first identifier may (ap not is) in
      let found = found_in (λ (row : BuiltIn). is_same row.protocol identifier) built_in_rows built in
      subst (λ (other : ProtocolIdentifier). Contains (map (λ (row : BuiltIn). row.protocol) built_in_rows) other) (same_is found.0.protocol identifier found.2)
      (in_map (λ (row : BuiltIn). row.protocol) built_in_rows found.0 found.1)

  -- a row that a Set makes has its status given a value
  given_status : (values : Assignments) → is_absent (next_state (set_ask protocol_dir values index) Absent) ≡ false → is_some (value_given values (cell_name directory_entry 10 index)) ≡ true
  given_status values there = by_value (value_given values (cell_name directory_entry 10 index)) there
    where
      by_value : (o : Option Val) → is_absent (next_state (value_ask RowStatus o) Absent) ≡ false → is_some o ≡ true
      by_value None e = absurd (true≢false e)
      by_value (Some value) e = refl

  pub is_named : (journal : Journal) → is_absent (directory_state journal index) ≡ false → Contains (protocols_named journal) identifier
  unfolding protocols_named
  is_named [] is = from_first is
  is_named (passes frame ∷ earlier) is = is_named earlier is
  is_named (samples moment alarm reading ∷ earlier) is =
      is_named earlier (sym (ap is_absent (state_sampled protocol_dir directory_beginning refl earlier moment alarm reading index)) ∙ is)
  is_named (assigns moment values ∷ earlier) is = by_state (directory_state earlier index) refl (λ was. is_named earlier was)
    where
      by_state : (state : State) → directory_state earlier index ≡ state → (is_absent (directory_state earlier index) ≡ false → Contains (protocols_named earlier) identifier)
          → Contains (rows_named values ++ protocols_named earlier) identifier
      by_state Absent e before =
          let made : is_absent (next_state (set_ask protocol_dir values index) Absent) ≡ false = sym (ap (λ s. is_absent (next_state (set_ask protocol_dir values index) s)) e) ∙ is in
          let given = given_in values (cell_name directory_entry 10 index) (given_status values made) in
          Contains-append_left (rows_named values) (protocols_named earlier) identifier (in_rows values identifier given.0 given.1 (ap row_named given.2 ∙ status_named))
      by_state UnderCreation e before = Contains-append_right (rows_named values) (protocols_named earlier) identifier (before (ap is_absent e))
      by_state Valid e before = Contains-append_right (rows_named values) (protocols_named earlier) identifier (before (ap is_absent e))
