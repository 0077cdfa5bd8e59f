-- The indexes that the rows of a control table can have.
use Rattle.std.proofs.Common.{◌≡◌, ℕ, ◌⊎◌, inl, inr, List, [], ◌∷◌, refl, ◌∙◌, ap, Bool, true, false, cond, ◌&&◌, not, Option, Some, None, nat_eq, arith, Contains, bytes_eq, option_map, find}
use Rattle.std.specs.Prelude.{is_some}
use Rattle.std.specs.List.{cons_option}
use Rattle.std.proofs.lemmas.Bool.Decides.{nat_tests}
use Rattle.std.proofs.lemmas.Slice.Eq.{bytes_eq-Decides}
use Rattle.std.proofs.lemmas.List.Elements.{Contains-append_left, Contains-append_right}
use Rattle.rm_val.specs.Val.{Val}
use Rattle.rm_model.specs.Journal.{Act, passes, assigns, samples, Journal, Assignments, value_given}
use Rattle.rm_model.specs.Cells.{instance_of}
use Rattle.rm_model.specs.ControlTable.{ControlTable}
use Rattle.rm_model.specs.Indexes.{index_named, indexes_named, indexes_of}
use Rattle.rm_model.specs.ControlRows.{Beginning, cell_name, value_ask, act_ask, next_state, is_absent, state_of}
use Rattle.rm_model.specs.declared.row.State.{State}
use Rattle.rm_model.specs.declared.row.State.TheVariants.{Absent, UnderCreation, Valid}
use Rattle.rm_model.specs.declared.row.Ask.{Ask}
use Rattle.rm_model.specs.declared.row.Ask.TheVariants.{Nothing, Create, CreateValid, Enable, Disable, Destroy}
use Rattle.rm_model.proofs.Members.{here, there}
use Rattle.rm_model.proofs.Tables.{behind_front}

-- whether an ask can make a row
abbrev makes : Ask → Bool
makes Nothing = false
makes Create = true
makes CreateValid = true
makes Enable = false
makes Disable = false
makes Destroy = false

there_before_or_made : (ask : Ask) (state : State) → not (is_absent (next_state ask state)) ≡ true → (not (is_absent state) ≡ true) ⊎ (makes ask ≡ true)
there_before_or_made ask UnderCreation is = inl refl
there_before_or_made ask Valid is = inl refl
there_before_or_made Nothing Absent is = absurd (cc)
there_before_or_made Create Absent is = inr refl
there_before_or_made CreateValid Absent is = inr refl
there_before_or_made Enable Absent is = absurd (cc)
there_before_or_made Disable Absent is = absurd (cc)
there_before_or_made Destroy Absent is = absurd (cc)

module _ (table : ControlTable) where
  status_name : (index : List ℕ) → instance_of table.entry (table.status ∷ []) (cell_name table.entry table.status index) ≡ Some (record { column = table.status; index = index })
  status_name index =
      let same : nat_eq table.status table.status ≡ true = grind (arith, nat_tests) in
      rw (behind_front table.entry (table.status ∷ index), same) refl

  -- a status that a Set gives a value is that of a row whose index is in the list
  given_named : (values : Assignments) (index : List ℕ) → is_some (value_given values (cell_name table.entry table.status index)) ≡ true → Contains (indexes_named table values) index
  given_named [] index is = absurd (cc)
  given_named (a ∷ more) index is =
      elim (bytes_eq a.name (cell_name table.entry table.status index)) as (λ t. bytes_eq a.name (cell_name table.entry table.status index) ≡ t → is_some (option_map (λ assignment. assignment.value) (cond t (Some a) (find (λ assignment. bytes_eq assignment.name (cell_name table.entry table.status index)) more))) ≡ true → Contains (cons_option (index_named table a) (indexes_named table more)) index) [
        | true ↦ λ same _.
            let name : a.name ≡ cell_name table.entry table.status index = (bytes_eq-Decides a.name (cell_name table.entry table.status index)).0 same in
            let named : index_named table a ≡ Some index = ap (λ n. option_map (λ at. at.index) (instance_of table.entry (table.status ∷ []) n)) name ∙ ap (option_map (λ at. at.index)) (status_name index) in
            rw named (here index (indexes_named table more))
        | false ↦ λ _ later. behind_one (index_named table a) (given_named more index later)
      ] refl is
    where
      behind_one : (o : Option (List ℕ)) → Contains (indexes_named table more) index → Contains (cons_option o (indexes_named table more)) index
      behind_one None within = within
      behind_one (Some other) within = there other (indexes_named table more) index within

  module _ (beginning : Beginning) (first : List (List ℕ)) (begins : (index : List ℕ) → not (is_absent (beginning.state index)) ≡ true → Contains first index) where
    -- a row that there is has its index in the list
    pub row_listed : (journal : Journal) (index : List ℕ) → not (is_absent (state_of table beginning journal index)) ≡ true → Contains (indexes_of table first journal) index
    row_listed [] index is = begins index is
    row_listed (act ∷ earlier) index is =
        by_cause (there_before_or_made (act_ask table act index) (state_of table beginning earlier index) is) (row_listed earlier index)
      where
        given : (values : Assignments) (value : Option Val) → value_given values (cell_name table.entry table.status index) ≡ value → makes (value_ask table.status_kind value) ≡ true → Contains (indexes_named table values) index
        given values None none made = absurd (cc)
        given values (Some value) some made = given_named values index (ap is_some some)

        not_sampled : (b : Bool) → makes (cond b Destroy Nothing) ≡ true → ⊥
        not_sampled true made = cc
        not_sampled false made = cc

        before : (act : Act) → Contains (indexes_of table first earlier) index → Contains (indexes_of table first (act ∷ earlier)) index
        before (passes frame) within = within
        before (assigns moment values) within = Contains-append_right (indexes_named table values) (indexes_of table first earlier) index within
        before (samples moment alarm reading) within = within

        now_made : (act : Act) → makes (act_ask table act index) ≡ true → Contains (indexes_of table first (act ∷ earlier)) index
        now_made (passes frame) made = absurd (cc)
        now_made (assigns moment values) made = Contains-append_left (indexes_named table values) (indexes_of table first earlier) index (given values (value_given values (cell_name table.entry table.status index)) refl made)
        now_made (samples moment alarm None) made = absurd (not_sampled (table.is_sampled && bytes_eq index (alarm ∷ [])) made)
        now_made (samples moment alarm (Some reading)) made = absurd (cc)

        by_cause : (not (is_absent (state_of table beginning earlier index)) ≡ true) ⊎ (makes (act_ask table act index) ≡ true) → (not (is_absent (state_of table beginning earlier index)) ≡ true → Contains (indexes_of table first earlier) index) → Contains (indexes_of table first (act ∷ earlier)) index
        by_cause (inl was) listed = before act (listed was)
        by_cause (inr made) listed = now_made act made
