-- What a Set makes of the rows, row by row, by what it makes of the journal.
use Rattle.std.proofs.Common.{◌≡◌, ℕ, List, ◌∷◌, Bool, true, false, cond, not, ◌&&◌, ◌||◌, nat_eq, Option, Some, None, refl, sym, ap, ◌∙◌, arith}
use Rattle.std.specs.Prelude.{unwrap_or}
use Rattle.std.specs.Option.{option_and_then}
use Rattle.std.proofs.lemmas.Bool.Decides.{nat_tests}
use Rattle.rm_val.specs.Val.{Val}
use Rattle.rm_model.specs.Journal.{Assignments, Journal, assigns, value_given}
use Rattle.rm_model.specs.ControlTable.{default_of}
use Rattle.rm_model.specs.ControlRows.{set_ask, next_state, is_absent}
use Rattle.rm_model.specs.Judgement.{Bindings, is_made}
use Rattle.rm_model.specs.declared.row.State.{State}
use Rattle.rm_model.specs.declared.row.State.TheVariants.{Absent, UnderCreation, Valid}
use Rattle.rm_model.specs.declared.row.Ask.{Ask}
use Rattle.rm_model.specs.declared.row.Ask.TheVariants.{Nothing, Create, CreateValid, Enable, Disable, Destroy}
use Rattle.rm_columns.specs.Values.{natural_in}
use Rattle.rm_status.specs.declared.row.Row.{Row}
use Rattle.rm_status.specs.Rows.{row_in, state_seen, columns_seen, state_in, AreControlRows}
use Rattle.rm_status.specs.Commit.{row_after, put_all}
use Rattle.rm_status.specs.RowsAfter.{AreRowsAfter}
use Rattle.rm_status.proofs.Puts.{AllFine}
use Rattle.rm_status.proofs.RowFacts.{row_there}
use Rattle.rm_status.proofs.RowsAfterLemmas.{rows_assigns, all_leave, is_after}
use Rattle.rm_status.proofs.RowsBefore.{state_before, set_before_at}
use Rattle.rm_dir.specs.declared.row.DirectoryRow.{DirectoryRow}
use Rattle.rm_dir.specs.Support.{support_number}
use Rattle.rm_dir.specs.DirectoryIndex.{directory_index}
use Rattle.rm_dir.specs.DirectoryRows.{set_to, with_column, new_row, directory_rows}
use Rattle.rm_dir.specs.ProtocolDir.{protocol_dir, directory_beginning, directory_state}
use Rattle.rm_dir.specs.LocalIndexes.{makes}
use Rattle.rm_dir.specs.LastChange.{config_of, changes_config}
use Rattle.rm_dir.specs.Kept.{AreNumbered, AreNoted}
use Rattle.rm_dir.specs.Settling.{is_fresh, is_changed, is_changed_row, is_same_support, is_fresh_in, is_changed_in}

-- what a configuration shows is its number
module _ (rows : List (Row DirectoryRow)) (journal : Journal) (is : AreRowsAfter protocol_dir directory_beginning set_to rows journal) (i : ℕ) (row : Row DirectoryRow) (here : row_in rows i ≡ Some row) (there : is_absent row.state ≡ false) where
  seen_there : is_absent (state_seen (row_in rows i)) ≡ false
  seen_there = ap (λ o. is_absent (state_seen o)) here ∙ there

  pub host_is : support_number row.columns.host ≡ config_of journal (directory_index i) 7
  host_is = ap natural_in (ap (λ o. unwrap_or (option_and_then (λ c. set_to c 7) (columns_seen o)) (default_of protocol_dir 7)) (sym here) ∙ ap (λ v. unwrap_or v (default_of protocol_dir 7)) (sym (set_before_at protocol_dir set_to rows i 7)) ∙ (is.alike.columns i (ap is_absent (state_before protocol_dir set_to rows i) ∙ seen_there)).1.0.shown)

  pub matrix_is : support_number row.columns.matrix ≡ config_of journal (directory_index i) 8
  matrix_is = ap natural_in (ap (λ o. unwrap_or (option_and_then (λ c. set_to c 8) (columns_seen o)) (default_of protocol_dir 8)) (sym here) ∙ ap (λ v. unwrap_or v (default_of protocol_dir 8)) (sym (set_before_at protocol_dir set_to rows i 8)) ∙ (is.alike.columns i (ap is_absent (state_before protocol_dir set_to rows i) ∙ seen_there)).1.1.0.shown)

-- The rows before and after, whatever the journal.
module _ (bs : Bindings) (rows middle : List (Row DirectoryRow)) (held : AreControlRows protocol_dir rows) (held_then : AreControlRows protocol_dir middle)
    (after : (i : ℕ) → row_in middle i ≡ row_after protocol_dir with_column new_row bs i (row_in rows i))
    (numbered : AreNumbered rows) where
  -- what is left of a row's other data
  module _ (i : ℕ) (mid : Row DirectoryRow) (here : row_in middle i ≡ Some mid) where
    columns_are : mid.columns ≡ put_all protocol_dir with_column new_row bs i (unwrap_or (columns_seen (row_in rows i)) (new_row i))
    columns_are = (is_after protocol_dir with_column new_row bs i (row_in rows i) mid (sym (after i) ∙ here)).1

    left : {D : Type 0} (other : DirectoryRow → D) → ((c : DirectoryRow) (n : ℕ) (v : Val) → other (with_column c n v) ≡ other c) → other mid.columns ≡ other (unwrap_or (columns_seen (row_in rows i)) (new_row i))
    left other leaves = ap other columns_are ∙ all_leave protocol_dir with_column new_row other leaves bs i (unwrap_or (columns_seen (row_in rows i)) (new_row i))

    pub local_left : mid.columns.local ≡ (unwrap_or (columns_seen (row_in rows i)) (new_row i)).local
    local_left = left (λ c. c.local) (λ c n v. refl)

    host_left : support_number mid.columns.host_before ≡ support_number (unwrap_or (columns_seen (row_in rows i)) (new_row i)).host_before
    host_left = ap support_number (left (λ c. c.host_before) (λ c n v. refl))

    matrix_left : support_number mid.columns.matrix_before ≡ support_number (unwrap_or (columns_seen (row_in rows i)) (new_row i)).matrix_before
    matrix_left = ap support_number (left (λ c. c.matrix_before) (λ c n v. refl))

    there : is_absent mid.state ≡ false
    there = row_there protocol_dir middle i mid held_then here

    -- it was made by the Set exactly where there was no such row
    pub fresh_row : (o : Option (Row DirectoryRow)) → row_in rows i ≡ o → nat_eq mid.columns.local 0 ≡ is_absent (state_seen o)
    fresh_row None e = ap (λ n. nat_eq n 0) (local_left ∙ ap (λ o. (unwrap_or (columns_seen o) (new_row i)).local) e)
    fresh_row (Some row) e =
        let local : mid.columns.local ≡ row.columns.local = local_left ∙ ap (λ o. (unwrap_or (columns_seen o) (new_row i)).local) e in
        let some = (numbered i row e).0 in
        let not_zero : nat_eq mid.columns.local 0 ≡ false = grind (arith, nat_tests) in
        not_zero ∙ sym (row_there protocol_dir rows i row held e)

  -- whether the Set makes a row, by the rows before and after it
  abbrev pub made_here : ℕ → Bool
  made_here i = is_absent (state_in rows i) && not (is_absent (state_in middle i))

  -- a row that the Set made has no local index yet, and every other has one
  pub fresh_here : (i : ℕ) → is_fresh_in middle i ≡ made_here i
  fresh_here i = by_row (row_in middle i) refl
    where
      by_row : (o : Option (Row DirectoryRow)) → row_in middle i ≡ o → is_fresh o ≡ made_here i
      by_row None e = sym (ap (λ o. is_absent (state_in rows i) && not (is_absent (state_seen o))) e ∙ no_more (is_absent (state_in rows i)))
        where
          no_more : (b : Bool) → (b && not true) ≡ false
          no_more true = refl
          no_more false = refl
      by_row (Some mid) e =
          fresh_row i mid e (row_in rows i) refl
          ∙ sym (ap (λ o. is_absent (state_in rows i) && not (is_absent (state_seen o))) e ∙ ap (λ b. is_absent (state_in rows i) && not b) (there i mid e) ∙ and_true (is_absent (state_in rows i)))
        where
          and_true : (b : Bool) → (b && not false) ≡ b
          and_true true = refl
          and_true false = refl

  state_next : (i : ℕ) → state_in middle i ≡ next_state (set_ask protocol_dir bs (directory_index i)) (state_in rows i)
  state_next i = ap state_seen (after i) ∙ seen (record { index = i; state = next_state (set_ask protocol_dir bs (directory_index i)) (state_in rows i); columns = put_all protocol_dir with_column new_row bs i (unwrap_or (columns_seen (row_in rows i)) (new_row i)) })
    where
      seen : (row : Row DirectoryRow) → state_seen (cond (is_absent row.state) None (Some row)) ≡ row.state
      seen row = by_state row.state refl
        where
          by_state : (state : State) → row.state ≡ state → state_seen (cond (is_absent row.state) None (Some row)) ≡ row.state
          by_state Absent e = rw e refl
          by_state UnderCreation e = rw e refl
          by_state Valid e = rw e refl

  -- these are the rows that it asks to be made
  pub asked_here : (i : ℕ) → is_fresh_in middle i ≡ is_made (state_in rows i) (set_ask protocol_dir bs (directory_index i))
  asked_here i = fresh_here i ∙ ap (λ s. is_absent (state_in rows i) && not (is_absent s)) (state_next i) ∙ by_state (state_in rows i) (set_ask protocol_dir bs (directory_index i))
    where
      by_state : (state : State) (ask : Ask) → (is_absent state && not (is_absent (next_state ask state))) ≡ is_made state ask
      by_state Absent Nothing = refl
      by_state Absent Create = refl
      by_state Absent CreateValid = refl
      by_state Absent Enable = refl
      by_state Absent Disable = refl
      by_state Absent Destroy = refl
      by_state UnderCreation ask = refl
      by_state Valid ask = refl

module _ (journal : Journal) (moment : ℕ) (bs : Bindings) (values : Assignments)
    (gives : (name : List ℕ) → value_given values name ≡ value_given bs name)
    (fine : AllFine protocol_dir bs)
    (rows middle : List (Row DirectoryRow)) (held : AreControlRows protocol_dir rows) (held_then : AreControlRows protocol_dir middle)
    (after : (i : ℕ) → row_in middle i ≡ row_after protocol_dir with_column new_row bs i (row_in rows i))
    (numbered : AreNumbered rows)
    (is : AreRowsAfter protocol_dir directory_beginning set_to rows journal) (noted : AreNoted rows) where
  abbrev with_set : Journal
  with_set = assigns moment values ∷ journal

  pub middle_rows : AreRowsAfter protocol_dir directory_beginning set_to middle with_set
  middle_rows = rows_assigns protocol_dir directory_beginning set_to with_column new_row directory_rows.set_with directory_rows.blank_alike refl journal moment bs values gives fine rows middle held is after

  pub state_then : (i : ℕ) → state_in middle i ≡ directory_state with_set (directory_index i)
  state_then i = sym (state_before protocol_dir set_to middle i) ∙ middle_rows.alike.states i

  pub state_now : (i : ℕ) → state_in rows i ≡ directory_state journal (directory_index i)
  state_now i = sym (state_before protocol_dir set_to rows i) ∙ is.alike.states i

  pub made_is : (i : ℕ) → made_here bs rows middle held held_then after numbered i ≡ makes (assigns moment values) journal (directory_index i)
  made_is i = ap (λ s. is_absent s && not (is_absent (state_in middle i))) (state_now i) ∙ ap (λ s. is_absent (directory_state journal (directory_index i)) && not (is_absent s)) (state_then i)

  pub fresh_is : (i : ℕ) → is_fresh_in middle i ≡ makes (assigns moment values) journal (directory_index i)
  fresh_is i = fresh_here bs rows middle held held_then after numbered i ∙ made_is i

  -- whether a configuration of a row that is there before and after was changed
  abbrev other_config : ℕ → ℕ → Bool
  other_config i column = changes_config (assigns moment values) journal (directory_index i) column

  -- a row that isn't there after the Set
  gone_config : (i column : ℕ) → is_absent (state_in middle i) ≡ true → other_config i column ≡ false
  gone_config i column gone =
      ap (λ b. not (is_absent (directory_state journal (directory_index i))) && (not b && not (nat_eq (config_of with_set (directory_index i) column) (config_of journal (directory_index i) column)))) (sym (ap is_absent (state_then i)) ∙ gone)
      ∙ never (not (is_absent (directory_state journal (directory_index i))))
    where
      never : (b : Bool) → (b && false) ≡ false
      never true = refl
      never false = refl

  -- nor one that wasn't there before
  new_config : (i column : ℕ) → is_absent (state_in rows i) ≡ true → other_config i column ≡ false
  new_config i column new =
      ap (λ b. not b && (not (is_absent (directory_state with_set (directory_index i))) && not (nat_eq (config_of with_set (directory_index i) column) (config_of journal (directory_index i) column)))) (sym (ap is_absent (state_now i)) ∙ new)

  both_config : (i column : ℕ) → is_absent (state_in rows i) ≡ false → is_absent (state_in middle i) ≡ false → other_config i column ≡ not (nat_eq (config_of with_set (directory_index i) column) (config_of journal (directory_index i) column))
  both_config i column old new =
      ap (λ b. not b && (not (is_absent (directory_state with_set (directory_index i))) && not (nat_eq (config_of with_set (directory_index i) column) (config_of journal (directory_index i) column)))) (sym (ap is_absent (state_now i)) ∙ old)
      ∙ ap (λ b. not b && not (nat_eq (config_of with_set (directory_index i) column) (config_of journal (directory_index i) column))) (sym (ap is_absent (state_then i)) ∙ new)

  -- what the Set changed is what is noted of the rows
  pub changed_is : (i : ℕ) → is_changed_in middle i ≡ (makes (assigns moment values) journal (directory_index i) || (other_config i 7 || other_config i 8))
  changed_is i = by_row (row_in middle i) refl
    where
      by_row : (o : Option (Row DirectoryRow)) → row_in middle i ≡ o → is_changed o ≡ (makes (assigns moment values) journal (directory_index i) || (other_config i 7 || other_config i 8))
      by_row None e =
          let gone : is_absent (state_in middle i) ≡ true = ap (λ o. is_absent (state_seen o)) e in
          let not_made : makes (assigns moment values) journal (directory_index i) ≡ false = sym (fresh_is i) ∙ ap is_fresh e in
          sym (rw (not_made, gone_config i 7 gone, gone_config i 8 gone) refl)
      by_row (Some mid) e = by_old (row_in rows i) refl
        where
          new : is_absent (state_in middle i) ≡ false
          new = ap (λ o. is_absent (state_seen o)) e ∙ there bs rows middle held held_then after numbered i mid e

          made : makes (assigns moment values) journal (directory_index i) ≡ nat_eq mid.columns.local 0
          made = sym (fresh_is i) ∙ ap is_fresh e

          by_old : (o : Option (Row DirectoryRow)) → row_in rows i ≡ o → is_changed_row mid.columns ≡ (makes (assigns moment values) journal (directory_index i) || (other_config i 7 || other_config i 8))
          by_old None old =
              let fresh : nat_eq mid.columns.local 0 ≡ true = fresh_row bs rows middle held held_then after numbered i mid e None old in
              rw (made, fresh) refl
          by_old (Some row) old =
              let was : is_absent (state_in rows i) ≡ false = ap (λ o. is_absent (state_seen o)) old ∙ row_there protocol_dir rows i row held old in
              let host_now : support_number mid.columns.host ≡ config_of with_set (directory_index i) 7 = host_is middle with_set middle_rows i mid e (there bs rows middle held held_then after numbered i mid e) in
              let matrix_now : support_number mid.columns.matrix ≡ config_of with_set (directory_index i) 8 = matrix_is middle with_set middle_rows i mid e (there bs rows middle held held_then after numbered i mid e) in
              let host_then : support_number mid.columns.host_before ≡ config_of journal (directory_index i) 7 =
              host_left bs rows middle held held_then after numbered i mid e ∙ ap (λ o. support_number (unwrap_or (columns_seen o) (new_row i)).host_before) old ∙ (noted i row old).0 ∙ host_is rows journal is i row old (row_there protocol_dir rows i row held old) in
              let matrix_then : support_number mid.columns.matrix_before ≡ config_of journal (directory_index i) 8 =
              matrix_left bs rows middle held held_then after numbered i mid e ∙ ap (λ o. support_number (unwrap_or (columns_seen o) (new_row i)).matrix_before) old ∙ (noted i row old).1 ∙ matrix_is rows journal is i row old (row_there protocol_dir rows i row held old) in
              ap (λ b. nat_eq mid.columns.local 0 || (not b || not (is_same_support mid.columns.matrix mid.columns.matrix_before))) (ap (λ n. nat_eq n (support_number mid.columns.host_before)) host_now ∙ ap (nat_eq (config_of with_set (directory_index i) 7)) host_then)
              ∙ ap (λ b. nat_eq mid.columns.local 0 || (not (nat_eq (config_of with_set (directory_index i) 7) (config_of journal (directory_index i) 7)) || not b)) (ap (λ n. nat_eq n (support_number mid.columns.matrix_before)) matrix_now ∙ ap (nat_eq (config_of with_set (directory_index i) 8)) matrix_then)
              ∙ ap (λ b. nat_eq mid.columns.local 0 || (b || not (nat_eq (config_of with_set (directory_index i) 8) (config_of journal (directory_index i) 8)))) (sym (both_config i 7 was new))
              ∙ ap (λ b. nat_eq mid.columns.local 0 || (other_config i 7 || b)) (sym (both_config i 8 was new))
              ∙ ap (λ b. b || (other_config i 7 || other_config i 8)) (sym made)
