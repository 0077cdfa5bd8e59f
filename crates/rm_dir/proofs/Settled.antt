-- What the directory keeps after a Set.
use Rattle.std.proofs.Common.{◌≡◌, ℕ, ◌≤◌, ◌+◌, ◌<◌, ◌^◌, List, ◌∷◌, Bool, true, false, cond, not, ◌&&◌, ◌||◌, nat_eq, nat_lt, Option, Some, None, option_map, refl, sym, ap, ◌∙◌, subst, arith}
use Rattle.std.specs.Prelude.{unwrap_or, is_some}
use Rattle.std.specs.Option.{option_map_or}
use Rattle.std.proofs.lemmas.Bool.Decides.{nat_tests}
use borrow.Author.Tests.{eqb-true}
use Rattle.rm_model.specs.Journal.{Assignments, Journal, assigns, value_given}
use Rattle.rm_model.specs.ControlRows.{set_ask, is_absent}
use Rattle.rm_model.specs.Judgement.{Bindings, is_made, count_below}
use Rattle.rm_status.specs.declared.row.Row.{Row}
use Rattle.rm_status.specs.Rows.{row_in, columns_seen, state_in, AreControlRows}
use Rattle.rm_status.specs.Change.{changed_row}
use Rattle.rm_status.specs.Commit.{row_after}
use Rattle.rm_status.specs.RowsAfter.{AreRowsAfter}
use Rattle.rm_status.proofs.Held.{held_is}
use Rattle.rm_status.proofs.Puts.{AllFine}
use Rattle.rm_status.proofs.RowFacts.{found_there, row_fits}
use Rattle.rm_status.proofs.RowsAfterLemmas.{rows_changed, was_there}
use Rattle.rm_path.specs.Identifier.{number_of, identified}
use Rattle.rm_dir.specs.declared.row.DirectoryRow.{DirectoryRow}
use Rattle.rm_dir.specs.Support.{support_number}
use Rattle.rm_dir.specs.DirectoryIndex.{directory_index, is_directory_row, may_have_row, protocol_of, protocol_is}
use Rattle.rm_dir.specs.DirectoryRows.{set_to, with_column, new_row}
use Rattle.rm_dir.specs.ProtocolDir.{protocol_dir, directory_beginning, directory_state}
use Rattle.rm_dir.specs.LocalIndexes.{makes, count_made_below, greatest_given, local_index}
use Rattle.rm_dir.specs.LastChange.{removes, changes, changes_config, changes_some, last_change}
use Rattle.rm_dir.specs.Kept.{AreNumbered, AreNoted}
use Rattle.rm_dir.specs.Settling.{is_fresh, is_fresh_in, is_changed_in, settled}
use Rattle.rm_dir.specs.Group.{AreLocal}
use Rattle.rm_dir.proofs.Counts.{count_next, count_within, count_moved, some_either}
use Rattle.rm_dir.proofs.Settles.{row_named}
use Rattle.rm_dir.proofs.SetRows.{middle_rows, state_then, state_now, fresh_is, asked_here, fresh_here, changed_is, local_left, fresh_row}

-- the number of a row's protocol is the row's
number_back : (i : ℕ) → is_directory_row i ≡ true → option_map_or number_of (protocol_of (directory_index i)) 0 ≡ i
number_back i is = ap (λ o. option_map_or number_of o 0) (protocol_is i) ∙ rw is (same (nat_eq (number_of (identified i)) i) (may_have_row (identified i)) refl is)
  where
    same : (a b : Bool) → nat_eq (number_of (identified i)) i ≡ a → (a && b) ≡ true → number_of (identified i) ≡ i
    same true b e h = eqb-true (number_of (identified i)) i e
    same false b e h = absurd (cc)

module _ (bs : Bindings) (rows middle : List (Row DirectoryRow))
    (held : AreControlRows protocol_dir rows) (held_then : AreControlRows protocol_dir middle)
    (after : (i : ℕ) → row_in middle i ≡ row_after protocol_dir with_column new_row bs i (row_in rows i))
    (numbered : AreNumbered rows) where
  -- as many rows are given local indexes as the Set asks to be made
  pub asked_count : count_below (is_fresh_in middle) (2 ^ 32) ≡ count_below (λ row. is_made (state_in rows row) (set_ask protocol_dir bs (directory_index row))) (2 ^ 32)
  asked_count = ap (λ p. count_below p (2 ^ 32)) (λ d i. (asked_here bs rows middle held held_then after numbered i) d)

module _ (bs : Bindings) (rows middle new : List (Row DirectoryRow)) (given : ℕ)
    (held : AreControlRows protocol_dir rows) (held_then : AreControlRows protocol_dir middle)
    (after : (i : ℕ) → row_in middle i ≡ row_after protocol_dir with_column new_row bs i (row_in rows i))
    (settles : (i : ℕ) → row_in new i ≡ option_map (changed_row (λ index state row. settled (given + count_below (is_fresh_in middle) (index + 1)) row)) (row_in middle i))
    (numbered : AreNumbered rows) where
  -- each row has one then
  pub numbered_then : given + count_below (is_fresh_in middle) (2 ^ 32) ≤ 2147483647 → AreNumbered new
  numbered_then enough i row here =
      let it = was_there (changed_row (λ index state row. settled (given + count_below (is_fresh_in middle) (index + 1)) row)) (row_in middle i) row (sym (settles i) ∙ here) in
      subst (λ (r : Row DirectoryRow). (0 < r.columns.local) × (r.columns.local ≤ 2147483647)) it.2 (by_test it.0 it.1 (nat_eq it.0.columns.local 0) refl)
    where
      by_test : (mid : Row DirectoryRow) → row_in middle i ≡ Some mid → (t : Bool) → nat_eq mid.columns.local 0 ≡ t
          → (0 < cond t (given + count_below (is_fresh_in middle) (mid.index + 1)) mid.columns.local) × (cond t (given + count_below (is_fresh_in middle) (mid.index + 1)) mid.columns.local ≤ 2147483647)
      by_test mid e true fresh =
          let named = row_named middle i mid e in
          let counted : is_fresh_in middle mid.index ≡ true = ap (is_fresh_in middle) named ∙ ap is_fresh e ∙ fresh in
          let next = count_next (is_fresh_in middle) mid.index in
          let one : ◌≡◌ {A = ℕ} (cond (is_fresh_in middle mid.index) 1 0) 1 = ap (λ b. cond b 1 0) counted in
          let fits = (row_fits protocol_dir middle i mid held_then.1 e).1 in
          let few = count_within (is_fresh_in middle) (mid.index + 1) (2 ^ 32) (omega (arith, named, fits)) in
          (omega (arith, next, one), omega (arith, few, enough))
      by_test mid e false other = by_old (row_in rows i) refl
        where
          by_old : (o : Option (Row DirectoryRow)) → row_in rows i ≡ o → (0 < mid.columns.local) × (mid.columns.local ≤ 2147483647)
          by_old None old = absurd (let fresh : nat_eq mid.columns.local 0 ≡ true = fresh_row bs rows middle held held_then after numbered i mid e None old in cc)
          by_old (Some was) old =
              let same : mid.columns.local ≡ was.columns.local = local_left bs rows middle held held_then after numbered i mid e ∙ ap (λ o. (unwrap_or (columns_seen o) (new_row i)).local) old in
              subst (λ n. (0 < n) × (n ≤ 2147483647)) (sym same) (numbered i was old)

  pub noted_then : AreNoted new
  noted_then i row here =
      let it = was_there (changed_row (λ index state row. settled (given + count_below (is_fresh_in middle) (index + 1)) row)) (row_in middle i) row (sym (settles i) ∙ here) in
      let P : Row DirectoryRow → Type 0 = λ r. (support_number r.columns.host_before ≡ support_number r.columns.host) × (support_number r.columns.matrix_before ≡ support_number r.columns.matrix) in
      subst P it.2 (refl, refl)

  module _ (journal : Journal) (moment : ℕ) (values : Assignments)
      (gives : (name : List ℕ) → value_given values name ≡ value_given bs name)
      (fine : AllFine protocol_dir bs)
      (is : AreRowsAfter protocol_dir directory_beginning set_to rows journal) (noted : AreNoted rows)
      (locals : AreLocal rows journal) (given_is : given ≡ greatest_given journal) where
    abbrev with_set : Journal
    with_set = assigns moment values ∷ journal

    made : (i : ℕ) → is_fresh_in middle i ≡ makes (assigns moment values) journal (directory_index i)
    made = fresh_is journal moment bs values gives fine rows middle held held_then after numbered is noted

    made_all : is_fresh_in middle ≡ (λ row. makes (assigns moment values) journal (directory_index row))
    made_all = λ d i. (made i) d

    pub rows_then : AreRowsAfter protocol_dir directory_beginning set_to new with_set
    rows_then =
        rows_changed protocol_dir directory_beginning set_to (λ index state row. settled (given + count_below (is_fresh_in middle) (index + 1)) row) (λ index state row n. refl) middle new settles with_set
        (middle_rows journal moment bs values gives fine rows middle held held_then after numbered is noted)

    pub given_then : given + count_below (is_fresh_in middle) (2 ^ 32) ≡ greatest_given with_set
    given_then = ap (λ n. n + count_below (is_fresh_in middle) (2 ^ 32)) given_is ∙ ap (λ p. greatest_given journal + count_below p (2 ^ 32)) made_all

    pub locals_then : AreLocal new with_set
    locals_then i row here =
        let it = was_there (changed_row (λ index state row. settled (given + count_below (is_fresh_in middle) (index + 1)) row)) (row_in middle i) row (sym (settles i) ∙ here) in
        subst (λ (r : Row DirectoryRow). r.columns.local ≡ local_index with_set (directory_index i)) it.2 (by_test it.0 it.1 (nat_eq it.0.columns.local 0) refl)
      where
        by_test : (mid : Row DirectoryRow) → row_in middle i ≡ Some mid → (t : Bool) → nat_eq mid.columns.local 0 ≡ t
            → cond t (given + count_below (is_fresh_in middle) (mid.index + 1)) mid.columns.local ≡ local_index with_set (directory_index i)
        by_test mid e true fresh =
            let named = row_named middle i mid e in
            let is_made_then : makes (assigns moment values) journal (directory_index i) ≡ true = sym (made i) ∙ ap is_fresh e ∙ fresh in
            let number : option_map_or number_of (protocol_of (directory_index i)) 0 ≡ i = number_back i (found_there protocol_dir middle i mid held_then.1 e).0 in
            let next = count_next (is_fresh_in middle) i in
            let one : ◌≡◌ {A = ℕ} (cond (is_fresh_in middle i) 1 0) 1 = ap (λ b. cond b 1 0) (made i ∙ is_made_then) in
            let same : count_below (is_fresh_in middle) (mid.index + 1) ≡ count_below (is_fresh_in middle) (i + 1) = ap (λ k. count_below (is_fresh_in middle) (k + 1)) named in
            let sum : given + count_below (is_fresh_in middle) (mid.index + 1) ≡ greatest_given journal + 1 + count_below (is_fresh_in middle) i = omega (arith, next, one, same, given_is) in
            sum ∙ ap (λ p. greatest_given journal + 1 + count_below p i) made_all
            ∙ ap (λ k. greatest_given journal + 1 + count_made_below (assigns moment values) journal k) (sym number)
            ∙ sym (ap (λ b. cond b (greatest_given journal + 1 + count_made_below (assigns moment values) journal (option_map_or number_of (protocol_of (directory_index i)) 0)) (local_index journal (directory_index i))) is_made_then)
        by_test mid e false other = by_old (row_in rows i) refl
          where
            by_old : (o : Option (Row DirectoryRow)) → row_in rows i ≡ o → mid.columns.local ≡ local_index with_set (directory_index i)
            by_old None old = absurd (let fresh : nat_eq mid.columns.local 0 ≡ true = fresh_row bs rows middle held held_then after numbered i mid e None old in cc)
            by_old (Some was) old =
                let not_made : makes (assigns moment values) journal (directory_index i) ≡ false = sym (made i) ∙ ap is_fresh e ∙ other in
                local_left bs rows middle held held_then after numbered i mid e ∙ ap (λ o. (unwrap_or (columns_seen o) (new_row i)).local) old ∙ locals i was old
                ∙ sym (ap (λ b. cond b (greatest_given journal + 1 + count_made_below (assigns moment values) journal (option_map_or number_of (protocol_of (directory_index i)) 0)) (local_index journal (directory_index i))) not_made)

    -- whether the Set removed a row
    abbrev gone : ℕ → Bool
    gone i = not (is_absent (state_in rows i)) && is_absent (state_in middle i)

    removes_is : (i : ℕ) → gone i ≡ removes (assigns moment values) journal (directory_index i)
    removes_is i =
        ap (λ s. not (is_absent s) && is_absent (state_in middle i)) (state_now journal moment bs values gives fine rows middle held held_then after numbered is noted i)
        ∙ ap (λ s. not (is_absent (directory_state journal (directory_index i))) && is_absent s) (state_then journal moment bs values gives fine rows middle held held_then after numbered is noted i)

    changes_is : (i : ℕ) → changes (assigns moment values) journal (directory_index i) ≡ (is_changed_in middle i || gone i)
    changes_is i =
        turned (makes (assigns moment values) journal (directory_index i)) (removes (assigns moment values) journal (directory_index i))
        (changes_config (assigns moment values) journal (directory_index i) 7 || changes_config (assigns moment values) journal (directory_index i) 8)
        ∙ ap (λ b. b || removes (assigns moment values) journal (directory_index i)) (sym (changed_is journal moment bs values gives fine rows middle held held_then after numbered is noted i))
        ∙ ap (λ b. is_changed_in middle i || b) (sym (removes_is i))
      where
        turned : (a b c : Bool) → (a || (b || c)) ≡ ((a || c) || b)
        turned true b c = refl
        turned false true true = refl
        turned false true false = refl
        turned false false true = refl
        turned false false false = refl

    some_changes : changes_some (assigns moment values) journal ≡ (nat_lt 0 (count_below (is_changed_in middle) (2 ^ 32)) || nat_lt 0 (count_below gone (2 ^ 32)))
    some_changes = ap (λ p. nat_lt 0 (count_below p (2 ^ 32))) (λ d i. (changes_is i) d) ∙ some_either (is_changed_in middle) gone (2 ^ 32)

    -- how many rows there are before and after says whether one went
    module _ (before then : ℕ) (before_is : before ≡ count_below (λ i. is_some (row_in rows i)) (2 ^ 32)) (then_is : then ≡ count_below (λ i. is_some (row_in new i)) (2 ^ 32)) where
      before_count : before ≡ count_below (λ i. not (is_absent (state_in rows i))) (2 ^ 32)
      before_count = before_is ∙ ap (λ p. count_below p (2 ^ 32)) (λ d i. (sym (held_is protocol_dir rows i held.1)) d)

      then_count : then ≡ count_below (λ i. not (is_absent (state_in middle i))) (2 ^ 32)
      then_count = then_is ∙ ap (λ p. count_below p (2 ^ 32)) (λ d i. (ap is_some (settles i) ∙ mapped (row_in middle i) ∙ sym (held_is protocol_dir middle i held_then.1)) d)
        where
          mapped : (o : Option (Row DirectoryRow)) → is_some (option_map (changed_row (λ index state row. settled (given + count_below (is_fresh_in middle) (index + 1)) row)) o) ≡ is_some o
          mapped None = refl
          mapped (Some row) = refl

      made_count : count_below (is_fresh_in middle) (2 ^ 32) ≡ count_below (λ i. is_absent (state_in rows i) && not (is_absent (state_in middle i))) (2 ^ 32)
      made_count = ap (λ p. count_below p (2 ^ 32)) (λ d i. (fresh_here bs rows middle held held_then after numbered i) d)

      gone_is : nat_lt then (before + count_below (is_fresh_in middle) (2 ^ 32)) ≡ nat_lt 0 (count_below gone (2 ^ 32))
      gone_is =
          let moved = count_moved (λ i. is_absent (state_in rows i)) (λ i. is_absent (state_in middle i)) (2 ^ 32) in
          by_numbers then (before + count_below (is_fresh_in middle) (2 ^ 32)) (count_below gone (2 ^ 32)) (omega (arith, moved, before_count, then_count, made_count))
        where
          by_numbers : (a b c : ℕ) → b ≡ a + c → nat_lt a b ≡ nat_lt 0 c
          by_numbers a b c same = by_test (nat_lt 0 c) refl
            where
              by_test : (t : Bool) → nat_lt 0 c ≡ t → nat_lt a b ≡ t
              by_test true e = grind (arith, nat_tests)
              by_test false e = grind (arith, nat_tests)

      pub changed_then : (changed : ℕ) → changed ≡ last_change journal
          → cond (nat_lt 0 (count_below (is_changed_in middle) (2 ^ 32)) || nat_lt then (before + count_below (is_fresh_in middle) (2 ^ 32))) moment changed ≡ last_change with_set
      changed_then changed was =
          ap (λ b. cond (nat_lt 0 (count_below (is_changed_in middle) (2 ^ 32)) || b) moment changed) gone_is ∙ ap (λ b. cond b moment changed) (sym some_changes) ∙ ap (λ n. cond (changes_some (assigns moment values) journal) moment n) was
