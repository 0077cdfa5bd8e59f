-- The rows one by one, as they are settled.
use Rattle.std.proofs.Common.{◌≡◌, ℕ, ◌+◌, ◌<◌, ◌≤◌, ◌^◌, List, [], ◌∷◌, Bool, true, false, cond, ◌||◌, nat_eq, nat_le, nat_lt, Option, Some, None, option_map, refl, sym, ap, ◌∙◌, subst, arith}
use Rattle.std.proofs.lemmas.Bool.Decides.{nat_tests}
use Rattle.std.proofs.lemmas.Option.{none-some, same_Some}
use borrow.Author.Tests.{eqb-true}
use Rattle.rm_model.specs.Judgement.{count_below}
use Rattle.rm_model.specs.declared.row.State.{State}
use Rattle.rm_status.specs.declared.row.Row.{Row}
use Rattle.rm_status.specs.Rows.{row_in, IsIndexAfter, AreControlRows}
use Rattle.rm_status.specs.Change.{changed_row}
use Rattle.rm_status.proofs.RowFacts.{row_fits}
use Rattle.rm_dir.specs.declared.row.DirectoryRow.{DirectoryRow}
use Rattle.rm_dir.specs.ProtocolDir.{protocol_dir}
use Rattle.rm_dir.specs.Settling.{is_fresh, is_changed, is_fresh_in, is_changed_in, settled}
use Rattle.rm_dir.proofs.Counts.{count_step, count_end, count_within, some_more}

-- a row that is found under a number has it
pub row_named : {C : Type 0} (rows : List (Row C)) (i : ℕ) (row : Row C) → row_in rows i ≡ Some row → row.index ≡ i
row_named [] i row is = absurd (cc)
row_named (first ∷ rows) i row is = elim (nat_eq first.index i) as (λ t. nat_eq first.index i ≡ t → cond t (Some first) (row_in rows i) ≡ Some row → row.index ≡ i) [
  | true ↦ λ named here. let same = same_Some _ _ here in subst (λ r. r.index ≡ i) same (eqb-true first.index i named)
  | false ↦ λ _ later. row_named rows i row later
] refl is

none_mapped : {A B : Type 0} (f : A → B) (o : Option A) → option_map f o ≡ None → o ≡ None
none_mapped f None is = refl
none_mapped f (Some x) is = absurd (cc)

-- what all rows up to a number became, of which the last was settled last
abbrev pub part : List (Row DirectoryRow) → (given at : ℕ) → ℕ → State → DirectoryRow → DirectoryRow
part old given at index state row = cond (nat_le index at) (settled (given + count_below (is_fresh_in old) (index + 1)) row) row

-- what is known while rows are settled: those up to a number are, and the others are as they were
pub record IsSettledTo (old now : List (Row DirectoryRow)) (given so_far : ℕ) (changed : Bool) (at : ℕ) : Type 0 where
  pub rows : (i : ℕ) → row_in now i ≡ option_map (changed_row (part old given at)) (row_in old i)
  pub count : so_far ≡ given + count_below (is_fresh_in old) (at + 1)
  pub changes : changed ≡ nat_lt 0 (count_below (is_changed_in old) (at + 1))
  pub within : at < 2 ^ 32

module _ (old : List (Row DirectoryRow)) (held : AreControlRows protocol_dir old) (given : ℕ) where
  no_zero : row_in old 0 ≡ None
  no_zero = by_row (row_in old 0) refl
    where
      by_row : (o : Option (Row DirectoryRow)) → row_in old 0 ≡ o → o ≡ None
      by_row None e = refl
      by_row (Some row) e = absurd (let it = row_fits protocol_dir old 0 row held.1 e in omega (arith, it))

  -- no row was settled yet
  pub begun : IsSettledTo old old given given false 0
  unfolding count_below
  begun = record {
    rows = λ i. by_row i (row_in old i) refl;
    count = let none = first is_fresh refl in omega (arith, none);
    changes = let none = first is_changed refl in sym (ap (nat_lt 0) none);
    within = omega arith;
  }
    where
      by_row : (i : ℕ) (o : Option (Row DirectoryRow)) → row_in old i ≡ o → o ≡ option_map (changed_row (part old given 0)) o
      by_row i None e = refl
      by_row i (Some row) e =
          let it = row_fits protocol_dir old i row held.1 e in
          let named = row_named old i row e in
          let later : nat_le row.index 0 ≡ false = grind (arith, nat_tests) in
          rw later refl

      first : (test : Option (Row DirectoryRow) → Bool) → test None ≡ false → count_below (λ i. test (row_in old i)) (0 + 1) ≡ 0
      first test absent = ap (λ b. cond b 1 0 + 0) (ap test no_zero ∙ absent)

  module _ (now : List (Row DirectoryRow)) (so_far : ℕ) (changed : Bool) (at : ℕ) (is : IsSettledTo old now given so_far changed at) where
    -- the rows above are as they were
    as_it_was : (i : ℕ) → at < i → row_in now i ≡ row_in old i
    as_it_was i above = is.rows i ∙ by_row (row_in old i) refl
      where
        by_row : (o : Option (Row DirectoryRow)) → row_in old i ≡ o → option_map (changed_row (part old given at)) o ≡ o
        by_row None e = refl
        by_row (Some row) e = let named = row_named old i row e in let later : nat_le row.index at ≡ false = grind (arith, nat_tests) in rw later refl

    module _ (number : ℕ) (least : IsIndexAfter now at (Some number)) where
      none_between : (i : ℕ) → at < i → i < number → row_in old i ≡ None
      none_between i low high = sym (as_it_was i low) ∙ least.2 i low high

      pub fresh_step : count_below (is_fresh_in old) (number + 1) ≡ count_below (is_fresh_in old) (at + 1) + cond (is_fresh_in now number) 1 0
      fresh_step =
          count_step (is_fresh_in old) at number least.0 (λ i low high. ap is_fresh (none_between i low high))
          ∙ ap (λ o. count_below (is_fresh_in old) (at + 1) + cond (is_fresh o) 1 0) (sym (as_it_was number least.0))

      changed_step : count_below (is_changed_in old) (number + 1) ≡ count_below (is_changed_in old) (at + 1) + cond (is_changed_in now number) 1 0
      changed_step =
          count_step (is_changed_in old) at number least.0 (λ i low high. ap is_changed (none_between i low high))
          ∙ ap (λ o. count_below (is_changed_in old) (at + 1) + cond (is_changed o) 1 0) (sym (as_it_was number least.0))

      in_range : number < 2 ^ 32
      in_range = (row_fits protocol_dir old number least.1.0 held.1 (sym (as_it_was number least.0) ∙ least.1.1)).1

      -- its local index is one that there is
      pub room : given + count_below (is_fresh_in old) (2 ^ 32) ≤ 2147483647 → so_far + cond (is_fresh_in now number) 1 0 ≤ 2147483647
      room enough =
          let step = fresh_step in
          let few = count_within (is_fresh_in old) (number + 1) (2 ^ 32) (omega (arith, in_range)) in
          omega (arith, enough, step, few, is.count)

      module _ (new : List (Row DirectoryRow)) (local : ℕ) (more : Bool)
          (local_is : local ≡ so_far + cond (is_fresh_in now number) 1 0)
          (more_is : more ≡ (changed || is_changed_in now number))
          (settles : (i : ℕ) → row_in new i ≡ option_map (changed_row (λ index state columns. cond (nat_eq index number) (settled local columns) columns)) (row_in now i)) where
        count_then : local ≡ given + count_below (is_fresh_in old) (number + 1)
        count_then = let step = fresh_step in omega (arith, local_is, step, is.count)

        one : (i : ℕ) (row : Row DirectoryRow) → row_in old i ≡ Some row → changed_row (λ index state columns. cond (nat_eq index number) (settled local columns) columns) (changed_row (part old given at) row) ≡ changed_row (part old given number) row
        one i row e = by_test (nat_eq row.index number) refl
          where
            named : row.index ≡ i
            named = row_named old i row e

            by_test : (t : Bool) → nat_eq row.index number ≡ t → changed_row (λ index state columns. cond (nat_eq index number) (settled local columns) columns) (changed_row (part old given at) row) ≡ changed_row (part old given number) row
            by_test true here =
                let same : row.index ≡ number = eqb-true row.index number here in
                let later : nat_le row.index at ≡ false = grind (arith, nat_tests, least.0) in
                let reached : nat_le row.index number ≡ true = grind (arith, nat_tests) in
                rw (here, later, reached) (ap (λ n. record row { columns = settled n row.columns }) (count_then ∙ ap (λ k. given + count_below (is_fresh_in old) (k + 1)) (sym same)))
            by_test false other = rw other (by_place (nat_le row.index at) refl)
              where
                by_place : (t : Bool) → nat_le row.index at ≡ t → record row { columns = cond t (settled (given + count_below (is_fresh_in old) (row.index + 1)) row.columns) row.columns } ≡ changed_row (part old given number) row
                by_place true before = let reached : nat_le row.index number ≡ true = grind (arith, nat_tests, least.0) in rw reached refl
                by_place false behind =
                    let later : nat_le row.index number ≡ false = beyond (nat_le row.index number) refl in
                    rw later refl
                  where
                    beyond : (t : Bool) → nat_le row.index number ≡ t → t ≡ false
                    beyond false e' = refl
                    beyond true e' =
                        let here : row.index ≡ i = named in
                        let above : at < i = grind (arith, nat_tests) in
                        let below : i < number = grind (arith, nat_tests) in
                        absurd (none-some row (sym (none_between i above below) ∙ e))

        by_row : (i : ℕ) (o : Option (Row DirectoryRow)) → row_in old i ≡ o → option_map (changed_row (λ index state columns. cond (nat_eq index number) (settled local columns) columns)) (option_map (changed_row (part old given at)) o) ≡ option_map (changed_row (part old given number)) o
        by_row i None e = refl
        by_row i (Some row) e = ap Some (one i row e)

        pub one_further : IsSettledTo old new given local more number
        one_further = record {
          rows = λ i. settles i ∙ ap (option_map (changed_row (λ index state columns. cond (nat_eq index number) (settled local columns) columns))) (is.rows i) ∙ by_row i (row_in old i) refl;
          count = count_then;
          changes = more_is ∙ ap (λ b. b || is_changed_in now number) is.changes ∙ sym (some_more (count_below (is_changed_in old) (at + 1)) (is_changed_in now number)) ∙ ap (nat_lt 0) (sym changed_step);
          within = in_range;
        }

    module _ (none : IsIndexAfter now at None) where
      none_above : (i : ℕ) → at < i → row_in old i ≡ None
      none_above i above = sym (as_it_was i above) ∙ none i above

      pub all_fresh : count_below (is_fresh_in old) (2 ^ 32) ≡ count_below (is_fresh_in old) (at + 1)
      all_fresh = count_end (is_fresh_in old) at (2 ^ 32) (omega (arith, is.within)) (λ i above. ap is_fresh (none_above i above))

      pub all_changed : count_below (is_changed_in old) (2 ^ 32) ≡ count_below (is_changed_in old) (at + 1)
      all_changed = count_end (is_changed_in old) at (2 ^ 32) (omega (arith, is.within)) (λ i above. ap is_changed (none_above i above))

      pub all_rows : (i : ℕ) → row_in now i ≡ option_map (changed_row (λ index state row. settled (given + count_below (is_fresh_in old) (index + 1)) row)) (row_in old i)
      all_rows i = is.rows i ∙ by_row' (row_in old i) refl
        where
          by_row' : (o : Option (Row DirectoryRow)) → row_in old i ≡ o → option_map (changed_row (part old given at)) o ≡ option_map (changed_row (λ index state row. settled (given + count_below (is_fresh_in old) (index + 1)) row)) o
          by_row' None e = refl
          by_row' (Some row) e = let reached : nat_le row.index at ≡ true = before (nat_le row.index at) refl in rw reached refl
            where
              before : (t : Bool) → nat_le row.index at ≡ t → t ≡ true
              before true h = refl
              before false h =
                  let named = row_named old i row e in
                  let above : at < i = grind (arith, nat_tests) in
                  absurd (none-some row (sym (none_above i above) ∙ e))
