-- Where the index of a row is one number, the counts of rows go over the numbers 1 to 65535 alone.
use Rattle.std.proofs.Common.{◌≡◌, ℕ, ◌+◌, ◌^◌, ◌≤◌, zero, suc, Bool, true, false, cond, ◌&&◌, ◌||◌, not, nat_le, [], ◌∷◌, Option, Some, None, refl, sym, ap, ◌∙◌, arith, add-zero, zero-add}
use Rattle.std.proofs.Math.Nat.{add-suc}
use Rattle.std.proofs.lemmas.Bool.Decides.{nat_tests}
use Rattle.std.specs.Str.{bytes_eq}
use Rattle.rm_val.specs.Val.{Val}
use Rattle.rm_model.specs.Journal.{Journal, passes, assigns, samples, value_given}
use Rattle.rm_model.specs.Indexing.{one_number}
use Rattle.rm_model.specs.ControlTable.{ControlTable, row_index}
use Rattle.rm_model.specs.ControlRows.{no_rows, cell_name, value_ask, set_ask, next_state, state_of, is_absent, is_valid}
use Rattle.rm_model.specs.Judgement.{Bindings, place_of, is_row_number, is_made, is_held_or_made, count_below, rows_after}
use Rattle.rm_model.specs.Reserves.{state_after}
use Rattle.rm_model.specs.declared.row.State.{State}
use Rattle.rm_model.specs.declared.row.State.TheVariants.{Absent}
use Rattle.rm_model.specs.declared.row.Ask.TheVariants.{Nothing, Destroy}
use Rattle.rm_status.specs.OfRows.{IsFineAlone, AreSetsFine, count_rows}
use Rattle.rm_status.proofs.Bound.{bound_at, place_of_cell}
use Rattle.rm_status.proofs.Crowds.{row_number_at}

-- none of some more numbers counts
count_beyond : (test : ℕ → Bool) (low more : ℕ) → ((n : ℕ) → low ≤ n → test n ≡ false) → count_below test (low + more) ≡ count_below test low
unfolding count_below
count_beyond test low zero none = ap (count_below test) (add-zero low)
count_beyond test low (suc more) none =
    ap (count_below test) (add-suc low more) ∙ ap (λ b. cond b 1 0 + count_below test (low + more)) (none (low + more) (omega arith))
    ∙ zero-add (count_below test (low + more)) ∙ count_beyond test low more none

and_false : (b : Bool) → false ≡ (b && false)
and_false true = refl
and_false false = refl

gone : (b : Bool) (state : State) → state ≡ Absent → next_state (cond b Destroy Nothing) state ≡ Absent
gone true state is = refl
gone false state is = is

module _ (t : ControlTable) (one : t.indexing ≡ one_number) where
  row_is : (n : ℕ) → is_row_number t n ≡ (nat_le 1 n && nat_le n 65535)
  row_is n = ap (λ indexing. indexing.is_row n) one

  beyond : (n : ℕ) → 65536 ≤ n → is_row_number t n ≡ false
  beyond n above = row_is n ∙ grind (arith, nat_tests)

  -- where no other number passes a test than those of rows
  pub counts_rows : (test : ℕ → Bool) → ((n : ℕ) → is_row_number t n ≡ false → test n ≡ false) → count_below test (2 ^ 32) ≡ count_rows test
  counts_rows test others = count_beyond test 65536 4294901760 (λ n above. others n (beyond n above)) ∙ ap (λ p. count_below p 65536) (λ d n. (same n) d)
    where
      same : (n : ℕ) → test n ≡ (nat_le 1 n && test n)
      same zero = others zero (row_is zero)
      same (suc n) = let some : nat_le 1 (suc n) ≡ true = grind (arith, nat_tests) in sym (ap (λ b. b && test (suc n)) some)

  -- a Set asks something of rows only
  asks_nothing : (bs : Bindings) → IsFineAlone t bs → (n : ℕ) → is_row_number t n ≡ false → set_ask t bs (row_index t n) ≡ Nothing
  asks_nothing bs fine n other = by_given (value_given bs (cell_name t.entry t.status (row_index t n))) refl
    where
      by_given : (o : Option Val) → value_given bs (cell_name t.entry t.status (row_index t n)) ≡ o → value_ask t.status_kind o ≡ Nothing
      by_given None is = refl
      by_given (Some value) is =
          let (k, at) = bound_at bs (cell_name t.entry t.status (row_index t n)) value is in
          let yes : is_row_number t n ≡ true = row_number_at t bs k t.status n (ap (place_of t) at.named ∙ place_of_cell t t.status n) (fine k at.within) in
          let no : ◌≡◌ {A = Bool} true false = sym yes ∙ other in
          absurd (cc)

  -- so there are no other rows
  none_else : (journal : Journal) → AreSetsFine t journal → (n : ℕ) → is_row_number t n ≡ false → state_of t no_rows journal (row_index t n) ≡ Absent
  none_else [] fine n other = refl
  none_else (passes frame ∷ earlier) fine n other = none_else earlier fine n other
  none_else (assigns moment values ∷ earlier) fine n other =
      ap (λ ask. next_state ask (state_of t no_rows earlier (row_index t n))) (asks_nothing values fine.0 n other) ∙ none_else earlier fine.1 n other
  none_else (samples moment alarm None ∷ earlier) fine n other = gone (t.is_sampled && bytes_eq (row_index t n) (alarm ∷ [])) (state_of t no_rows earlier (row_index t n)) (none_else earlier fine n other)
  none_else (samples moment alarm (Some reading) ∷ earlier) fine n other = none_else earlier fine n other

  module _ (journal : Journal) (fine : AreSetsFine t journal) where
    pub valid_rows : count_below (λ row. is_valid (state_of t no_rows journal (row_index t row))) (2 ^ 32) ≡ count_rows (λ row. is_valid (state_of t no_rows journal (row_index t row)))
    valid_rows = counts_rows (λ row. is_valid (state_of t no_rows journal (row_index t row))) (λ n other. ap is_valid (none_else journal fine n other))

    module _ (bs : Bindings) (alone : IsFineAlone t bs) where
      pub held_rows : count_below (λ row. is_held_or_made t (rows_after t no_rows journal) bs (row_index t row)) (2 ^ 32) ≡ count_rows (λ row. is_held_or_made t (rows_after t no_rows journal) bs (row_index t row))
      held_rows = counts_rows (λ row. is_held_or_made t (rows_after t no_rows journal) bs (row_index t row))
          (λ n other. ap (λ s. not (is_absent s) || is_made s (set_ask t bs (row_index t n))) (none_else journal fine n other) ∙ ap (is_made Absent) (asks_nothing bs alone n other))

      pub valid_rows_after : count_below (λ row. is_valid (state_after t (rows_after t no_rows journal) bs (row_index t row))) (2 ^ 32) ≡ count_rows (λ row. is_valid (state_after t (rows_after t no_rows journal) bs (row_index t row)))
      valid_rows_after = counts_rows (λ row. is_valid (state_after t (rows_after t no_rows journal) bs (row_index t row)))
          (λ n other. ap (λ s. is_valid (next_state (set_ask t bs (row_index t n)) s)) (none_else journal fine n other) ∙ ap (λ ask. is_valid (next_state ask Absent)) (asks_nothing bs alone n other))
