-- A Set makes no more rows than it has bindings.
use Rattle.std.proofs.Common.{◌≡◌, ℕ, zero, suc, ◌<◌, ◌≤◌, ◌^◌, length, Bool, true, false, cond, not, ◌&&◌, nat_eq, None, arith}
use Rattle.rm_model.specs.ControlTable.{ControlTable, row_index}
use Rattle.rm_model.specs.ControlRows.{set_ask}
use Rattle.rm_model.specs.Judgement.{Bindings, first_pass, is_made, is_again, place_of, name_at, count_below}
use Rattle.rm_model.specs.declared.row.State.{State}
use Rattle.rm_model.specs.declared.place.Place.{Place}
use Rattle.rm_model.specs.declared.place.Place.TheVariants.{Outside, Entry, Column, Cell}
use Rattle.rm_status.specs.Commit.{made_by, count_made}
use Rattle.rm_status.proofs.Crowds.{all_made_count}

module _ (t : ControlTable) (state : ℕ → State) (bs : Bindings) where
  one_at_most : (b : Bool) → cond b 1 0 ≤ 1
  one_at_most true = omega arith
  one_at_most false = omega arith

  one_by : (again : Bool) (place : Place) → made_by t state bs again place ≤ 1
  one_by again Outside = omega arith
  one_by again Entry = omega arith
  one_by again (Column column) = omega arith
  one_by again (Cell column row) = one_at_most (nat_eq column t.status && (not again && is_made (state row) (set_ask t bs (row_index t row))))

  few_made : (k : ℕ) → count_made t state bs k ≤ k
  few_made zero = omega arith
  few_made (suc k) =
      let rest = few_made k in
      let one = one_by (is_again bs k) (place_of t (name_at bs k)) in
      omega (arith, rest, one)

  pub few_asked : ((k : ℕ) → k < length bs → first_pass t bs k ≡ None) → count_below (λ i. is_made (state i) (set_ask t bs (row_index t i))) (2 ^ 32) ≤ length bs
  few_asked fine = let count = all_made_count t state bs fine in let few = few_made (length bs) in omega (arith, count, few)
