-- The second pass of a binding, by what it asks of its row.
use Rattle.std.proofs.Common.{◌≡◌, ℕ, Bool, true, false, List, [], ◌∷◌, refl, sym, ap, ◌∙◌}
use Rattle.std.specs.Prelude.{◌&&◌, nat_eq}
use Rattle.rm_model.specs.declared.row.State.{State}
use Rattle.rm_model.specs.declared.row.Ask.{Ask}
use Rattle.rm_model.specs.declared.place.Place.{Place}
use Rattle.rm_model.specs.declared.place.Place.TheVariants.{Cell}
use Rattle.rm_model.specs.ControlTable.{row_index, ControlTable}
use Rattle.rm_model.specs.ControlRows.{Beginning, set_ask}
use Rattle.rm_model.specs.Judgement.{Bindings, name_at, place_of, row_fault, is_ready_with, is_crowded, is_again, together_fault, second_pass}

-- whether a row is ready matters to the binding of its status alone
ready_of_status : (t : ControlTable) (index : List ℕ) (state : State) (a : Ask) (ready crowded again : Bool) (column : ℕ)
    → row_fault t index state a (nat_eq column t.status && ready) crowded again column ≡ row_fault t index state a ready crowded again column
ready_of_status t index state a ready crowded again column = by (nat_eq column t.status) refl
  where
    by : (b : Bool) → nat_eq column t.status ≡ b → row_fault t index state a (nat_eq column t.status && ready) crowded again column ≡ row_fault t index state a ready crowded again column
    by true is = rw is refl
    by false is = rw is refl

module _ (t : ControlTable) (before : Beginning) (bs : Bindings) (k column row : ℕ) (p : Place) (at : p ≡ place_of t (name_at bs k)) (cell : p ≡ Cell column row) where
  pub second_is : (state : State) (a : Ask) (ready crowded again : Bool)
      → state ≡ before.state (row_index t row) → a ≡ set_ask t bs (row_index t row) → ready ≡ (nat_eq column t.status && is_ready_with t before bs (row_index t row))
      → crowded ≡ is_crowded t before bs → again ≡ is_again bs k
      → row_fault t (row_index t row) state a ready crowded again column ≡ second_pass t before bs k
  second_is state a ready crowded again states asks readies crowds agains =
      ap (λ s. row_fault t (row_index t row) s a ready crowded again column) states
      ∙ ap (λ x. row_fault t (row_index t row) (before.state (row_index t row)) x ready crowded again column) asks
      ∙ ap (λ b. row_fault t (row_index t row) (before.state (row_index t row)) (set_ask t bs (row_index t row)) b crowded again column) readies
      ∙ ready_of_status t (row_index t row) (before.state (row_index t row)) (set_ask t bs (row_index t row)) (is_ready_with t before bs (row_index t row)) crowded again column
      ∙ ap (λ b. row_fault t (row_index t row) (before.state (row_index t row)) (set_ask t bs (row_index t row)) (is_ready_with t before bs (row_index t row)) b again column) crowds
      ∙ ap (λ b. row_fault t (row_index t row) (before.state (row_index t row)) (set_ask t bs (row_index t row)) (is_ready_with t before bs (row_index t row)) (is_crowded t before bs) b column) agains
      ∙ ap (together_fault t before bs k) (sym cell ∙ at)
