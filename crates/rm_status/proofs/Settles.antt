-- The state of a row after a Set.
use Rattle.std.proofs.Common.{◌≡◌, ℕ, [], ◌∷◌, Option, Some, refl, ap, sym, ◌∙◌, subst}
use Rattle.rm_val.specs.Val.{Val}
use Rattle.rm_model.specs.declared.row.State.{State}
use Rattle.rm_model.specs.declared.row.State.TheVariants.{Absent, UnderCreation, Valid}
use Rattle.rm_model.specs.declared.row.Ask.{Ask}
use Rattle.rm_model.specs.ControlTable.{row_index, ControlTable}
use Rattle.rm_model.specs.ControlRows.{set_ask, next_state}
use Rattle.rm_model.specs.Judgement.{Bindings}
use Rattle.rm_status.specs.declared.row.Row.{Row}
use Rattle.rm_status.specs.Rows.{IsThere}
use Rattle.rm_status.specs.Commit.{settle_row, if_there}
use Rattle.rm_status.proofs.RowEdits.{Keeps}

module _ {C : Type 0} (t : ControlTable) (with_column : C → ℕ → Val → C) (blank : ℕ → C) where
  not_absent : (s : State) (r : Row C) → (s ≡ Absent → ⊥) → if_there t with_column blank (record r { state = s }) ≡ Some (record r { state = s })
  not_absent Absent r h = absurd (h refl)
  not_absent UnderCreation r h = refl
  not_absent Valid r h = refl

  abbrev settled : Row C → State → Option (Row C)
  settled r s = if_there t with_column blank (record r { state = s })

  pub settle_kept : (bs : Bindings) (r : Row C) (a : Ask) (s : State) → a ≡ set_ask t bs (row_index t r.index) → s ≡ next_state a r.state → (s ≡ Absent → ⊥) → settle_row t with_column blank bs r ≡ Some (record r { state = s })
  settle_kept bs r a s asked is h = ap (settled r) (ap (λ x. next_state x r.state) (sym asked) ∙ sym is) ∙ not_absent s r h

  stays : (s : State) (r x : Row C) → settled r s ≡ Some x → IsThere t r → IsThere t x
  stays Absent r x e h = absurd (cc)
  stays UnderCreation r x e h = let y : Row C = record r { state = UnderCreation } in let is : y ≡ x = cc in subst (IsThere t) is (h.0, refl)
  stays Valid r x e h = let y : Row C = record r { state = Valid } in let is : y ≡ x = cc in subst (IsThere t) is (h.0, refl)

  pub settle_there : (bs : Bindings) (r x : Row C) → settle_row t with_column blank bs r ≡ Some x → IsThere t r → IsThere t x
  settle_there bs r x e h = stays (next_state (set_ask t bs (row_index t r.index)) r.state) r x e h

  keeps_at : (s : State) (r : Row C) → Keeps r (settled r s)
  keeps_at Absent r = tt
  keeps_at UnderCreation r = refl
  keeps_at Valid r = refl

  pub settle_index : (bs : Bindings) (r : Row C) → Keeps r (settle_row t with_column blank bs r)
  settle_index bs r = keeps_at (next_state (set_ask t bs (row_index t r.index)) r.state) r
