-- What the calls of a control table leave, by the facts that their proofs have.
use Rattle.std.proofs.Common.{◌≡◌, ℕ, ◌≤◌, ◌+◌, suc, true, false, cond, not, nat_lt, List, [], ◌∷◌, length, Some, None, nat_eq, refl, sym, ap, subst, ◌∙◌, arith}
use Rattle.std.specs.Prelude.{insert, remove}
use Rattle.std.specs.List.{position_or_len}
use Rattle.rm_model.specs.ControlTable.{ControlTable}
use Rattle.rm_status.specs.declared.row.Row.{Row}
use Rattle.rm_status.specs.Rows.{row_in, place_in, IsThere, AreControlRows}
use Rattle.rm_status.proofs.Places.{within}
use Rattle.rm_status.proofs.RowEdits.{without, remove-place, rising-without, row_in-without, there-without, with_row, insert-place, rising-with_row, row_in-with_row, there-with_row, length-with_row}
use borrow.Author.Tests.{eqb-true}

module _ {C : Type 0} where
  abbrev pub Lacks : List (Row C) → List (Row C) → ℕ → Type 0
  Lacks now new i = (j : ℕ) → row_in new j ≡ cond (nat_eq i j) None (row_in now j)

  pub removed : (table : ControlTable) (items now new : List (Row C)) (i k : ℕ) → items ≡ now → k ≡ place_in now i → new ≡ remove items k → AreControlRows table items → AreControlRows table new × Lacks now new i
  removed table items now new i k view place is rows =
      let e : new ≡ without items i = is ∙ ap (λ n. remove items n) (place ∙ ap (λ l. place_in l i) (sym view)) ∙ remove-place items i in (
        subst (AreControlRows table) (sym e) (rising-without items i rows.0, there-without table items i rows.1),
        λ j. ap (λ l. row_in l j) e ∙ row_in-without items i j rows.0 ∙ ap (λ l. cond (nat_eq i j) None (row_in l j)) view,
      )

  past : (rows : List (Row C)) (i : ℕ) → length rows ≤ place_in rows i → row_in rows i ≡ None
  past [] i h = refl
  past (r ∷ rows) i h =
      elim (nat_eq r.index i) as (λ t. suc (length rows) ≤ cond (not t) (1 + place_in rows i) 0 → cond t (Some r) (row_in rows i) ≡ None) [
        | true ↦ λ k. absurd (omega arith)
        | false ↦ λ k. past rows i (omega arith)
      ] h

  pub not_removed : (items now : List (Row C)) (i k : ℕ) → items ≡ now → k ≡ place_in now i → length items ≤ k → Lacks now now i
  not_removed items now i k view place h j =
      elim (nat_eq i j) as (λ t. nat_eq i j ≡ t → row_in now j ≡ cond t None (row_in now j)) [
        | true ↦ λ e. subst (λ n. row_in now n ≡ None) (eqb-true i j e) (past now i (subst (λ l. length l ≤ place_in now i) view (subst (λ n. length items ≤ n) place h)))
        | false ↦ λ e. refl
      ] refl

  abbrev pub Has : List (Row C) → List (Row C) → Row C → Type 0
  Has now new x = (j : ℕ) → row_in new j ≡ cond (nat_eq x.index j) (Some x) (row_in now j)

  pub inserted : (table : ControlTable) (items now new : List (Row C)) (x : Row C) (k : ℕ) → items ≡ now → k ≡ position_or_len (λ r. nat_lt x.index r.index) now → new ≡ insert items k x → AreControlRows table items → IsThere table x → row_in now x.index ≡ None → AreControlRows table new × Has now new x × (length new ≡ length now + 1)
  inserted table items now new x k view place is rows here absent =
      let e : new ≡ with_row items x = is ∙ ap (λ n. insert items n x) (place ∙ ap (λ l. position_or_len (λ r. nat_lt x.index r.index) l) (sym view)) ∙ insert-place items x in
      let gone : row_in items x.index ≡ None = ap (λ l. row_in l x.index) view ∙ absent in (
        subst (AreControlRows table) (sym e) (rising-with_row items x rows.0 gone, there-with_row table items x rows.1 here),
        λ j. ap (λ l. row_in l j) e ∙ row_in-with_row items x j gone ∙ ap (λ l. cond (nat_eq x.index j) (Some x) (row_in l j)) view,
        ap (λ l. length l) e ∙ length-with_row items x ∙ ap (λ l. length l + 1) view,
      )

  pub place_fits : (items now : List (Row C)) (i k : ℕ) → items ≡ now → k ≡ position_or_len (λ r. nat_lt i r.index) now → k ≤ length items
  place_fits items now i k view place = subst (λ l. k ≤ length l) (sym view) (subst (λ n. n ≤ length now) (sym place) (within (λ (r : Row C). nat_lt i r.index) now))
