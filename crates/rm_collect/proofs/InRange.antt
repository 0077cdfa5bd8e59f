-- The columns of rows stay in range.
use Rattle.std.proofs.Common.{◌≡◌, ℕ, ◌<◌, List, [], ◌∷◌, true, false, cond, length, Option, Some, None, refl, sym, ◌∙◌, subst, nat_eq}
use Rattle.std.specs.Prelude.{unwrap_or}
use Rattle.std.specs.Option.{option_or}
use Rattle.rm_val.specs.Val.{Val}
use Rattle.rm_val.specs.declared.error.ErrorStatus.{ErrorStatus}
use Rattle.rm_model.specs.Judgement.{Bindings, column_kind, value_fault, alone_fault, writable_kind, place_of, first_pass}
use Rattle.rm_model.specs.declared.place.Place.{Place}
use Rattle.rm_model.specs.declared.place.Place.TheVariants.{Outside, Entry, Column, Cell}
use Rattle.rm_group.specs.Alone.{AreFineAlone}
use Rattle.rm_columns.specs.RowForm.{RowForm}
use Rattle.rm_status.specs.declared.row.Row.{Row}
use Rattle.rm_status.specs.Rows.{row_in, columns_seen}
use Rattle.rm_status.specs.Commit.{put_at, put_all, row_after}
use Rattle.rm_status.proofs.Puts.{AllFine}
use Rattle.rm_status.proofs.RowsAfterLemmas.{is_after}
use Rattle.rm_collect.specs.Collection.{Collection, IsLawful, alone}
use Rattle.rm_collect.specs.WellHeld.{AreAllInRange}

no_first : (o p : Option ErrorStatus) → option_or o p ≡ None → o ≡ None
no_first None p e = refl
no_first (Some x) p e = cc

module _ {C P S J : Type 0} (form : RowForm C) (collection : Collection C P S J) (laws : IsLawful form collection) where
  -- nothing is wrong with a binding alone that is of the control table
  pub first_fine : (bindings : Bindings) → AreFineAlone (alone form collection) bindings → (place : ℕ) → place < length bindings → first_pass form.table bindings place ≡ None
  first_fine bindings fine place within = no_first _ _ (fine place within)

  one_put : (i : ℕ) (p : Place) (v : Val) (c : C) → alone_fault form.table p v ≡ None → collection.in_range c → collection.in_range (put_at form.table form.with_column form.blank i p v c)
  one_put i Outside v c fine is = is
  one_put i Entry v c fine is = is
  one_put i (Column n) v c fine is = is
  one_put i (Cell n k) v c fine is =
      elim (nat_eq k i) as (λ s. collection.in_range (cond s (cond (nat_eq n form.table.status) c (form.with_column c n v)) c)) [
        | true ↦ elim (nat_eq n form.table.status) as (λ s. nat_eq n form.table.status ≡ s → collection.in_range (cond s c (form.with_column c n v))) [
          | true ↦ λ _. is
          | false ↦ λ e.
              let taken : value_fault (writable_kind form.table n) v ≡ None = no_first _ _ fine in
              let own : value_fault (column_kind form.table n) v ≡ None = rw e at taken in
              laws.put_in_range c n v own is
        ] refl
        | false ↦ is
      ]

  all_put : (bs : Bindings) (i : ℕ) (c : C) → AllFine form.table bs → collection.in_range c → collection.in_range (put_all form.table form.with_column form.blank bs i c)
  all_put [] i c fine is = is
  all_put (b ∷ more) i c fine is = one_put i (place_of form.table b.name) b.value (put_all form.table form.with_column form.blank more i c) fine.0 (all_put more i c fine.1 is)

  -- so are the rows after a Set
  pub rows_in_range : (bs : Bindings) (rows new : List (Row C)) → AllFine form.table bs → ((i : ℕ) → row_in new i ≡ row_after form.table form.with_column form.blank bs i (row_in rows i)) → AreAllInRange collection rows → AreAllInRange collection new
  rows_in_range bs rows new fine after are i row here =
      let next = is_after form.table form.with_column form.blank bs i (row_in rows i) row (sym (after i) ∙ here) in
      subst collection.in_range (sym next.1) (all_put bs i (unwrap_or (columns_seen (row_in rows i)) (form.blank i)) fine (was (row_in rows i) refl))
    where
      was : (o : Option (Row C)) → row_in rows i ≡ o → collection.in_range (unwrap_or (columns_seen o) (form.blank i))
      was None e = laws.blank_in_range i
      was (Some r) e = are i r e
