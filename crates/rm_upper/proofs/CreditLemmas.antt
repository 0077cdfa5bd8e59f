-- What a reference makes in the row of a key.
use Rattle.std.proofs.Common.{◌≡◌, ℕ, Bool, List, [], ◌∷◌, Option, Some, None, refl, ap, inl, inr}
use Rattle.std.specs.Option.{option_map}
use Rattle.std.proofs.lemmas.Bool.{cases_Bool}
use Rattle.rm_evicting.specs.declared.Row.{Row}
use Rattle.rm_rows.specs.Table.{row_of, value_of}
use Rattle.rm_upper.specs.declared.slots.Slot.{Slot}
use Rattle.rm_upper.specs.Kept.{NetworkRow}
use Rattle.rm_upper.specs.Kept.{is_among, all_made}
use Rattle.rm_upper.specs.Shown.{made_in}

module _ {K N A : Type 0} (eq : K → K → Bool) (slots : List (Option Slot)) (path : List ℕ) where
  pub made-here : (h : K) (v : NetworkRow N A) (rows : List (Row K (NetworkRow N A))) → option_map value_of (row_of eq h rows) ≡ Some v → made_in eq slots path h rows ≡ all_made (is_among path) slots v.applications
  made-here h v [] is = cc
  made-here h v (row ∷ rows) is = elim (cases_Bool (eq h row.key)) [
    | inl t ↦
        let seen : Some row.value ≡ Some v = rw t at is in
        let same : row.value ≡ v = cc in
        rw t (ap (λ (x : NetworkRow N A). all_made (is_among path) slots x.applications) same)
    | inr f ↦ rw f (made-here h v rows (rw f at is))
  ]

  pub made-absent : (h : K) (rows : List (Row K (NetworkRow N A))) → row_of eq h rows ≡ None → made_in eq slots path h rows ≡ 0
  made-absent h [] n = refl
  made-absent h (row ∷ rows) n = elim (cases_Bool (eq h row.key)) [
    | inl t ↦ let f : Some row ≡ None = rw t at n in cc
    | inr f ↦ rw f (made-absent h rows (rw f at n))
  ]
