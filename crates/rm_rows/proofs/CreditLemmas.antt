-- Adding to the row of a key.
use Rattle.std.proofs.Common.{◌≡◌, Bool, List, [], ◌∷◌, length, Some, None, refl, sym, ap, ◌∙◌, inl, inr}
use Rattle.std.specs.Option.{option_map}
use Rattle.std.proofs.lemmas.Bool.{cases_Bool}
use Rattle.std.proofs.lemmas.List.{length-map}
use Rattle.rm_evicting.specs.declared.Row.{Row}
use Rattle.rm_evicting.specs.Row.{credited}
use Rattle.rm_rows.specs.Table.{key_of, keys_of, row_of, value_of, with_value}
use Rattle.rm_rows.proofs.KeyLemmas.{keys_still}
use Rattle.rm_rows.proofs.ValueLemmas.{unchanged}

module _ {K C V : Type 0} (eq : K → K → Bool) (plus : V → C → V) where
  -- the value of the row, with the gain added and written back
  pub credited-here : (key : K) (old new : V) (gain : C) (rows : List (Row K V)) → option_map value_of (row_of eq key rows) ≡ Some old → new ≡ plus old gain → with_value eq key new rows ≡ credited eq plus key gain rows
  credited-here key old new gain [] is e = refl
  credited-here key old new gain (row ∷ rows) is e = elim (cases_Bool (eq key row.key)) [
    | inl t ↦
        let seen : Some row.value ≡ Some old = rw t at is in
        let same : row.value ≡ old = cc in
        rw t (ap (λ (x : V). record row { value = x } ∷ rows) (e ∙ ap (λ x. plus x gain) (sym same)))
    | inr f ↦ rw f (ap (λ l. row ∷ l) (credited-here key old new gain rows (rw f at is) e))
  ]

  pub credited-absent : (key : K) (gain : C) (rows : List (Row K V)) → row_of eq key rows ≡ None → credited eq plus key gain rows ≡ rows
  credited-absent key gain rows none = unchanged (λ row. eq key row.key) (λ row. record row { value = plus row.value gain }) rows none

  -- the keys stay
  pub keys-credited : (key : K) (gain : C) (rows : List (Row K V)) → keys_of (credited eq plus key gain rows) ≡ keys_of rows
  keys-credited key gain rows = keys_still (λ row. eq key row.key) (λ row. record row { value = plus row.value gain }) (λ row. refl) rows

  pub length-credited : (key : K) (gain : C) (rows : List (Row K V)) → length (credited eq plus key gain rows) ≡ length rows
  length-credited key gain rows = sym (length-map (credited eq plus key gain rows) key_of) ∙ ap length (keys-credited key gain rows) ∙ length-map rows key_of
