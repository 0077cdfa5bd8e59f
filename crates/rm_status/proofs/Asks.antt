-- What a Set asks of a row, found by a search.
use Rattle.std.proofs.Common.{◌≡◌, ℕ, List, [], ◌∷◌, Some, None, find, sym, ap, ◌∙◌, option_map}
use Rattle.std.specs.Str.{bytes_eq}
use Rattle.rm_val.specs.Val.{Val}
use Rattle.rm_model.specs.ControlTable.{row_index, ControlTable}
use Rattle.rm_model.specs.ControlRows.{cell_name, value_ask, set_ask}
use Rattle.rm_model.specs.Judgement.{Bindings, nothing_bound, value_at}
use Rattle.rm_model.specs.declared.row.StatusKind.{StatusKind}
use Rattle.rm_model.specs.declared.row.Ask.TheVariants.{Nothing}
use Rattle.std.proofs.Common.{get_or}

module _ (table : ControlTable) (bindings : Bindings) (row : ℕ) where
  abbrev name : List ℕ
  name = cell_name table.entry table.status (row_index table row)

  pub ask_found : (kind : StatusKind) → kind ≡ table.status_kind → (k : ℕ) (value : Val) → find (λ a. bytes_eq a.name name) bindings ≡ Some (get_or bindings k nothing_bound) → value ≡ value_at bindings k → value_ask kind (Some value) ≡ set_ask table bindings (row_index table row)
  ask_found kind same k value found is =
      ap (λ x. value_ask x (Some value)) same ∙ ap (λ v. value_ask table.status_kind (Some v)) is
      ∙ ap (λ o. value_ask table.status_kind (option_map (λ a. a.value) o)) (sym found)

  pub ask_none : find (λ a. bytes_eq a.name name) bindings ≡ None → Nothing ≡ set_ask table bindings (row_index table row)
  ask_none none = ap (λ o. value_ask table.status_kind (option_map (λ a. a.value) o)) (sym none)
