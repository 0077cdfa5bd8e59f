-- What a Set asks of a row of the directory, found by a search.
use Rattle.std.proofs.Common.{◌≡◌, ℕ, ◌<◌, List, length, Bool, true, false, cond, not, ◌&&◌, nat_eq, Some, refl, sym, ◌∙◌, arith}
use Rattle.std.proofs.lemmas.Bool.Decides.{nat_tests}
use Rattle.std.specs.Str.{bytes_eq}
use Rattle.rm_val.specs.Val.{Val}
use Rattle.rm_model.specs.ControlRows.{cell_name, value_ask, set_ask}
use Rattle.rm_model.specs.Judgement.{Bindings, nothing_bound, name_at, value_at, place_of}
use Rattle.rm_model.specs.declared.row.Ask.TheVariants.{Nothing}
use Rattle.rm_model.specs.declared.row.StatusKind.TheVariants.{RowStatus}
use Rattle.rm_group.proofs.Finds.{find_here, find_never}
use Rattle.rm_status.specs.Commit.{is_cell}
use Rattle.rm_status.proofs.Asks.{ask_found, ask_none}
use Rattle.rm_status.proofs.PlaceLemmas.{is_cell_name}
use Rattle.rm_dir.specs.DirectoryIndex.{directory_index}
use Rattle.rm_dir.specs.ProtocolDir.{protocol_dir, directory_entry}

module _ (bs : Bindings) (row : ℕ) where
  abbrev name : List ℕ
  name = cell_name directory_entry 10 (directory_index row)

  abbrev is_at : ℕ → Bool
  is_at k = is_cell 10 row (place_of protocol_dir (name_at bs k))

  named : (k : ℕ) → bytes_eq (name_at bs k) name ≡ is_at k
  named k = sym (is_cell_name protocol_dir directory_entry (name_at bs k) 10 row)

  -- by the first binding of its status
  pub asked_here : (k : ℕ) (value : Val) → k < length bs → ((j : ℕ) → j < k → is_at j ≡ false) → is_at k ≡ true → value ≡ value_at bs k → value_ask RowStatus (Some value) ≡ set_ask protocol_dir bs (directory_index row)
  asked_here k value within before here is =
      ask_found protocol_dir bs row RowStatus refl k value
      (find_here (λ a. bytes_eq a.name name) nothing_bound bs k within (λ j under. named j ∙ before j under) (named k ∙ here)) is

  -- and nothing where there is none
  pub none_asked : ((j : ℕ) → j < length bs → is_at j ≡ false) → Nothing ≡ set_ask protocol_dir bs (directory_index row)
  none_asked none = ask_none protocol_dir bs row (find_never (λ a. bytes_eq a.name name) nothing_bound bs (λ j under. named j ∙ none j under))

-- a status that is the first of its row makes the row, where the Set does
pub one_made : (column : ℕ) (again made : Bool) → column ≡ 10 → not again ≡ true → made ≡ true → ◌≡◌ {A = ℕ} (cond (nat_eq column 10 && (not again && made)) 1 0) 1
one_made column again made status first does =
    let here : nat_eq column 10 ≡ true = grind (arith, nat_tests) in
    rw (here, first, does) refl
