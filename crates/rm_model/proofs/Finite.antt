-- Cells that are finitely many.
use Rattle.std.proofs.Common.{◌≡◌, ℕ, ◌⊎◌, inl, inr, List, [], ◌∷◌, ◌++◌, refl, sym, ◌∙◌, ap, subst, Bool, true, false, cond, ◌||◌, Option, Some, None, nat_eq, arith, map, Contains, bytes_eq}
use Rattle.std.specs.Prelude.{is_some, IsTrue, flat_map}
use Rattle.std.specs.Option.{option_or}
use Rattle.std.specs.Ordering.{nat_cmp, ordering_reverse}
use Rattle.std.specs.declared.cmp.Ordering.TheVariants.{Less, Equal, Greater}
use Rattle.std.specs.Cmp.Lexicographic.{slice_cmp}
use Rattle.std.proofs.lemmas.Bool.Decides.{nat_tests}
use Rattle.std.proofs.lemmas.Cmp.{nat_list_cmp_total}
use Rattle.std.proofs.lemmas.Slice.Eq.{bytes_eq-Decides}
use Rattle.std.proofs.lemmas.List.Elements.{Contains-append_left, Contains-append_right}
use Rattle.rm_val.specs.Val.{Val}
use Rattle.rm_model.specs.Names.{Below}
use Rattle.rm_model.specs.Cells.{Cells, has_cell, IsNext, behind, is_one_of, instance_left, is_of_row, is_cell_name, Table, cells_of}
use Rattle.rm_model.specs.ControlRows.{cell_name}
use Rattle.rm_model.specs.Finite.{AreFinite}
use Rattle.rm_model.proofs.Members.{none_in, here, each, in_map}
use Rattle.rm_model.proofs.Next.{next_found}
use Rattle.rm_model.proofs.Tables.{behind_is, has_table_cell}

-- no name is below itself
pub not_below_itself : (name : List ℕ) → Below name name → ⊥
not_below_itself name under =
    let back : Less ≡ ordering_reverse Less = sym under ∙ nat_list_cmp_total.antisymm name name ∙ ap ordering_reverse under in
    cc

is_below : (x y : List ℕ) → Below x y ⊎ (Below x y → ⊥)
is_below x y =
    elim (slice_cmp nat_cmp x y) as (λ o. slice_cmp nat_cmp x y ≡ o → Below x y ⊎ (Below x y → ⊥)) [
      | Less ↦ λ e. inl e
      | Equal ↦ λ e. inr (λ less. absurd (cc))
      | Greater ↦ λ e. inr (λ less. absurd (cc))
    ] refl

true_or_false : (b : Bool) → (b ≡ true) ⊎ (b ≡ false)
true_or_false true = inl refl
true_or_false false = inr refl

-- the least of some names that is above one and passes a test
abbrev IsLeastOf : (List ℕ → Bool) → List ℕ → List (List ℕ) → Option (List ℕ) → Type 0
IsLeastOf test asked names (Some found) =
    Below asked found × IsTrue (test found)
    × ((name : List ℕ) → Contains names name → Below asked name → Below name found → test name ≡ false)
IsLeastOf test asked names None = (name : List ℕ) → Contains names name → Below asked name → test name ≡ false

module _ (test : List ℕ → Bool) (asked : List ℕ) where
  -- one more name, which is not above or doesn't pass
  passed_over : (x : List ℕ) (xs : List (List ℕ)) (found : Option (List ℕ)) → (Below asked x → test x ≡ false) → IsLeastOf test asked xs found → IsLeastOf test asked (x ∷ xs) found
  passed_over x xs None out least = each (λ name. Below asked name → test name ≡ false) x xs out least
  passed_over x xs (Some y) out least =
      (least.0, least.1, each (λ name. Below asked name → Below name y → test name ≡ false) x xs (λ above _. out above) least.2)

  -- one more name, which is above and passes
  taken : (x : List ℕ) (xs : List (List ℕ)) (found : Option (List ℕ)) → Below asked x → test x ≡ true → IsLeastOf test asked xs found → (best : Option (List ℕ)) × IsLeastOf test asked (x ∷ xs) best
  taken x xs None above passes least =
      (Some x, (above, passes, each (λ name. Below asked name → Below name x → test name ≡ false) x xs (λ _ under. absurd (not_below_itself x under)) (λ name within over _. least name within over)))
  taken x xs (Some y) above passes least = nearer (is_below x y)
    where
      nearer : Below x y ⊎ (Below x y → ⊥) → (best : Option (List ℕ)) × IsLeastOf test asked (x ∷ xs) best
      nearer (inl less) =
          (Some x, (above, passes, each (λ name. Below asked name → Below name x → test name ≡ false) x xs (λ _ under. absurd (not_below_itself x under)) (λ name within over under. least.2 name within over (nat_list_cmp_total.trans name x y under less))))
      nearer (inr not_less) =
          (Some y, (least.0, least.1, each (λ name. Below asked name → Below name y → test name ≡ false) x xs (λ _ under. absurd (not_less under)) least.2))

  with_one : (x : List ℕ) (xs : List (List ℕ)) (found : Option (List ℕ)) → IsLeastOf test asked xs found → Below asked x ⊎ (Below asked x → ⊥) → (test x ≡ true) ⊎ (test x ≡ false) → (best : Option (List ℕ)) × IsLeastOf test asked (x ∷ xs) best
  with_one x xs found least (inl above) (inl passes) = taken x xs found above passes least
  with_one x xs found least (inl above) (inr fails) = (found, passed_over x xs found (λ _. fails) least)
  with_one x xs found least (inr not_above) passes = (found, passed_over x xs found (λ above. absurd (not_above above)) least)

  least_of : (names : List (List ℕ)) → (found : Option (List ℕ)) × IsLeastOf test asked names found
  least_of [] = (None, λ name within _. absurd (none_in name within))
  least_of (x ∷ xs) = let more = least_of xs in with_one x xs more.0 more.1 (is_below asked x) (true_or_false (test x))

-- above every name there is a next cell or none
pub next_or_none : (cells : Cells) → AreFinite cells → (asked : List ℕ) → (value : Option Val) × (found : List ℕ) × IsNext cells asked value found
next_or_none cells finite asked = let least = least_of (has_cell cells) asked finite.names in by_least least.0 least.1
  where
    unlisted : (name : List ℕ) → (Contains finite.names name → has_cell cells name ≡ false) → has_cell cells name ≡ false
    unlisted name out = by_test (true_or_false (has_cell cells name))
      where
        by_test : (has_cell cells name ≡ true) ⊎ (has_cell cells name ≡ false) → has_cell cells name ≡ false
        by_test (inl has) = out (finite.listed name has)
        by_test (inr fails) = fails

    by_least : (found : Option (List ℕ)) → IsLeastOf (has_cell cells) asked finite.names found → (value : Option Val) × (found : List ℕ) × IsNext cells asked value found
    by_least None none = (None, asked, λ name above. unlisted name (λ within. none name within above))
    by_least (Some found) least = (
      cells found,
      found,
      next_found cells (has_cell cells) asked found (cells found)
          (least.0, least.1, λ name above under. unlisted name (λ within. least.2 name within above under))
          (λ _. refl) refl,
    )

-- two lots of cells as one
pub both_finite : (cells others : Cells) → AreFinite cells → AreFinite others → AreFinite (λ name. option_or (cells name) (others name))
both_finite cells others finite more = record {
  names = finite.names ++ more.names;
  listed = λ name has. elim (cells name) as (λ c. cells name ≡ c → is_some (option_or c (others name)) ≡ true → Contains (finite.names ++ more.names) name) [
    | None ↦ λ _ other. Contains-append_right finite.names more.names name (more.listed name other)
    | Some value ↦ λ is _. Contains-append_left finite.names more.names name (finite.listed name (ap is_some is))
  ] refl has;
}

-- the names of the cells in these columns and these rows
abbrev names_under : List ℕ → List (List ℕ) → List ℕ → List (List ℕ)
names_under entry indexes columns = flat_map (λ column. map (cell_name entry column) indexes) columns

in_columns : (entry : List ℕ) (indexes : List (List ℕ)) (columns : List ℕ) (column : ℕ) (index : List ℕ) → is_one_of columns column ≡ true → Contains indexes index → Contains (names_under entry indexes columns) (cell_name entry column index)
in_columns entry indexes [] column index in_list within = absurd (cc)
in_columns entry indexes (c ∷ more) column index in_list within =
    let first : List (List ℕ) = map (cell_name entry c) indexes in
    let others : List (List ℕ) = names_under entry indexes more in
    elim (nat_eq c column) as (λ t. nat_eq c column ≡ t → (t || is_one_of more column) ≡ true → Contains (first ++ others) (cell_name entry column index)) [
      | true ↦ λ same _.
          let is : c ≡ column = grind (arith, nat_tests) in
          subst (λ (n : ℕ). Contains (first ++ others) (cell_name entry n index)) is
          (Contains-append_left first others (cell_name entry c index) (in_map (cell_name entry c) indexes index within))
      | false ↦ λ _ later.
          Contains-append_right first others (cell_name entry column index) (in_columns entry indexes more column index later within)
    ] refl in_list

-- a table has finitely many cells where a list has the index of each row
pub table_finite : (table : Table) (indexes : List (List ℕ)) → ((index : List ℕ) → table.is_row index ≡ true → Contains indexes index) → AreFinite (cells_of table)
table_finite table indexes rows = record {
  names = names_under table.entry indexes table.columns;
  listed = λ name has. of_name name (sym (has_table_cell table table.is_row (λ _. refl) name) ∙ has);
}
  where
    of_left : (name left : List ℕ) → behind table.entry name ≡ Some left → is_of_row table.is_row (instance_left table.columns (Some left)) ≡ true → Contains (names_under table.entry indexes table.columns) name
    of_left name [] _ row = absurd (cc)
    of_left name (column ∷ index) is row =
        elim (is_one_of table.columns column) as (λ t. is_one_of table.columns column ≡ t → is_of_row table.is_row (cond t (Some (record { column = column; index = index })) None) ≡ true → Contains (names_under table.entry indexes table.columns) name) [
          | true ↦ λ in_list there_is.
              subst (Contains (names_under table.entry indexes table.columns)) (sym (behind_is table.entry name (column ∷ index) is))
              (in_columns table.entry indexes table.columns column index in_list (rows index there_is))
          | false ↦ λ _ no_way. absurd (cc)
        ] refl row

    of_name : (name : List ℕ) → is_cell_name table.entry table.columns table.is_row name ≡ true → Contains (names_under table.entry indexes table.columns) name
    of_name name cell =
        elim (behind table.entry name) as (λ b. behind table.entry name ≡ b → is_of_row table.is_row (instance_left table.columns b) ≡ true → Contains (names_under table.entry indexes table.columns) name) [
          | None ↦ λ _ no_way. absurd (cc)
          | Some left ↦ λ is row. of_left name left is row
        ] refl cell

-- a table has finitely many cells where it has one row at most
pub one_row_finite : (table : Table) (row : List ℕ) → ((index : List ℕ) → table.is_row index ≡ true → bytes_eq index row ≡ true) → AreFinite (cells_of table)
one_row_finite table row only =
    table_finite table (row ∷ []) (λ index is.
    let same : index ≡ row = (bytes_eq-Decides index row).0 (only index is) in
    rw same (here row []))
