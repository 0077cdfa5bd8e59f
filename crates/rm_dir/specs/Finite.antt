-- That the cells of the directory are finitely many.
use Rattle.std.proofs.Common.{◌≡◌, ℕ, List, [], ◌∷◌, Bool, true, false, cond, not, ◌&&◌, Option, Some, None, find, map, refl, subst, Contains}
use Rattle.std.specs.Prelude.{is_some}
use Rattle.std.specs.Option.{option_map_or}
use Rattle.std.specs.Str.{bytes_eq}
use Rattle.std.proofs.lemmas.Option.{none-some, same_Some}
use Rattle.std.proofs.lemmas.Slice.Eq.{bytes_eq-Decides}
use Rattle.rm_model.specs.Journal.{Journal}
use Rattle.rm_model.specs.Cells.{cells_of}
use Rattle.rm_model.specs.ControlRows.{is_absent}
use Rattle.rm_model.specs.Finite.{AreFinite}
use Rattle.rm_model.specs.Indexes.{indexes_of}
use Rattle.rm_model.specs.declared.row.State.TheVariants.{Absent, Valid}
use Rattle.rm_model.proofs.Finite.{both_finite, table_finite, one_row_finite}
use Rattle.rm_model.proofs.Members.{here, there}
use Rattle.rm_model.proofs.Rows.{row_listed}
use Rattle.rm_path.specs.declared.identifier.ProtocolIdentifier.{ProtocolIdentifier}
use Rattle.rm_path.specs.Identifier.{is_same}
use Rattle.rm_path.proofs.Identifiers.{same_is}
use Rattle.rm_dir.specs.BuiltIn.{BuiltIn, built_in_rows, is_built_in}
use Rattle.rm_dir.specs.DirectoryIndex.{indexed, index_with, may_have_row, protocol_of}
use Rattle.rm_dir.specs.ProtocolDir.{protocol_dir, directory_beginning}
use Rattle.rm_dir.specs.Tables.{directory_table, change_table, directory_cells}

-- the indexes of some rows
abbrev indexes_with : List BuiltIn → List (List ℕ)
indexes_with rows = map (λ row. index_with row.protocol) rows

-- that of the row of a protocol is among them
in_rows : (rows : List BuiltIn) (protocol : ProtocolIdentifier) → is_some (find (λ row. is_same row.protocol protocol) rows) ≡ true → Contains (indexes_with rows) (index_with protocol)
in_rows [] protocol is = absurd (cc)
in_rows (row ∷ rows) protocol is =
    elim (is_same row.protocol protocol) as (λ t. is_same row.protocol protocol ≡ t → is_some (cond t (Some row) (find (λ one. is_same one.protocol protocol) rows)) ≡ true → Contains (indexes_with (row ∷ rows)) (index_with protocol)) [
      | true ↦ λ same _. subst (λ p. Contains (indexes_with (row ∷ rows)) (index_with p)) (same_is row.protocol protocol same) (here (index_with row.protocol) (indexes_with rows))
      | false ↦ λ _ later. there (index_with row.protocol) (indexes_with rows) (index_with protocol) (in_rows rows protocol later)
    ] refl is

second : (a b : Bool) → (a && b) ≡ true → b ≡ true
second true b is = is
second false b is = absurd (cc)

-- an index is that of the row of its protocol
is_index : (index : List ℕ) (protocol : ProtocolIdentifier) → protocol_of index ≡ Some protocol → index_with protocol ≡ index
is_index index protocol is =
    elim (may_have_row (indexed index) && bytes_eq (index_with (indexed index)) index) as (λ t. (may_have_row (indexed index) && bytes_eq (index_with (indexed index)) index) ≡ t → cond t (Some (indexed index)) None ≡ Some protocol → index_with protocol ≡ index) [
      | true ↦ λ e same.
          subst (λ p. index_with p ≡ index) (same_Some _ _ same)
          ((bytes_eq-Decides (index_with (indexed index)) index).0 (second (may_have_row (indexed index)) _ e))
      | false ↦ λ _ none. absurd (none-some protocol none)
    ] refl is

-- the rows of the beginning have the indexes of those
begins : (index : List ℕ) → not (is_absent (directory_beginning.state index)) ≡ true → Contains (indexes_with built_in_rows) index
begins index is = by_protocol (protocol_of index) refl is
  where
    there_is : (b : Bool) → not (is_absent (cond b Valid Absent)) ≡ true → b ≡ true
    there_is true e = refl
    there_is false e = absurd (cc)

    by_protocol : (o : Option ProtocolIdentifier) → protocol_of index ≡ o → not (is_absent (cond (option_map_or is_built_in o false) Valid Absent)) ≡ true → Contains (indexes_with built_in_rows) index
    by_protocol None e there = absurd (cc)
    by_protocol (Some protocol) e there =
        subst (Contains (indexes_with built_in_rows)) (is_index index protocol e) (in_rows built_in_rows protocol (there_is (is_built_in protocol) there))

-- the cells of both tables are finitely many
pub directory_finite : (journal : Journal) → AreFinite (directory_cells journal)
directory_finite journal =
    both_finite (cells_of (directory_table journal)) (cells_of (change_table journal))
    (table_finite (directory_table journal) (indexes_of protocol_dir (indexes_with built_in_rows) journal) (row_listed protocol_dir directory_beginning (indexes_with built_in_rows) begins journal))
    (one_row_finite (change_table journal) (0 ∷ []) (λ index row. row))
