-- The tables of the keys that control rows hold after a journal.
use Rattle.std.proofs.Common.{◌≡◌, ℕ, List, [], ◌∷◌, Contains, Bool, true, cond, Option, Some, None, map, find, option_map, refl, sym, ap, ◌∙◌, subst}
use Rattle.std.specs.Prelude.{is_some}
use Rattle.std.specs.Option.{option_map_or}
use Rattle.std.specs.Str.{bytes_eq}
use Rattle.std.proofs.lemmas.Bool.{true≢false}
use Rattle.std.proofs.lemmas.Slice.Eq.{bytes_eq-Decides}
use Rattle.rm_val.specs.Val.{Val, null}
use Rattle.rm_model.specs.Counting.{Counting}
use Rattle.rm_model.specs.Journal.{Journal}
use Rattle.rm_model.specs.Cells.{cells_of}
use Rattle.rm_model.specs.Finite.{AreFinite}
use Rattle.rm_model.specs.ControlTable.{ControlTable}
use Rattle.rm_model.proofs.Finite.{table_finite}
use Rattle.rm_model.proofs.Members.{in_map}
use Rattle.rm_group.specs.Listed.{ListedTable}
use Rattle.rm_nested.proofs.Finite.{rows_of, nested, in_nested}
use Rattle.rm_nested.specs.Nested.{is_nested}
use Rattle.rm_pool.specs.declared.slot.Slot.{Slot}
use Rattle.rm_pool.specs.Slots.{part_in}
use Rattle.rm_evicting.specs.Mention.{Mention, keys}
use Rattle.rm_evicting.specs.Held.{IsExact, held_keys}
use Rattle.rm_keyed.specs.Held.{key_of_index}
use Rattle.rm_keyed.specs.PartRows.{cell_in, parts_table}
use Rattle.rm_keyed.specs.SourceControl.{TableEntry, source_control}
use Rattle.rm_keyed.proofs.Found.{found_among, found_member, held_listed}
use Rattle.rm_keyed.proofs.HeldRows.{find_passing}
use Rattle.rm_keyed.proofs.MentionLaws.{mentions_idle}
use Rattle.rm_keyed.proofs.PartCells.{same_table}
use Rattle.rm_collect.specs.Rows.{IsKept}
use Rattle.rm_sourced.specs.declared.sourced.Sourced.{Sourced}
use Rattle.rm_sourced.specs.Sourcing.{Sourcing, IsSourced, mentions_of, seen_mentions}
use Rattle.rm_sourced.specs.Held.{held_with, held_table}
use Rattle.rm_sourced.specs.Shown.{ShownTable, key_in_rows, value_in_rows, kept_table, table_after}
use Rattle.rm_sourced.specs.Laws.{AreSourced, IsShown}
use Rattle.rm_sourced.specs.Outer.{row_there}

-- numbers that are the index of a key are among the indexes of all
among_indexes : {K : Type 0} (index : K → List ℕ) (numbers : List ℕ) (others : List K) → is_some (find (λ key. bytes_eq (index key) numbers) others) ≡ true → Contains (map index others) numbers
among_indexes {K} index numbers others some = by_key (find has others) refl some
  where
    has : K → Bool
    has key = bytes_eq (index key) numbers

    by_key : (o : Option K) → find has others ≡ o → is_some o ≡ true → Contains (map index others) numbers
    by_key None e some = absurd (true≢false (sym some))
    by_key (Some key) e some =
        subst (Contains (map index others)) ((bytes_eq-Decides (index key) numbers).0 (find_passing has others key e).1) (in_map index others key (found_among has others key e))

module _ (entry : TableEntry) {K C R : Type 0} (sourcing : Sourcing K C R) where
  abbrev control : ControlTable
  control = source_control entry

  -- their cells are finitely many
  module _ (index : Counting → Journal → (row : ℕ) → K → List ℕ) (value : Counting → Journal → (row : ℕ) → K → (column : ℕ) → Val) (listed : ListedTable) (settings : Counting) (journal : Journal) where
    abbrev is_inner : ℕ → List ℕ → Bool
    is_inner row numbers = is_some (held_with entry sourcing settings journal row (index settings journal row) numbers)

    abbrev inner_of : ℕ → List (List ℕ)
    inner_of row = map (index settings journal row) (held_keys sourcing.eq (sourcing.room settings) (keys (mentions_of entry sourcing settings journal row)))

    outer : (row : ℕ) (numbers : List ℕ) → is_inner row numbers ≡ true → Contains (rows_of control journal) (row ∷ [])
    outer row numbers is =
        row_there control (seen_mentions sourcing.mentioned settings) journal row
        (λ (mentions : List (Mention K C)). is_some (key_of_index sourcing.eq (sourcing.room settings) mentions (index settings journal row) numbers)) refl is

    inner : (row : ℕ) (numbers : List ℕ) → is_inner row numbers ≡ true → Contains (inner_of row) numbers
    inner row numbers is = among_indexes (index settings journal row) numbers (held_keys sourcing.eq (sourcing.room settings) (keys (mentions_of entry sourcing settings journal row))) is

    within : (numbers : List ℕ) → is_nested is_inner numbers ≡ true → Contains (nested (rows_of control journal) inner_of) numbers
    within [] is = absurd (true≢false (sym is))
    within (row ∷ numbers) is = in_nested is_inner (rows_of control journal) inner_of outer inner (row ∷ numbers) is

    pub held_finite : AreFinite (cells_of (held_table entry sourcing index value listed settings journal))
    held_finite = table_finite (held_table entry sourcing index value listed settings journal) (nested (rows_of control journal) inner_of) within

  -- parts that are those after a journal show them
  module _ (exact : IsExact sourcing.eq) (table : ShownTable K R) (laws : IsShown entry sourcing table) (settings : Counting) (journal : Journal) where
    abbrev if_key : (row column : ℕ) → Option K → Option Val
    if_key row column o = cond (is_some o) (Some (option_map_or (λ key. table.value settings journal row key column) o null)) None

    abbrev key_with : (row : ℕ) → List ℕ → Option K
    key_with row numbers = held_with entry sourcing settings journal row (table.index settings journal row) numbers

    -- a key that is found is held
    of_found : (row : ℕ) (part : Sourced K R) → IsSourced entry sourcing settings journal row part → (numbers : List ℕ) (column : ℕ) (o : Option K) → key_with row numbers ≡ o
        → option_map (λ key. table.value_of row part.rows key column) o ≡ if_key row column o
    of_found row part is numbers column None e = refl
    of_found row part is numbers column (Some key) e =
        let among : List K = held_keys sourcing.eq (sourcing.room settings) (keys (mentions_of entry sourcing settings journal row)) in
        ap Some (laws.same settings journal row part is key
        (sym (held_listed sourcing.eq exact (sourcing.room settings) key (keys (mentions_of entry sourcing settings journal row)))
        ∙ found_member sourcing.eq exact (λ other. bytes_eq (table.index settings journal row other) numbers) among key e) column)

    of_row : (row : ℕ) (numbers : List ℕ) (column : ℕ) (o : Option (Sourced K R)) → IsKept control (IsSourced entry sourcing) settings journal row o
        → cell_in (key_in_rows table.key_at) (value_in_rows table.value_of) true row o numbers column ≡ if_key row column (key_with row numbers)
    of_row row numbers column None idle =
        sym (ap (λ (mentions : List (Mention K C)). if_key row column (key_of_index sourcing.eq (sourcing.room settings) mentions (table.index settings journal row) numbers))
        (mentions_idle control (seen_mentions sourcing.mentioned settings) journal row idle))
    of_row row numbers column (Some part) is =
        ap (option_map (λ key. table.value_of row part.rows key column)) (laws.found settings journal row part is.1 numbers)
        ∙ of_found row part is.1 numbers column (key_with row numbers) refl

    module _ (parts : List (Slot (Sourced K R))) (are : AreSourced entry sourcing settings journal parts) where
      abbrev IsSame : Bool → Type 0
      IsSame opened =
          (name : List ℕ) → cells_of (parts_table (key_in_rows table.key_at) (value_in_rows table.value_of) opened table.listed.entry table.listed.columns parts) name ≡ cells_of (table_after table entry sourcing settings journal) name

      same_open : IsSame true
      same_open =
          same_table (key_in_rows table.key_at) (value_in_rows table.value_of) true parts (table_after table entry sourcing settings journal) refl
          (λ row numbers column. of_row row numbers column (part_in parts row) (are row))

      pub same_table_after : (now : ℕ) (name : List ℕ) → cells_of (kept_table table now parts) name ≡ cells_of (table_after table entry sourcing settings journal) name
      same_table_after now = subst IsSame (sym (laws.always now)) same_open
