-- What a group lists as its objects, what it shows of them, and what it refuses.
use Rattle.std.proofs.Common.{◌≡◌, ℕ, List, [], ◌∷◌, Bool, true, false, cond, ◌||◌, Option, Some, None, refl, sym, ap, ◌∙◌, inl, inr, nat_eq, find, arith}
use Rattle.std.specs.Prelude.{IsTrue, is_some, not, map, ◌⊎◌}
use Rattle.std.specs.List.{list_any}
use Rattle.std.specs.Option.{option_map, option_or}
use Rattle.std.proofs.lemmas.Bool.Decides.{nat_tests}
use Rattle.rm_val.specs.Val.{Val}
use Rattle.rm_val.specs.declared.error.ErrorStatus.{ErrorStatus}
use Rattle.rm_val.specs.declared.error.ErrorStatus.TheVariants.{NotWritable}
use Rattle.rm_model.specs.Cells.{Cells, Table, cells_of, cell_at, has_cell, behind, is_one_of, is_of_column, instance_of, instance_left}
use Rattle.rm_model.specs.ControlTable.{Column, ControlTable}
use Rattle.rm_model.specs.Judgement.{place_in, place_behind, place_of, alone_fault, writable_kind, unless}
use Rattle.rm_model.specs.declared.instance.Instance.{Instance}
use Rattle.rm_group.specs.Alone.{read_only}
use Rattle.rm_group.specs.declared.objects.TableObjects.{TableObjects}
use Rattle.rm_group.specs.ColumnLemmas.{is_of_column-instance}

-- a table that a group lists: the identifier of its entry, and the numbers of its columns
pub record ListedTable : Type 0 where
  pub entry : List ℕ
  pub columns : List ℕ

-- the tables that a list of the code lists
abbrev pub tables_of : List TableObjects → List ListedTable
tables_of tables = map (λ table. record { entry = table.entry.now; columns = table.columns.now }) tables

-- whether a name begins with a column of one of these tables
abbrev pub is_listed : List ListedTable → List ℕ → Bool
is_listed tables name = list_any (λ table. is_of_column table.entry table.columns name) tables

-- what is wrong with a binding alone where a control table stands beside a table of which no column is writable
abbrev pub alone_beside : ControlTable → ListedTable → List ℕ → Val → Option ErrorStatus
alone_beside table other name value =
    option_or (alone_fault table (place_of table name) value) (read_only (is_of_column other.entry other.columns) name value)

-- each cell has a name that begins with an object of these
abbrev pub AreOfObjects : (List ℕ → Bool) → Cells → Type 0
AreOfObjects objects cells = (name : List ℕ) → IsTrue (has_cell cells name) → objects name ≡ true

-- a binding is notWritable, or its name begins with none of the objects and nothing is wrong with it
abbrev pub IsRefused : (listed : Bool) → Option ErrorStatus → Type 0
IsRefused listed fault = (fault ≡ Some NotWritable) ⊎ ((listed ≡ false) × (fault ≡ None))

-- A name that begins with nothing that can be set is notWritable, or it begins with none of the objects and nothing is
-- wrong with it alone.
abbrev pub AreRefused : (objects settable : List ℕ → Bool) → (List ℕ → Val → Option ErrorStatus) → Type 0
AreRefused objects settable alone = (name : List ℕ) (value : Val) → settable name ≡ false → IsRefused (objects name) (alone name value)

-- whether a name begins with a column of a control table that can be set
abbrev pub is_settable : ControlTable → List ℕ → Bool
is_settable table = is_of_column table.entry (table.status ∷ map (λ c. c.number) table.columns)

-- The laws of tables, and of two together.

at_instance : (table : Table) (at : Option Instance) → is_some (cell_at table at) ≡ true → is_some at ≡ true
at_instance table None has = absurd (cc)
at_instance table (Some at) has = refl

-- the cells of a table have names that begin with its columns
of_columns : (table : Table) → AreOfObjects (is_of_column table.entry table.columns) (cells_of table)
of_columns table name has =
    sym (is_of_column-instance table.entry table.columns name) ∙ at_instance table (instance_of table.entry table.columns name) has

-- the columns of a table, as a group lists them
abbrev listed_as : Table → ListedTable
listed_as table = record { entry = table.entry; columns = table.columns }

either_listed : (a b : Bool) → a ≡ true → (a || b) ≡ true
either_listed a b h = cc

other_listed : (a b : Bool) → b ≡ true → (a || b) ≡ true
other_listed true b h = refl
other_listed false b h = h

-- those of two lots of cells begin with the objects of either
pub both_of_objects : (objects others : List ℕ → Bool) (cells more : Cells) → AreOfObjects objects cells → AreOfObjects others more → AreOfObjects (λ name. objects name || others name) (λ name. option_or (cells name) (more name))
both_of_objects objects others cells more one other name has =
    elim (cells name) as (λ c. cells name ≡ c → is_some (option_or c (more name)) ≡ true → (objects name || others name) ≡ true) [
      | None ↦ λ _ there. other_listed (objects name) (others name) (other name there)
      | Some value ↦ λ is _. either_listed (objects name) (others name) (one name (ap is_some is))
    ] refl has

-- the tables of a group: one, or one more
pub of_table : (table : Table) → AreOfObjects (is_listed (listed_as table ∷ [])) (cells_of table)
of_table table name has = either_listed (is_of_column table.entry table.columns name) false (of_columns table name has)

pub with_table : (table : Table) (tables : List ListedTable) (cells : Cells) → AreOfObjects (is_listed tables) cells → AreOfObjects (is_listed (listed_as table ∷ tables)) (λ name. option_or (cells_of table name) (cells name))
with_table table tables cells = both_of_objects (is_of_column table.entry table.columns) (is_listed tables) (cells_of table) cells (of_columns table)

read_only_name : (listed : Bool) → IsRefused listed (unless (not listed) NotWritable)
read_only_name true = inl refl
read_only_name false = inr (refl, refl)

module _ (table : ControlTable) (columns : List ℕ) where
  no_column : (others : List Column) (number : ℕ) → list_any (λ other. nat_eq other number) (map (λ c. c.number) others) ≡ false → find (λ c. nat_eq c.number number) others ≡ None
  no_column [] number none = refl
  no_column (c ∷ others) number none =
      elim (nat_eq c.number number) as (λ t. (t || list_any (λ other. nat_eq other number) (map (λ c. c.number) others)) ≡ false → cond t (Some c) (find (λ c. nat_eq c.number number) others) ≡ None) [
        | true ↦ λ there. absurd (cc)
        | false ↦ λ there. no_column others number there
      ] none

  turned : (a b : ℕ) → nat_eq a b ≡ false → nat_eq b a ≡ false
  turned a b h = grind (arith, nat_tests)

  neither : (a b : Bool) → (a || b) ≡ false → (a ≡ false) × (b ≡ false)
  neither true b h = absurd (cc)
  neither false b h = (refl, h)

  one_if : (b : Bool) (at : Instance) → is_some (cond b (Some at) None) ≡ false → b ≡ false
  one_if true at h = absurd (cc)
  one_if false at h = refl

  abbrev settable_columns : List ℕ
  settable_columns = table.status ∷ map (λ c. c.number) table.columns

  no_kind : (column : ℕ) (index : List ℕ) → is_some (instance_left settable_columns (Some (column ∷ index))) ≡ false → writable_kind table column ≡ None
  no_kind column index none =
      let parts = neither (nat_eq table.status column) (list_any (λ other. nat_eq other column) (map (λ c. c.number) table.columns)) (one_if (is_one_of settable_columns column) (record { column = column; index = index }) none) in
      rw (turned table.status column parts.0) (ap (option_map (λ c. c.kind)) (no_column table.columns column parts.1))

  refused_behind : (left : Option (List ℕ)) (value : Val) → is_some (instance_left settable_columns left) ≡ false
      → IsRefused (is_some (instance_left columns left)) (alone_fault table (place_behind table left) value)
  refused_behind None value none = inr (refl, refl)
  refused_behind (Some []) value none = inl refl
  refused_behind (Some (column ∷ index)) value none = inl (by_number (table.indexing.number_of index))
    where
      by_number : (row : Option ℕ) → alone_fault table (place_in column row) value ≡ Some NotWritable
      by_number (Some row) = rw (no_kind column index none) refl
      by_number None = rw (no_kind column index none) refl

  -- the columns of a control table
  control_refused : AreRefused (is_of_column table.entry columns) (is_settable table) (λ name value. alone_fault table (place_of table name) value)
  control_refused name value none =
      rw (sym (is_of_column-instance table.entry columns name)) (refused_behind (behind table.entry name) value (is_of_column-instance table.entry settable_columns name ∙ none))

join : (a b : Bool) (x y : Option ErrorStatus) → IsRefused a x → IsRefused b y → IsRefused (a || b) (option_or x y)
join a b x y (inl is) other = inl (rw is refl)
join a b x y (inr none) (inl is) = inl (rw none.1 is)
join a b x y (inr none) (inr more) = inr (rw none.0 more.0, rw none.1 more.1)

-- the objects of two groups
pub both_refused : (objects others settable more : List ℕ → Bool) (alone other : List ℕ → Val → Option ErrorStatus) → AreRefused objects settable alone → AreRefused others more other
    → AreRefused (λ name. objects name || others name) (λ name. settable name || more name) (λ name value. option_or (alone name value) (other name value))
both_refused objects others settable more alone other one two name value none =
    elim (settable name) as (λ t. settable name ≡ t → (t || more name) ≡ false → IsRefused (objects name || others name) (option_or (alone name value) (other name value))) [
      | true ↦ λ is there. absurd (cc)
      | false ↦ λ is there. join (objects name) (others name) (alone name value) (other name value) (one name value is) (two name value there)
    ] refl none

moved : (a b : Bool) (x y : Option ErrorStatus) → a ≡ b → x ≡ y → IsRefused a x → IsRefused b y
moved a b x y same alike (inl is) = inl (sym alike ∙ is)
moved a b x y same alike (inr none) = inr (sym same ∙ none.0, sym alike ∙ none.1)

together : (x y z : Option ErrorStatus) → option_or (option_or x y) z ≡ option_or x (option_or y z)
together None y z = refl
together (Some fault) y z = refl

-- the objects of a group, and further ones of which none can be set, listed as one
pub further_refused : (objects further listed settable : List ℕ → Bool) (alone other more : List ℕ → Val → Option ErrorStatus)
    → ((name : List ℕ) → (objects name || further name) ≡ listed name)
    → AreRefused objects settable (λ name value. option_or (alone name value) (other name value)) → AreRefused further (λ name. false) more
    → AreRefused listed settable (λ name value. option_or (alone name value) (option_or (other name value) (more name value)))
further_refused objects further listed settable alone other more same one two name value none =
    moved (objects name || further name) (listed name)
    (option_or (option_or (alone name value) (other name value)) (more name value)) (option_or (alone name value) (option_or (other name value) (more name value)))
    (same name) (together (alone name value) (other name value) (more name value))
    (join (objects name) (further name) (option_or (alone name value) (other name value)) (more name value) (one name value none) (two name value refl))

one_of_none : (a : Bool) (x : Option ErrorStatus) → IsRefused a x → IsRefused (a || false) x
one_of_none true x is = is
one_of_none false x is = is

-- a table of which no column can be set, a control table, and the two of them
pub read_only_listed : (table : ListedTable) → AreRefused (is_listed (table ∷ [])) (λ name. false) (read_only (is_of_column table.entry table.columns))
read_only_listed table name value none =
    one_of_none (is_of_column table.entry table.columns name) (read_only (is_of_column table.entry table.columns) name value)
    (read_only_name (is_of_column table.entry table.columns name))

pub control_listed : (table : ControlTable) (columns : List ℕ)
    → AreRefused (is_listed (record { entry = table.entry; columns = columns } ∷ [])) (is_settable table) (λ name value. alone_fault table (place_of table name) value)
control_listed table columns name value none =
    one_of_none (is_of_column table.entry columns name) (alone_fault table (place_of table name) value) (control_refused table columns name value none)

pub beside_listed : (table : ControlTable) (columns : List ℕ) (other : ListedTable)
    → AreRefused (is_listed (record { entry = table.entry; columns = columns } ∷ other ∷ [])) (is_settable table) (alone_beside table other)
beside_listed table columns other name value none =
    join (is_of_column table.entry columns name) (is_of_column other.entry other.columns name || false)
    (alone_fault table (place_of table name) value) (read_only (is_of_column other.entry other.columns) name value)
    (control_refused table columns name value none) (read_only_listed other name value refl)
