-- Laws of two tables of inner rows, and of their control table beside them.
use Rattle.std.proofs.Common.{◌≡◌, ℕ, List, [], ◌∷◌, Bool, true, false, ◌||◌, refl}
use Rattle.std.specs.Option.{option_or}
use Rattle.rm_model.specs.Cells.{Table, cells_of, is_of_column}
use Rattle.rm_model.specs.ControlTable.{ControlTable}
use Rattle.rm_model.specs.Finite.{AreFinite}
use Rattle.rm_model.specs.Judgement.{alone_fault, place_of}
use Rattle.rm_model.specs.Names.{Below}
use Rattle.rm_model.proofs.Finite.{both_finite}
use Rattle.rm_group.specs.Alone.{read_only}
use Rattle.rm_group.specs.Least.{AreFrom}
use Rattle.rm_group.specs.Listed.{ListedTable, AreOfObjects, AreRefused, is_listed, is_settable, with_table, of_table, beside_listed, further_refused, read_only_listed}
use Rattle.rm_group.proofs.Leasts.{table_from, from_below, both_from}
use Rattle.rm_keyed.specs.TwoTables.{cells_of_two, alone_of_two}

module _ (first second : Table) where
  -- they begin with the first, where that is the lower
  pub two_from : Below first.entry second.entry → AreFrom first.entry (cells_of_two first second)
  two_from below = both_from (cells_of first) (cells_of second) first.entry (table_from first) (from_below first.entry second.entry (cells_of second) below (table_from second))

  module _ (table : Table) where
    -- and all three begin with the control table
    pub all_from : Below table.entry first.entry → Below first.entry second.entry → AreFrom table.entry (λ name. option_or (cells_of table name) (cells_of_two first second name))
    all_from below under = both_from (cells_of table) (cells_of_two first second) table.entry (table_from table) (from_below table.entry first.entry (cells_of_two first second) below (two_from under))

    -- they are finitely many, where those of each are
    pub all_finite : AreFinite (cells_of table) → AreFinite (cells_of first) → AreFinite (cells_of second) → AreFinite (λ name. option_or (cells_of table name) (cells_of_two first second name))
    all_finite one other more = both_finite (cells_of table) (cells_of_two first second) one (both_finite (cells_of first) (cells_of second) other more)

    abbrev listed_as : Table → ListedTable
    listed_as table = record { entry = table.entry; columns = table.columns }

    -- each of their cells has a name that begins with an object of these
    pub all_listed : AreOfObjects (is_listed (listed_as table ∷ listed_as first ∷ listed_as second ∷ [])) (λ name. option_or (cells_of table name) (cells_of_two first second name))
    all_listed = with_table table (listed_as first ∷ listed_as second ∷ []) (cells_of_two first second) (with_table first (listed_as second ∷ []) (cells_of second) (of_table second))

joined : (a b c : Bool) → ((a || (b || false)) || (c || false)) ≡ (a || (b || (c || false)))
joined true b c = refl
joined false true c = refl
joined false false c = refl

-- a name of the three tables is refused that can't be set
pub beside_two : (table : ControlTable) (columns : List ℕ) (first second : ListedTable)
    → AreRefused (is_listed (record { entry = table.entry; columns = columns } ∷ first ∷ second ∷ [])) (is_settable table)
    (λ name value. option_or (alone_fault table (place_of table name) value) (alone_of_two first second name value))
beside_two table columns first second =
    further_refused (is_listed (record { entry = table.entry; columns = columns } ∷ first ∷ [])) (is_listed (second ∷ []))
    (is_listed (record { entry = table.entry; columns = columns } ∷ first ∷ second ∷ [])) (is_settable table)
    (λ name value. alone_fault table (place_of table name) value) (read_only (is_of_column first.entry first.columns)) (read_only (is_of_column second.entry second.columns))
    (λ name. joined (is_of_column table.entry columns name) (is_of_column first.entry first.columns name) (is_of_column second.entry second.columns name))
    (beside_listed table columns first) (read_only_listed second)
