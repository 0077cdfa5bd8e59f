-- How a Set is judged on one control table (RFC 1905, section 4.2.5): first each binding alone, then the bindings of each
-- row together. Which tests there are, and their order, is said in docs/DECISIONS.md.
use Rattle.std.specs.Prelude.{◌≡◌, ℕ, zero, suc, ℤ, pos, ◌+◌, ◌<◌, ◌^◌, int_le, List, [], ◌∷◌, get_or, take, length, Bool, true, false, not, ◌&&◌, ◌||◌, nat_eq, nat_le, nat_lt, if◌then◌else◌, Option, Some, None, is_none, is_some}
use Rattle.std.specs.List.{list_any, list_all}
use Rattle.std.specs.Option.{option_map, option_map_or, option_or}
use Rattle.std.specs.Str.{bytes_eq}
use Rattle.rm_val.specs.Val.{Val, int, octets, null, name}
use Rattle.rm_val.specs.declared.error.ErrorStatus.{ErrorStatus}
use Rattle.rm_val.specs.declared.error.ErrorStatus.TheVariants.{WrongType, WrongLength, WrongValue, NoCreation, InconsistentValue, NotWritable, InconsistentName}
use Rattle.rm_model.specs.Journal.{Assignment, Journal, value_given}
use Rattle.rm_model.specs.Cells.{behind}
use Rattle.rm_model.specs.Interfaces.{is_source}
use Rattle.rm_model.specs.ControlTable.{Range, Kind, number, text, any_name, data_source, ControlTable, row_index, column_of, is_ready}
use Rattle.rm_model.specs.ControlRows.{Beginning, cell_name, set_ask, is_absent, state_of, set_value}
use Rattle.rm_model.specs.declared.row.StatusKind.{StatusKind}
use Rattle.rm_model.specs.declared.row.StatusKind.TheVariants.{EntryStatus, RowStatus}
use Rattle.rm_model.specs.declared.row.State.{State}
use Rattle.rm_model.specs.declared.row.State.TheVariants.{Absent, UnderCreation, Valid}
use Rattle.rm_model.specs.declared.row.Ask.{Ask}
use Rattle.rm_model.specs.declared.row.Ask.TheVariants.{Nothing, Create, CreateValid, Enable, Disable}
use Rattle.rm_model.specs.declared.place.Place.{Place}
use Rattle.rm_model.specs.declared.place.Place.TheVariants.{Outside, Entry, Column, Cell}
use Rattle.rm_model.specs.declared.verdict.Verdict.{Verdict}
use Rattle.rm_model.specs.declared.verdict.Verdict.TheVariants.{Fine, Wrong}

-- the bindings of a Set, in their order
abbrev pub Bindings : Type 0
Bindings = List Assignment

abbrev pub nothing_bound : Assignment
nothing_bound = record { name = []; value = null }

-- the variable that the binding at a place names, and the value that it gives to it
abbrev pub name_at : Bindings → ℕ → List ℕ
name_at bindings place = (get_or bindings place nothing_bound).name

abbrev pub value_at : Bindings → ℕ → Val
value_at bindings place = (get_or bindings place nothing_bound).value

-- A verdict on the bindings at the first n places: it names the lowest one with which something is wrong, by its number
-- from 1, and what is wrong with it.
abbrev pub IsFirstFault : ℕ → (ℕ → Option ErrorStatus) → Verdict → Type 0
IsFirstFault n fault Fine = (place : ℕ) → place < n → fault place ≡ None
IsFirstFault n fault (Wrong status index) =
    (place : ℕ) × (place < n) × (index ≡ place + 1) × (fault place ≡ Some status)
    × ((earlier : ℕ) → earlier < place → fault earlier ≡ None)

-- an error where a test fails
abbrev pub unless : Bool → ErrorStatus → Option ErrorStatus
unless passes status = if passes then None else Some status

-- where a column and the numbers behind it stand, by the number of the row whose index these can be
abbrev pub place_in : ℕ → Option ℕ → Place
place_in column (Some row) = Cell column row
place_in column None = Column column

-- where a name stands, by what is left of it behind the entry
abbrev pub place_behind : ControlTable → Option (List ℕ) → Place
place_behind table None = Outside
place_behind table (Some []) = Entry
place_behind table (Some (column ∷ index)) = place_in column (table.indexing.number_of index)

-- where a name stands under the entry of a table
abbrev pub place_of : ControlTable → List ℕ → Place
place_of table numbers = place_behind table (behind table.entry numbers)

-- The first pass: each binding alone.

-- the numbers that a status takes
abbrev pub status_values : StatusKind → Kind
status_values EntryStatus = number (record { least = pos 1; greatest = pos 4 } ∷ [])
status_values RowStatus = number (record { least = pos 1; greatest = pos 2 } ∷ record { least = pos 4; greatest = pos 6 } ∷ [])

-- what a writable column beside the status takes, if it is one
abbrev pub column_kind : ControlTable → ℕ → Option Kind
column_kind table column = option_map (λ c. c.kind) (column_of table column)

-- what a writable column takes, if it is one
abbrev pub writable_kind : ControlTable → ℕ → Option Kind
writable_kind table column = if nat_eq column table.status then Some (status_values table.status_kind) else column_kind table column

-- whether a number is in one of some ranges
abbrev pub is_in : List Range → ℤ → Bool
is_in ranges n = list_any (λ range. int_le range.least n && int_le n range.greatest) ranges

-- what is wrong with a value for a column, by what the column takes
abbrev pub value_fault : Option Kind → Val → Option ErrorStatus
value_fault None value = Some NotWritable
value_fault (Some (number ranges)) (int n) = unless (is_in ranges n) WrongValue
value_fault (Some (text longest)) (octets bytes) = unless (nat_le (length bytes) longest) WrongLength
value_fault (Some any_name) (name numbers) = None
value_fault (Some data_source) (name numbers) = unless (is_source (name numbers)) WrongValue
value_fault (Some kind) value = Some WrongType

-- whether a row can have a number
abbrev pub is_row_number : ControlTable → ℕ → Bool
is_row_number table row = table.indexing.is_row row

-- what is wrong with a value alone, by where its name stands: nothing outside the table
abbrev pub alone_fault : ControlTable → Place → Val → Option ErrorStatus
alone_fault table Outside value = None
alone_fault table Entry value = Some NotWritable
alone_fault table (Column column) value = option_or (value_fault (writable_kind table column) value) (Some NoCreation)
alone_fault table (Cell column row) value =
    option_or (value_fault (writable_kind table column) value) (unless (is_row_number table row) NoCreation)

-- what is wrong with the binding at a place alone
abbrev pub first_pass : ControlTable → Bindings → ℕ → Option ErrorStatus
first_pass table bindings place =
    alone_fault table (place_of table (name_at bindings place)) (value_at bindings place)

-- The second pass: the bindings of each row together, by what the rows are before the Set.

-- whether a column may be set while its row is valid too
abbrev pub is_always : ControlTable → ℕ → Bool
is_always table column = option_map_or (λ c. c.always) (column_of table column) false

-- whether what asks this of a row of that state makes the row
abbrev pub is_made : State → Ask → Bool
is_made Absent Create = true
is_made Absent CreateValid = true
is_made state ask = false

-- what is wrong with the binding of a row's status
abbrev pub status_fault : StatusKind → State → Ask → (ready : Bool) → Option ErrorStatus
status_fault EntryStatus Absent Enable ready = Some InconsistentName
status_fault EntryStatus Absent Disable ready = Some InconsistentName
status_fault RowStatus Absent Enable ready = Some InconsistentValue
status_fault RowStatus Absent Disable ready = Some InconsistentValue
status_fault kind Absent CreateValid ready = unless ready InconsistentValue
status_fault kind UnderCreation Create ready = Some InconsistentValue
status_fault kind UnderCreation CreateValid ready = Some InconsistentValue
status_fault kind UnderCreation Enable ready = unless ready InconsistentValue
status_fault kind Valid Create ready = Some InconsistentValue
status_fault kind Valid CreateValid ready = Some InconsistentValue
status_fault kind state ask ready = None

-- what is wrong with the binding of another column of a row
abbrev pub column_fault : State → Ask → (always : Bool) → Option ErrorStatus
column_fault Absent Create always = None
column_fault Absent CreateValid always = None
column_fault Absent ask always = Some InconsistentName
column_fault UnderCreation ask always = None
column_fault Valid Disable always = None
column_fault Valid ask always = unless always InconsistentValue

-- what is wrong with a status of a row that stays: any but that it is valid
abbrev pub staying_fault : (stays : Bool) → Ask → Option ErrorStatus
staying_fault false ask = None
staying_fault true Nothing = None
staying_fault true Enable = None
staying_fault true ask = Some InconsistentValue

-- whether what is wrong is that there is no such row
abbrev pub is_name_fault : Option ErrorStatus → Bool
is_name_fault (Some InconsistentName) = true
is_name_fault other = false

-- what is wrong with a column that can never be set: that comes behind a row that isn't there, and before what its row doesn't take
abbrev pub fixed_fault : (fixed : Bool) → Option ErrorStatus → Option ErrorStatus
fixed_fault fixed fault = if fixed && not (is_name_fault fault) then Some NotWritable else fault

-- what is wrong with the binding of a column of a row: crowded says that the Set makes too many rows, and again that an
-- earlier binding names the same variable
abbrev pub row_fault : ControlTable → List ℕ → State → Ask → (ready crowded again : Bool) → ℕ → Option ErrorStatus
row_fault table index state ask ready crowded again column =
    if is_made state ask && crowded then Some InconsistentName
    else fixed_fault (table.rules.is_fixed index column)
    (option_or
    (if nat_eq column table.status then option_or (staying_fault (table.rules.stays index) ask) (status_fault table.status_kind state ask ready)
    else column_fault state ask (is_always table column))
    (unless (not again) InconsistentValue))

-- what the columns of a table were set to, with nothing for any other number
abbrev pub of_columns : ControlTable → (ℕ → Option Val) → ℕ → Option Val
of_columns table set column = if is_some (column_of table column) then set column else None

-- what a column of a row was set to before a Set, or is set to at first in a row that the Set makes
abbrev pub set_before : ControlTable → Beginning → List ℕ → ℕ → Option Val
set_before table before index column = if is_absent (before.state index) then table.rules.first index column else before.set index column

-- whether a row is ready with what a Set gives to its columns, also one that the Set makes
abbrev pub is_ready_with : ControlTable → Beginning → Bindings → List ℕ → Bool
is_ready_with table before bindings index =
    is_ready table
    (of_columns table (λ column. option_or (value_given bindings (cell_name table.entry column index)) (set_before table before index column)))

-- whether there is a row before a Set, or the Set makes it
abbrev pub is_held_or_made : ControlTable → Beginning → Bindings → List ℕ → Bool
is_held_or_made table before bindings index =
    not (is_absent (before.state index)) || is_made (before.state index) (set_ask table bindings index)

-- how many numbers below n pass a test
unfoldable pub count_below : (ℕ → Bool) → ℕ → ℕ
count_below test zero = 0
count_below test (suc n) = (if test n then 1 else 0) + count_below test n

-- whether the rows before a Set and those that it makes are more together than the table has at most
abbrev pub is_crowded : ControlTable → Beginning → Bindings → Bool
is_crowded table before bindings = nat_lt table.most (count_below (λ row. is_held_or_made table before bindings (row_index table row)) (2 ^ 32))

-- whether an earlier binding names the variable that the one at a place names
abbrev pub is_again : Bindings → ℕ → Bool
is_again bindings place = list_any (λ earlier. bytes_eq earlier.name (name_at bindings place)) (take place bindings)

-- what is wrong with the binding at a place together with the others of its row, by where its name stands
abbrev pub together_fault : ControlTable → Beginning → Bindings → ℕ → Place → Option ErrorStatus
together_fault table before bindings place (Cell column row) =
    row_fault table (row_index table row) (before.state (row_index table row)) (set_ask table bindings (row_index table row)) (is_ready_with table before bindings (row_index table row))
    (is_crowded table before bindings) (is_again bindings place) column
together_fault table before bindings place elsewhere = None

-- what is wrong with the binding at a place together with the others of its row
abbrev pub second_pass : ControlTable → Beginning → Bindings → ℕ → Option ErrorStatus
second_pass table before bindings place =
    together_fault table before bindings place (place_of table (name_at bindings place))

-- the rows after a journal, as a Set finds them
abbrev pub rows_after : ControlTable → Beginning → Journal → Beginning
rows_after table beginning journal =
    record { state = state_of table beginning journal; set = set_value table beginning journal }

-- The status isn't among the other columns, and each of these shows a value that it takes until it is set, or a row needs
-- it to be set.
abbrev pub is_sound : ControlTable → Bool
is_sound table =
    is_none (column_of table table.status)
    && list_all (λ c. c.needed || is_none (value_fault (Some c.kind) c.default)) table.columns
