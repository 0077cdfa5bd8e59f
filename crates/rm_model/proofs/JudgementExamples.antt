-- What is wrong with Sets of row 5 of a table whose status is column 12, cell by cell of the steps of row status.
use Rattle.std.proofs.Common.{◌≡◌, ℕ, List, [], ◌∷◌, refl, Bool, true, false, ◌&&◌, not, Option, Some, None, map}
use Rattle.std.specs.Prelude.{pos, negsuc, nat_eq, if◌then◌else◌}
use Rattle.std.specs.Str.{bytes_eq}
use Rattle.rm_val.specs.Val.{Val, int, octets, name, counter, null}
use Rattle.rm_val.specs.declared.error.ErrorStatus.{ErrorStatus}
use Rattle.rm_val.specs.declared.error.ErrorStatus.TheVariants.{WrongType, WrongLength, WrongValue, NoCreation, InconsistentValue, NotWritable, InconsistentName}
use Rattle.rm_model.specs.declared.row.State.{State}
use Rattle.rm_model.specs.declared.row.State.TheVariants.{Absent, UnderCreation, Valid}
use Rattle.rm_model.specs.declared.row.StatusKind.TheVariants.{EntryStatus, RowStatus}
use Rattle.rm_model.specs.declared.row.Ask.{Ask}
use Rattle.rm_model.specs.declared.row.Ask.TheVariants.{Nothing}
use Rattle.rm_model.specs.Journal.{Assignment}
use Rattle.rm_model.specs.Interfaces.{interface_name}
use Rattle.rm_model.specs.ControlTable.{number, text, any_name, data_source, ControlTable, no_rules}
use Rattle.rm_model.specs.Indexing.{one_number, by_one_number}
use Rattle.rm_model.specs.ControlRows.{Beginning, number_ask, next_state}
use Rattle.rm_model.specs.Judgement.{first_pass, second_pass, row_fault, is_ready_with, is_held_or_made, count_below, is_sound}

-- an ordinary column that a row needs, two ordinary ones, a name, and an owner, which may always be set
abbrev table : ControlTable
table = record {
  entry = 1 ∷ 3 ∷ [];
  indexing = one_number;
  indexed = by_one_number;
  status = 12;
  status_kind = EntryStatus;
  most = 16;
  columns =
      record { number = 2; kind = number (record { least = pos 1; greatest = pos 9 } ∷ []); always = false; needed = true; default = int (pos 0) }
      ∷ record { number = 3; kind = number (record { least = negsuc 0; greatest = negsuc 0 } ∷ record { least = pos 32; greatest = pos 99 } ∷ []); always = false; needed = false; default = int (negsuc 0) }
      ∷ record { number = 4; kind = data_source; always = false; needed = false; default = name (interface_name 1) }
      ∷ record { number = 5; kind = any_name; always = false; needed = false; default = name (0 ∷ 0 ∷ []) }
      ∷ record { number = 11; kind = text 3; always = true; needed = false; default = octets [] }
      ∷ [];
  go_together = λ value. true;
  rules = no_rules;
  is_sampled = false;
}

abbrev row_table : ControlTable
row_table = record table { status_kind = RowStatus }

abbrev binds : List ℕ → Val → Assignment
binds behind value = record { name = 1 ∷ 3 ∷ behind; value = value }

-- the first pass of a Set of one variable under the entry
abbrev alone : ControlTable → List ℕ → Val → Option ErrorStatus
alone table behind value = first_pass table (binds behind value ∷ []) 0

values : map (λ n. alone table (2 ∷ 5 ∷ []) (int n)) (pos 0 ∷ pos 1 ∷ pos 9 ∷ pos 10 ∷ []) ≡ Some WrongValue ∷ None ∷ None ∷ Some WrongValue ∷ []
values = refl

two_ranges : map (λ n. alone table (3 ∷ 5 ∷ []) (int n)) (negsuc 1 ∷ negsuc 0 ∷ pos 0 ∷ pos 31 ∷ pos 32 ∷ pos 100 ∷ []) ≡ Some WrongValue ∷ None ∷ Some WrongValue ∷ Some WrongValue ∷ None ∷ Some WrongValue ∷ []
two_ranges = refl

types : map (alone table (2 ∷ 5 ∷ [])) (octets [] ∷ null ∷ name [] ∷ counter 5 ∷ []) ≡ Some WrongType ∷ Some WrongType ∷ Some WrongType ∷ Some WrongType ∷ []
types = refl

texts : map (alone table (11 ∷ 5 ∷ [])) (octets [] ∷ octets (1 ∷ 2 ∷ 3 ∷ []) ∷ octets (1 ∷ 2 ∷ 3 ∷ 4 ∷ []) ∷ int (pos 1) ∷ []) ≡ None ∷ None ∷ Some WrongLength ∷ Some WrongType ∷ []
texts = refl

sources : map (alone table (4 ∷ 5 ∷ [])) (name (interface_name 1) ∷ name (interface_name 4) ∷ name (interface_name 5) ∷ name [] ∷ int (pos 1) ∷ []) ≡ None ∷ None ∷ Some WrongValue ∷ Some WrongValue ∷ Some WrongType ∷ []
sources = refl

any_names : map (alone table (5 ∷ 5 ∷ [])) (name [] ∷ name (1 ∷ 2 ∷ 3 ∷ []) ∷ octets [] ∷ []) ≡ None ∷ None ∷ Some WrongType ∷ []
any_names = refl

entry_statuses : map (λ n. alone table (12 ∷ 5 ∷ []) (int (pos n))) (0 ∷ 1 ∷ 2 ∷ 3 ∷ 4 ∷ 5 ∷ []) ≡ Some WrongValue ∷ None ∷ None ∷ None ∷ None ∷ Some WrongValue ∷ []
entry_statuses = refl

row_statuses : map (λ n. alone row_table (12 ∷ 5 ∷ []) (int (pos n))) (0 ∷ 1 ∷ 2 ∷ 3 ∷ 4 ∷ 5 ∷ 6 ∷ 7 ∷ []) ≡ Some WrongValue ∷ None ∷ None ∷ Some WrongValue ∷ None ∷ None ∷ None ∷ Some WrongValue ∷ []
row_statuses = refl

not_writable : map (λ behind. alone table behind (int (pos 1))) ([] ∷ (1 ∷ 5 ∷ []) ∷ (6 ∷ 5 ∷ []) ∷ (6 ∷ []) ∷ []) ≡ Some NotWritable ∷ Some NotWritable ∷ Some NotWritable ∷ Some NotWritable ∷ []
not_writable = refl

-- what follows the column has to be one number of 1 to 65535
no_creation : map (λ index. alone table (2 ∷ index) (int (pos 1))) ([] ∷ (0 ∷ []) ∷ (1 ∷ []) ∷ (65535 ∷ []) ∷ (65536 ∷ []) ∷ (5 ∷ 5 ∷ []) ∷ []) ≡ Some NoCreation ∷ Some NoCreation ∷ None ∷ None ∷ Some NoCreation ∷ Some NoCreation ∷ []
no_creation = refl

-- a wrong value comes before a wrong index
value_first : alone table (2 ∷ 0 ∷ []) (int (pos 0)) ≡ Some WrongValue
value_first = refl

other_table : first_pass table (record { name = 1 ∷ 4 ∷ 2 ∷ 5 ∷ []; value = null } ∷ []) 0 ≡ None
other_table = refl

-- the second pass of a status, of an ordinary column and of one that may always be set, for each number that the status takes
abbrev faults : ControlTable → List ℕ → State → Ask → Bool → List (Option ErrorStatus)
faults table index state ask ready = map (row_fault table index state ask ready false false) (12 ∷ 2 ∷ 11 ∷ [])

abbrev step : ControlTable → State → ℕ → List (Option ErrorStatus)
step table state n = faults table (5 ∷ []) state (number_ask table.status_kind n) true

-- the same where no status is set: of the two columns
abbrev unasked : ControlTable → State → List (Option ErrorStatus)
unasked table state = map (row_fault table (5 ∷ []) state Nothing true false false) (2 ∷ 11 ∷ [])

-- nothing is wrong with any, or one thing with each of them
abbrev fine : List (Option ErrorStatus)
fine = None ∷ None ∷ None ∷ []

abbrev wrong_name : Option ErrorStatus
wrong_name = Some InconsistentName

abbrev wrong_value : Option ErrorStatus
wrong_value = Some InconsistentValue

abbrev not_set : Option ErrorStatus
not_set = Some NotWritable

absent : unasked table Absent ≡ wrong_name ∷ wrong_name ∷ []
absent = refl

absent_each : map (step table Absent) (1 ∷ 2 ∷ 3 ∷ 4 ∷ [])
    ≡ (wrong_name ∷ wrong_name ∷ wrong_name ∷ []) ∷ fine ∷ (wrong_name ∷ wrong_name ∷ wrong_name ∷ []) ∷ (None ∷ wrong_name ∷ wrong_name ∷ []) ∷ []
absent_each = refl

under_creation : unasked table UnderCreation ≡ None ∷ None ∷ []
under_creation = refl

under_creation_each : map (step table UnderCreation) (1 ∷ 2 ∷ 3 ∷ 4 ∷ []) ≡ fine ∷ (wrong_value ∷ None ∷ None ∷ []) ∷ fine ∷ fine ∷ []
under_creation_each = refl

not_ready : faults table (5 ∷ []) UnderCreation (number_ask EntryStatus 1) false ≡ wrong_value ∷ None ∷ None ∷ []
not_ready = refl

valid : unasked table Valid ≡ wrong_value ∷ None ∷ []
valid = refl

valid_each : map (step table Valid) (1 ∷ 2 ∷ 3 ∷ 4 ∷ [])
    ≡ (None ∷ wrong_value ∷ None ∷ []) ∷ (wrong_value ∷ wrong_value ∷ None ∷ []) ∷ fine ∷ (None ∷ wrong_value ∷ None ∷ []) ∷ []
valid_each = refl

-- a valid row asks for no readiness
valid_not_ready : faults table (5 ∷ []) Valid (number_ask EntryStatus 1) false ≡ None ∷ wrong_value ∷ None ∷ []
valid_not_ready = refl

-- the states that the same Sets lead to, by number, and where no status is set
abbrev states : ControlTable → State → List ℕ → List State
states table state numbers = map (λ n. next_state (number_ask table.status_kind n) state) numbers

entry_states : map (λ state. states table state (0 ∷ 1 ∷ 2 ∷ 3 ∷ 4 ∷ [])) (Absent ∷ UnderCreation ∷ Valid ∷ [])
    ≡ (Absent ∷ Absent ∷ UnderCreation ∷ Absent ∷ Absent ∷ [])
    ∷ (UnderCreation ∷ Valid ∷ UnderCreation ∷ UnderCreation ∷ Absent ∷ [])
    ∷ (Valid ∷ Valid ∷ Valid ∷ UnderCreation ∷ Absent ∷ []) ∷ []
entry_states = refl

-- the same with RowStatus
row_absent : map (step row_table Absent) (1 ∷ 2 ∷ 4 ∷ 5 ∷ 6 ∷ [])
    ≡ (wrong_value ∷ wrong_name ∷ wrong_name ∷ []) ∷ (wrong_value ∷ wrong_name ∷ wrong_name ∷ []) ∷ fine ∷ fine ∷ (None ∷ wrong_name ∷ wrong_name ∷ []) ∷ []
row_absent = refl

-- a row can't be made active without a column that it needs, and can be made without it
row_not_ready : map (λ n. faults row_table (5 ∷ []) Absent (number_ask RowStatus n) false) (4 ∷ 5 ∷ []) ≡ (wrong_value ∷ None ∷ None ∷ []) ∷ fine ∷ []
row_not_ready = refl

row_out_of_service : map (step row_table UnderCreation) (1 ∷ 2 ∷ 4 ∷ 5 ∷ 6 ∷ [])
    ≡ fine ∷ fine ∷ (wrong_value ∷ None ∷ None ∷ []) ∷ (wrong_value ∷ None ∷ None ∷ []) ∷ fine ∷ []
row_out_of_service = refl

row_active : map (step row_table Valid) (1 ∷ 2 ∷ 4 ∷ 5 ∷ 6 ∷ [])
    ≡ (None ∷ wrong_value ∷ None ∷ []) ∷ fine ∷ (wrong_value ∷ wrong_value ∷ None ∷ []) ∷ (wrong_value ∷ wrong_value ∷ None ∷ []) ∷ (None ∷ wrong_value ∷ None ∷ []) ∷ []
row_active = refl

row_unasked : map (unasked row_table) (Absent ∷ UnderCreation ∷ Valid ∷ []) ≡ (wrong_name ∷ wrong_name ∷ []) ∷ (None ∷ None ∷ []) ∷ (wrong_value ∷ None ∷ []) ∷ []
row_unasked = refl

row_states : map (λ state. states row_table state (0 ∷ 1 ∷ 2 ∷ 4 ∷ 5 ∷ 6 ∷ [])) (Absent ∷ UnderCreation ∷ Valid ∷ [])
    ≡ (Absent ∷ Absent ∷ Absent ∷ Valid ∷ UnderCreation ∷ Absent ∷ [])
    ∷ (UnderCreation ∷ Valid ∷ UnderCreation ∷ UnderCreation ∷ UnderCreation ∷ Absent ∷ [])
    ∷ (Valid ∷ Valid ∷ UnderCreation ∷ Valid ∷ Valid ∷ Absent ∷ []) ∷ []
row_states = refl

-- rows that were there, and had a 7 in each column
abbrev gone_5 : Beginning
gone_5 = record { state = λ index. Absent; set = λ index column. Some (int (pos 7)) }

-- a table in which column 2 of row 6 is 3 at first, column 11 can never be set but in row 5, and row 7 stays
abbrev ruled : ControlTable
ruled = record row_table {
  rules = record {
    first = λ index column. if bytes_eq index (6 ∷ []) && nat_eq column 2 then Some (int (pos 3)) else None;
    is_fixed = λ index column. not (bytes_eq index (5 ∷ [])) && nat_eq column 11;
    stays = λ index. bytes_eq index (7 ∷ []);
  };
}

-- the same steps of row 7: only 1 may be said of it again
staying : map (λ n. faults ruled (7 ∷ []) Valid (number_ask RowStatus n) true) (1 ∷ 2 ∷ 4 ∷ 5 ∷ 6 ∷ [])
    ≡ (None ∷ wrong_value ∷ not_set ∷ []) ∷ (wrong_value ∷ None ∷ not_set ∷ []) ∷ (wrong_value ∷ wrong_value ∷ not_set ∷ []) ∷ (wrong_value ∷ wrong_value ∷ not_set ∷ []) ∷ (wrong_value ∷ wrong_value ∷ not_set ∷ []) ∷ []
staying = refl

-- a column that can never be set comes behind a row that isn't there, and before a value that doesn't fit
never_set : map (λ state. row_fault ruled (6 ∷ []) state Nothing true false true 11) (Absent ∷ UnderCreation ∷ Valid ∷ []) ≡ wrong_name ∷ not_set ∷ not_set ∷ []
never_set = refl

never_set_at_first : row_fault ruled (6 ∷ []) Absent (number_ask RowStatus 4) true false false 11 ≡ not_set
never_set_at_first = refl

-- row 6 has at first what it needs, and row 5 doesn't
ready_at_first : map (is_ready_with ruled gone_5 []) ((5 ∷ []) ∷ (6 ∷ []) ∷ []) ≡ false ∷ true ∷ []
ready_at_first = refl

-- each binding of a row that is one too many, whatever else is wrong with it, and no binding of a row that there is
one_too_many : map (row_fault table (5 ∷ []) Absent (number_ask EntryStatus 2) true true true) (12 ∷ 2 ∷ 11 ∷ []) ≡ wrong_name ∷ wrong_name ∷ wrong_name ∷ []
one_too_many = refl

there_already : map (row_fault table (5 ∷ []) UnderCreation Nothing true true false) (2 ∷ 11 ∷ []) ≡ None ∷ None ∷ []
there_already = refl

again : row_fault table (5 ∷ []) UnderCreation Nothing true false true 2 ≡ wrong_value
again = refl

-- a Set makes active a row 5 that was there: what it had counts no more
abbrev goes : Assignment
goes = binds (12 ∷ 5 ∷ []) (int (pos 4))

made_ready : map (λ bindings. is_ready_with row_table gone_5 bindings (5 ∷ [])) ((goes ∷ []) ∷ (goes ∷ binds (2 ∷ 5 ∷ []) (int (pos 7)) ∷ []) ∷ []) ≡ false ∷ true ∷ []
made_ready = refl

-- row 5 under creation, with or without the column that it needs
abbrev row_5 : Option Val → Beginning
row_5 needed = record { state = λ index. UnderCreation; set = λ index column. pick (nat_eq column 2) needed }
  where
    pick : Bool → Option Val → Option Val
    pick true value = value
    pick false value = None

-- it is made valid where it has what it needs with the Set's columns, whichever binding comes first
abbrev enables : Assignment
enables = binds (12 ∷ 5 ∷ []) (int (pos 1))

abbrev needs : Assignment
needs = binds (2 ∷ 5 ∷ []) (int (pos 7))

lacking : second_pass table (row_5 None) (enables ∷ []) 0 ≡ wrong_value
lacking = refl

not_lacking : second_pass table (row_5 (Some (int (pos 7)))) (enables ∷ []) 0 ≡ None
not_lacking = refl

given_before : map (second_pass table (row_5 None) (needs ∷ enables ∷ [])) (0 ∷ 1 ∷ []) ≡ None ∷ None ∷ []
given_before = refl

given_behind : map (second_pass table (row_5 None) (enables ∷ needs ∷ [])) (0 ∷ 1 ∷ []) ≡ None ∷ None ∷ []
given_behind = refl

-- what another row is given doesn't count
given_to_other : second_pass table (row_5 None) (enables ∷ binds (2 ∷ 6 ∷ []) (int (pos 7)) ∷ []) 0 ≡ wrong_value
given_to_other = refl

-- of two bindings of a status the first one counts, and the second is wrong
twice : map (second_pass table (row_5 None) (binds (12 ∷ 5 ∷ []) (int (pos 3)) ∷ enables ∷ [])) (0 ∷ 1 ∷ []) ≡ None ∷ wrong_value ∷ []
twice = refl

-- rows that there are and rows that a Set makes, each once, in whatever order it names their columns
counted : count_below (λ row. is_held_or_made table (record { state = λ index. if bytes_eq index (1 ∷ []) then Valid else Absent; set = λ index column. None }) (binds (12 ∷ 3 ∷ []) (int (pos 2)) ∷ binds (12 ∷ 1 ∷ []) (int (pos 2)) ∷ binds (12 ∷ 3 ∷ []) (int (pos 2)) ∷ binds (12 ∷ 4 ∷ []) (int (pos 4)) ∷ []) (row ∷ [])) 9 ≡ 2
unfolding count_below
counted = refl

-- the table is sound, and is so no more where its status is one of the other columns, or a default isn't taken
sound : map is_sound (table ∷ row_table ∷ record table { status = 11 } ∷ record table { columns = record { number = 2; kind = text 3; always = false; needed = false; default = null } ∷ [] } ∷ []) ≡ true ∷ true ∷ false ∷ false ∷ []
sound = refl
