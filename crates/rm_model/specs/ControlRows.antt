-- The rows of a control table after a journal, each by the numbers of its index.
use Rattle.std.specs.Prelude.{ℕ, ℤ, pos, List, [], ◌∷◌, ◌++◌, Bool, true, false, ◌&&◌, if◌then◌else◌, Option, Some, None, unwrap_or}
use Rattle.std.specs.Option.{option_or}
use Rattle.std.specs.Str.{bytes_eq}
use Rattle.rm_val.specs.Val.{Val, int, null}
use Rattle.rm_model.specs.Numbers.{by_number}
use Rattle.rm_model.specs.Journal.{Act, passes, assigns, samples, Assignments, Journal, moment_of, value_given}
use Rattle.rm_model.specs.ControlTable.{ControlTable, default_of}
use Rattle.rm_model.specs.declared.row.StatusKind.{StatusKind}
use Rattle.rm_model.specs.declared.row.StatusKind.TheVariants.{EntryStatus, RowStatus}
use Rattle.rm_model.specs.declared.row.State.{State}
use Rattle.rm_model.specs.declared.row.State.TheVariants.{Absent, UnderCreation, Valid}
use Rattle.rm_model.specs.declared.row.Ask.{Ask}
use Rattle.rm_model.specs.declared.row.Ask.TheVariants.{Nothing, Create, CreateValid, Enable, Disable, Destroy}

-- what each number asks as an EntryStatus (RFC 1757): valid, createRequest, underCreation, invalid
abbrev pub entry_status_asks : List (ℕ × Ask)
entry_status_asks = (1, Enable) ∷ (2, Create) ∷ (3, Disable) ∷ (4, Destroy) ∷ []

-- what each number asks as a RowStatus (RFC 1903): active, notInService, createAndGo, createAndWait, destroy
abbrev pub row_status_asks : List (ℕ × Ask)
row_status_asks = (1, Enable) ∷ (2, Disable) ∷ (4, CreateValid) ∷ (5, Create) ∷ (6, Destroy) ∷ []

-- what a number asks, by the kind of status; every other one asks nothing
abbrev pub number_ask : StatusKind → ℕ → Ask
number_ask EntryStatus n = by_number entry_status_asks Nothing n
number_ask RowStatus n = by_number row_status_asks Nothing n

-- what the value that a Set gives to a status asks, if it gives it one
abbrev pub value_ask : StatusKind → Option Val → Ask
value_ask kind (Some (int (pos n))) = number_ask kind n
value_ask kind other = Nothing

-- the name of a column of a row
abbrev pub cell_name : List ℕ → ℕ → List ℕ → List ℕ
cell_name entry column index = entry ++ column ∷ index

-- what a Set asks of a row, by the value that it gives to the row's status
abbrev pub set_ask : ControlTable → Assignments → List ℕ → Ask
set_ask table values index = value_ask table.status_kind (value_given values (cell_name table.entry table.status index))

-- what an act asks of a row
abbrev pub act_ask : ControlTable → Act → List ℕ → Ask
act_ask table (passes frame) index = Nothing
act_ask table (assigns moment values) index = set_ask table values index
act_ask table (samples moment alarm None) index = if table.is_sampled && bytes_eq index (alarm ∷ []) then Destroy else Nothing
act_ask table (samples moment alarm (Some reading)) index = Nothing

-- the state of a row that was asked something
abbrev pub next_state : Ask → State → State
next_state Nothing state = state
next_state Create Absent = UnderCreation
next_state CreateValid Absent = Valid
next_state Enable UnderCreation = Valid
next_state Disable Valid = UnderCreation
next_state Destroy state = Absent
next_state ask state = state

-- whether there is no such row, and whether it is valid
abbrev pub is_absent : State → Bool
is_absent Absent = true
is_absent UnderCreation = false
is_absent Valid = false

abbrev pub is_valid : State → Bool
is_valid Valid = true
is_valid UnderCreation = false
is_valid Absent = false

-- the number that an index is
abbrev pub index_value : List ℕ → Val
index_value [] = null
index_value (number ∷ more) = int (pos number)

-- the number of a state, as an EntryStatus (RFC 1757, section 5)
abbrev pub entry_status : State → ℤ
entry_status Valid = pos 1
entry_status UnderCreation = pos 3
entry_status Absent = pos 4

-- what the rows are before the first act: their states, and the values that their columns were set to
pub record Beginning : Type 0 where
  pub state : List ℕ → State
  pub set : List ℕ → ℕ → Option Val

-- a table that begins without a row
abbrev pub no_rows : Beginning
no_rows = record { state = λ index. Absent; set = λ index column. None }

-- the state of a row: each act in turn asks something of it
abbrev pub state_of : ControlTable → Beginning → Journal → List ℕ → State
state_of table beginning [] index = beginning.state index
state_of table beginning (act ∷ earlier) index = next_state (act_ask table act index) (state_of table beginning earlier index)

-- the value that a column of a row was last set to since the row was made, if it was set, also by being made
abbrev pub set_value : ControlTable → Beginning → Journal → List ℕ → ℕ → Option Val
set_value table beginning [] index column = beginning.set index column
set_value table beginning (assigns moment values ∷ earlier) index column =
    option_or (value_given values (cell_name table.entry column index))
    (if is_absent (state_of table beginning earlier index) then table.rules.first index column else set_value table beginning earlier index column)
set_value table beginning (passes frame ∷ earlier) index column = set_value table beginning earlier index column
set_value table beginning (samples moment alarm reading ∷ earlier) index column = set_value table beginning earlier index column

-- the value of a column of a row
abbrev pub value_of : ControlTable → Beginning → Journal → List ℕ → ℕ → Val
value_of table beginning journal index column =
    unwrap_or (set_value table beginning journal index column) (default_of table column)

-- whether a row is valid after the newest act and was so before it
abbrev pub stays_valid : ControlTable → Beginning → Act → Journal → List ℕ → Bool
stays_valid table beginning act earlier index =
    is_valid (state_of table beginning earlier index) && is_valid (state_of table beginning (act ∷ earlier) index)

-- the acts after the one by which a row last became valid, the newest first; none where it isn't valid
abbrev pub since : ControlTable → Beginning → Journal → List ℕ → Journal
since table beginning [] index = []
since table beginning (act ∷ earlier) index =
    if stays_valid table beginning act earlier index then act ∷ since table beginning earlier index else []

-- The moment of the act by which a row last became valid: 0 where it has been so from before the first act, and where
-- it isn't valid.
abbrev pub activated : ControlTable → Beginning → Journal → List ℕ → ℕ
activated table beginning [] index = 0
activated table beginning (act ∷ earlier) index =
    if stays_valid table beginning act earlier index then activated table beginning earlier index
    else if is_valid (state_of table beginning (act ∷ earlier) index) then moment_of act
    else 0
