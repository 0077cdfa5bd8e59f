-- How a Set is judged on the directory, beside what is judged on every control table: protocolDirLastChange can't be set, and there has to be a
-- local index for each row that is made.
use Rattle.std.specs.Prelude.{ℕ, ◌+◌, ◌^◌, List, Bool, ◌&&◌, nat_lt, if◌then◌else◌, Option, Some, None}
use Rattle.std.specs.Option.{option_or}
use Rattle.rm_val.specs.Val.{Val}
use Rattle.rm_val.specs.declared.error.ErrorStatus.{ErrorStatus}
use Rattle.rm_val.specs.declared.error.ErrorStatus.TheVariants.{InconsistentName}
use Rattle.rm_model.specs.Journal.{Journal}
use Rattle.rm_model.specs.ControlRows.{Beginning, set_ask}
use Rattle.rm_model.specs.Judgement.{Bindings, name_at, place_of, is_made, count_below, second_pass, rows_after}
use Rattle.rm_model.specs.declared.place.Place.{Place}
use Rattle.rm_model.specs.declared.place.Place.TheVariants.{Cell}
use Rattle.rm_group.specs.Listed.{alone_beside}
use Rattle.rm_dir.specs.DirectoryIndex.{directory_index}
use Rattle.rm_dir.specs.LocalIndexes.{greatest_given}
use Rattle.rm_dir.specs.ProtocolDir.{protocol_dir, directory_beginning}
use Rattle.rm_dir.specs.Tables.{change_listed}

-- what is wrong with a binding alone
abbrev pub directory_alone : List ℕ → Val → Option ErrorStatus
directory_alone = alone_beside protocol_dir change_listed

-- whether a Set makes the row with a number, by the rows before it
abbrev pub makes_row : Beginning → Bindings → ℕ → Bool
makes_row before bindings row = is_made (before.state (directory_index row)) (set_ask protocol_dir bindings (directory_index row))

-- whether a local index would be above 2147483647, the greatest INTEGER, once so many were given
abbrev pub are_used_up : (given : ℕ) → Beginning → Bindings → Bool
are_used_up given before bindings = nat_lt 2147483647 (given + count_below (makes_row before bindings) (2 ^ 32))

-- each binding of each row that the Set makes is wrong then
abbrev pub local_fault_by : (used_up : Bool) → Beginning → Bindings → Place → Option ErrorStatus
local_fault_by used_up before bindings (Cell column row) = if used_up && makes_row before bindings row then Some InconsistentName else None
local_fault_by used_up before bindings elsewhere = None

abbrev pub local_fault : (given : ℕ) → Beginning → Bindings → ℕ → Option ErrorStatus
local_fault given before bindings place =
    local_fault_by (are_used_up given before bindings) before bindings (place_of protocol_dir (name_at bindings place))

-- what is wrong with the binding at a place together with the others of its row
abbrev pub together_by : (given : ℕ) → Beginning → Bindings → ℕ → Option ErrorStatus
together_by given before bindings place = option_or (local_fault given before bindings place) (second_pass protocol_dir before bindings place)

-- the same after a journal
abbrev pub directory_together : Journal → Bindings → ℕ → Option ErrorStatus
directory_together journal = together_by (greatest_given journal) (rows_after protocol_dir directory_beginning journal)
