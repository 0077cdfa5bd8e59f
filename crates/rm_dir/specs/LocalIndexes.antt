-- The local indexes of protocols (RFC 2021, protocolDirLocalIndex).
use Rattle.std.specs.Prelude.{ℕ, ◌+◌, ◌^◌, List, [], ◌∷◌, Bool, ◌&&◌, not, if◌then◌else◌, length}
use Rattle.std.specs.Option.{option_map_or}
use Rattle.rm_model.specs.Journal.{Act, Journal}
use Rattle.rm_model.specs.ControlRows.{is_absent}
use Rattle.rm_model.specs.Judgement.{count_below}
use Rattle.rm_path.specs.Identifier.{number_of}
use Rattle.rm_dir.specs.DirectoryIndex.{directory_index, protocol_of}
use Rattle.rm_dir.specs.BuiltIn.{built_in_rows, built_in_local}
use Rattle.rm_dir.specs.ProtocolDir.{directory_state}

-- whether an act makes a row
abbrev pub makes : Act → Journal → List ℕ → Bool
makes act earlier index = is_absent (directory_state earlier index) && not (is_absent (directory_state (act ∷ earlier) index))

-- how many of the rows that an act makes have a protocol whose number is below another; the numbers rise as the names of the rows do
abbrev pub count_made_below : Act → Journal → ℕ → ℕ
count_made_below act earlier number = count_below (λ row. makes act earlier (directory_index row)) number

-- the greatest local index that was given: one for each row that was there from the beginning, and one for each that was made since
abbrev pub greatest_given : Journal → ℕ
greatest_given [] = length built_in_rows
greatest_given (act ∷ earlier) = greatest_given earlier + count_made_below act earlier (2 ^ 32)

-- The local index of a row, which it has from being made: the next one, or where an act makes several rows the next ones in the order of their
-- names. So none is given twice.
abbrev pub local_index : Journal → List ℕ → ℕ
local_index [] index = option_map_or built_in_local (protocol_of index) 0
local_index (act ∷ earlier) index =
    if makes act earlier index then greatest_given earlier + 1 + count_made_below act earlier (option_map_or number_of (protocol_of index) 0)
    else local_index earlier index
