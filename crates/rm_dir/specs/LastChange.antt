-- When the directory last changed (RFC 2021, protocolDirLastChange).
use Rattle.std.specs.Prelude.{ℕ, ◌^◌, List, [], ◌∷◌, Bool, ◌&&◌, ◌||◌, not, nat_eq, nat_lt, if◌then◌else◌}
use Rattle.rm_model.specs.Journal.{Act, Journal, moment_of}
use Rattle.rm_model.specs.ControlRows.{is_absent}
use Rattle.rm_model.specs.Judgement.{count_below}
use Rattle.rm_columns.specs.Values.{natural_in}
use Rattle.rm_dir.specs.DirectoryIndex.{directory_index}
use Rattle.rm_dir.specs.ProtocolDir.{directory_state, directory_value}
use Rattle.rm_dir.specs.LocalIndexes.{makes}

-- whether an act removes a row
abbrev pub removes : Act → Journal → List ℕ → Bool
removes act earlier index = not (is_absent (directory_state earlier index)) && is_absent (directory_state (act ∷ earlier) index)

-- the number in a column of a row
abbrev pub config_of : Journal → List ℕ → ℕ → ℕ
config_of journal index column = natural_in (directory_value journal index column)

-- whether an act changes whether the tables of hosts, or those of matrices, count the protocol of a row that is there before and after
abbrev pub changes_config : Act → Journal → List ℕ → ℕ → Bool
changes_config act earlier index column =
    not (is_absent (directory_state earlier index)) && (not (is_absent (directory_state (act ∷ earlier) index))
    && not (nat_eq (config_of (act ∷ earlier) index column) (config_of earlier index column)))

-- whether an act changes a row: makes it, removes it, or changes one of these columns; a value that is set again is no change
abbrev pub changes : Act → Journal → List ℕ → Bool
changes act earlier index =
    makes act earlier index || (removes act earlier index || (changes_config act earlier index 7 || changes_config act earlier index 8))

-- whether an act changes some row
abbrev pub changes_some : Act → Journal → Bool
changes_some act earlier = nat_lt 0 (count_below (λ row. changes act earlier (directory_index row)) (2 ^ 32))

-- the moment of the last act that changed a row, 0 before the first
abbrev pub last_change : Journal → ℕ
last_change [] = 0
last_change (act ∷ earlier) = if changes_some act earlier then moment_of act else last_change earlier
