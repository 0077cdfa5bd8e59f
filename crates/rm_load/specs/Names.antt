-- The variables that a load sets and shows: columns of row 1 of five tables (RFC 1757 and 2021).
use Rattle.std.specs.Prelude.{ℕ, List, [], ◌∷◌}
use Rattle.rm_load.specs.declared.table.Table.{Table}
use Rattle.rm_load.specs.declared.table.Table.TheVariants.{EtherStats, HostControl, MatrixControl, HlHostControl, HlMatrixControl}
use Rattle.rm_load.specs.declared.figure.Figure.{Figure}
use Rattle.rm_load.specs.declared.figure.Figure.TheVariants.{EtherStatsPkts, EtherStatsOctets, HostControlTableSize, HostControlLastDeleteTime, MatrixControlTableSize, MatrixControlLastDeleteTime, HostNlInserts, HostNlDeletes, HostAlInserts, HostAlDeletes, MatrixNlInserts, MatrixNlDeletes, MatrixAlInserts, MatrixAlDeletes}

-- the number of the group that a table is the first of
abbrev pub group_of : Table → ℕ
group_of EtherStats = 1
group_of HostControl = 4
group_of MatrixControl = 6
group_of HlHostControl = 14
group_of HlMatrixControl = 15

-- the name of a column of row 1
abbrev pub name_in : Table → ℕ → List ℕ
name_in table column = 1 ∷ 3 ∷ 6 ∷ 1 ∷ 2 ∷ 1 ∷ 16 ∷ group_of table ∷ 1 ∷ 1 ∷ column ∷ 1 ∷ []

-- the column with the status of a row
abbrev pub status_column : Table → ℕ
status_column EtherStats = 21
status_column HostControl = 6
status_column MatrixControl = 6
status_column HlHostControl = 12
status_column HlMatrixControl = 12

-- the variable that a figure is the number of
abbrev pub variable_of : Figure → List ℕ
variable_of EtherStatsPkts = name_in EtherStats 5
variable_of EtherStatsOctets = name_in EtherStats 4
variable_of HostControlTableSize = name_in HostControl 3
variable_of HostControlLastDeleteTime = name_in HostControl 4
variable_of MatrixControlTableSize = name_in MatrixControl 3
variable_of MatrixControlLastDeleteTime = name_in MatrixControl 4
variable_of HostNlInserts = name_in HlHostControl 4
variable_of HostNlDeletes = name_in HlHostControl 5
variable_of HostAlInserts = name_in HlHostControl 8
variable_of HostAlDeletes = name_in HlHostControl 9
variable_of MatrixNlInserts = name_in HlMatrixControl 4
variable_of MatrixNlDeletes = name_in HlMatrixControl 5
variable_of MatrixAlInserts = name_in HlMatrixControl 8
variable_of MatrixAlDeletes = name_in HlMatrixControl 9
