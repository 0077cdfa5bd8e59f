-- The rows that the directory has from the beginning, as the code has them.
use Rattle.rm_dir.specs.declared.built_in.BuiltIn as declared
use Rattle.rm_dir.specs.BuiltIn.{BuiltIn}

-- a row of the code
abbrev pub row_of : declared.BuiltIn → BuiltIn
row_of row = record { protocol = row.protocol; descr = row.descr.now }
