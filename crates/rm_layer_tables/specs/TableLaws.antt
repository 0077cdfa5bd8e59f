-- That the names of cells leave room for their indexes.
use Rattle.std.proofs.Common.{ℕ, ◌≤◌, arith}
use Rattle.rm_layer_tables.specs.Tables.{MarkedTable, CanShow}

pub short_of : {G : Type 0} (table : MarkedTable G) (longest : ℕ) → CanShow table longest → longest ≤ 127
short_of table longest shown = let fits = shown.fits in omega (arith, fits)
