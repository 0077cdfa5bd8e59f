-- The laws of what the rows of matrixControl collect.
use Rattle.std.proofs.Common.{refl, rules}
use Rattle.rm_keyed.proofs.Pairs.{exact_pair}
use Rattle.rm_collect.specs.Collection.{IsLawful}
use Rattle.rm_sourced.specs.Laws.{IsLawful as AreLawful}
use Rattle.rm_sourced.specs.Lawful.{source_lawful}
use Rattle.rm_matrix.specs.Control.{named_entry}
use Rattle.rm_matrix.specs.ControlColumns.{control_rows}
use Rattle.rm_matrix.specs.Tables.{pair_sourcing}
use Rattle.rm_matrix.specs.Shown.{sources, destinations}
use Rattle.rm_matrix.specs.Collection.{matrix_collection}
use Rattle.rm_matrix.specs.SameCells.{value_is, source_is, destination_is}

pub matrix_laws : AreLawful named_entry pair_sourcing sources destinations
matrix_laws = record {
  exact = exact_pair;
  control_fits = Prim.search rules;
  first_below = refl;
  second_below = refl;
  is_first = record { always = λ now. refl; found = source_is; same = value_is };
  is_second = record { always = λ now. refl; found = destination_is; same = value_is };
  recurring = λ settings one other journal alike now name. refl;
}

pub matrix_lawful : IsLawful control_rows matrix_collection
matrix_lawful = source_lawful named_entry pair_sourcing sources destinations matrix_laws (λ room. room.pairs)
