-- The laws of what the rows of hlMatrixControl collect.
use Rattle.rm_collect.specs.Collection.{IsLawful}
use Rattle.rm_layer_tables.specs.ControlColumns.{layer_rows}
use Rattle.rm_layer_tables.specs.Lawful.{layer_lawful}
use Rattle.rm_hl_matrices.specs.Control.{control_rows, named_entry}
use Rattle.rm_hl_matrices.specs.Collection.{pair_parts, pair_shown, pair_collection}
use Rattle.rm_hl_matrices.specs.Listing.{all_listed, all_refused}
use Rattle.rm_hl_matrices.specs.SameCells.{same_cells, all_finite}

pub pair_lawful : IsLawful control_rows pair_collection
unfolding pair_collection layer_rows
pair_lawful = layer_lawful pair_parts pair_shown named_entry.named same_cells all_finite all_listed all_refused
