-- What the valid rows of matrixControl collect: each has pairs of hosts, which matrixSD and matrixDS show.
use Rattle.rm_collect.specs.Collection.{Collection}
use Rattle.rm_sourced.specs.Collection.{source_collection}
use Rattle.rm_matrix.specs.declared.matrix_room.MatrixRoom.{MatrixRoom}
use Rattle.rm_matrix.specs.Control.{named_entry}
use Rattle.rm_matrix.specs.ControlColumns.{ControlColumns}
use Rattle.rm_matrix.specs.Shown.{sources, destinations}
use Rattle.rm_matrix.specs.Tables.{MatrixTable, pair_sourcing}

abbrev pub matrix_collection : Collection ControlColumns MatrixTable MatrixRoom (Unit {0})
matrix_collection = source_collection named_entry pair_sourcing sources destinations (λ room. room.pairs)
