use Rattle.std.proofs.Common.{◌+◌}
use Rattle.rm_load.proofs.FigureNumbers.{is_number}
use Rattle.rm_load.proofs.laws.figures_are_numbers.Goals as goal

pub returns : goal.returns
returns c settings start count = is_number settings start count (1001 + count)
