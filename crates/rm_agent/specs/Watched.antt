-- The variables that alarms may sample, by what the probe was set to.
use Rattle.std.specs.Prelude.{ℕ}
use Rattle.rm_model.specs.Counting.{Counting}
use Rattle.rm_model.specs.Journal.{Journal}
use Rattle.rm_model.specs.Cells.{Cells}
use Rattle.rm_sources.specs.Group.{sampled_cells}

-- those of etherStats, of the distribution of protocols, of the history, of the hosts, of their reports, of the matrix, of channelTable and of bufferControlTable
abbrev pub watched_cells : Counting → Journal → ℕ → Cells
watched_cells = sampled_cells
