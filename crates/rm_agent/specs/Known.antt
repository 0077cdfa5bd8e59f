-- What the groups know of what the probe is set to.
use Rattle.rm_model.specs.Readings.{nothing_read}
use Rattle.rm_model.specs.Counting.{Counting}
use Rattle.rm_acts.specs.Recurring.{sampling}
use Rattle.rm_settings.specs.declared.settings.Settings.{Settings}
use Rattle.rm_agent.specs.Watched.{watched_cells}

-- what the groups know of the settings
abbrev pub known_to_groups : Settings → Counting
known_to_groups settings = record {
  hosts = settings.hosts;
  pairs = settings.pairs;
  upper = settings.upper;
  interfaces = settings.interfaces;
  keep_short = settings.keep_short;
  readings = λ journal now. nothing_read;
}

-- what the groups depend on: alarms read the variables of etherStats, of the distribution of protocols, of the history, of the hosts, of their reports, of the matrix, of channelTable and of bufferControlTable
abbrev pub counting_by : Settings → Counting
counting_by settings = sampling watched_cells (known_to_groups settings)
