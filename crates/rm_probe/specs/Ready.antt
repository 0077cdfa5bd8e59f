-- What is made ready before a run that serves binds its port.
use Rattle.std.specs.Prelude.{◌≡◌, ℕ, List, length}
use Rattle.rm_edge.specs.Outside.{Held}
use Rattle.rm_edge.specs.declared.outside.link.Peer.{Peer}
use Rattle.rm_model.specs.Journal.{Frame}
use Rattle.rm_pcap.specs.Records.{Stop}
use Rattle.rm_captures.specs.Left.{AreLeft, passed_of}
use Rattle.rm_captures.specs.Reading.{AreHeld}
use Rattle.rm_captures.specs.Rounds.{AreCaptures}
use Rattle.rm_settings.specs.declared.settings.Settings.{Settings}
use Rattle.rm_probe.specs.Probe.{IsFresh, settings_of}
use Rattle.rm_probe.specs.Steps.{Keeps}
use Rattle.rm_probe.specs.Turns.{room}
use Rattle.rm_probe.specs.declared.serving.Serving.{Serving}

-- Nothing came to the probe yet, no record is passed, and there is room for a datagram.
pub record IsReady (settings : Settings) (lead : ℕ) (manager : Peer) (held : List ℕ → Held) (names : List (List ℕ)) (serving : Serving) : Type 0 where
  pub whole : length serving.datagram.items ≡ room
  pub fresh : IsFresh serving.replaying.probe
  pub set : settings_of serving.replaying.probe ≡ settings
  pub begun : Keeps (length names) 0 serving.replaying.probe serving.replaying.captures.items
  pub none : passed_of serving.replaying.captures.items ≡ 0
  pub last_is : serving.last ≡ 0
  pub manager_is : serving.manager ≡ manager
  pub left : (files : List (List ℕ)) (frames : List Frame) (stop : Stop) → AreHeld held names files → AreCaptures lead files frames stop → AreLeft 1 serving.replaying.captures.items files frames stop
