-- An act has ended where all of its firings were taken.
use Rattle.rm_model.specs.Counting.{Counting}
use Rattle.rm_model.specs.Journal.{Act, Journal}
use Rattle.std.specs.Prelude.{◌∷◌}
use Rattle.rm_acts.specs.Fired.{act_fires, fired}
use Rattle.rm_event.specs.Acts.{ended as events_ended}
use Rattle.rm_sources.specs.Acts.{ended as sources_ended}
use Rattle.rm_agent.specs.Members.{Groups, events_of, sources_of}
use Rattle.rm_agent.specs.Groups.{GroupsStand, AreUnderWay}

pub ended : (groups : Groups) (settings : Counting) (act : Act) (earlier : Journal) → AreUnderWay groups settings act earlier (act_fires settings act earlier (fired settings earlier)) → GroupsStand groups settings (act ∷ earlier)
ended groups settings act earlier under = record {
  first = tt;
  second = record {
    first = events_ended (events_of groups) settings act earlier under.0.0 under.0.1;
    second = record {
      first = sources_ended (sources_of groups) settings act earlier under.1.first;
      second = under.1.second;
      tied = under.1.tied;
    };
    tied = tt;
  };
  tied = tt;
}
