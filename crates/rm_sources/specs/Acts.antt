-- That the groups take an act step by step.
use Rattle.std.specs.Prelude.{◌∷◌}
use Rattle.rm_model.specs.Counting.{Counting}
use Rattle.rm_model.specs.Journal.{Act, Journal}
use Rattle.rm_acts.specs.Fired.{act_fires, fired}
use Rattle.rm_filter.specs.Acts.{ended as filters_ended}
use Rattle.rm_sources.specs.Group.{Stands, IsUnderWay}
use Rattle.rm_sources.specs.declared.sources.Sources.{Sources}

-- where all firings of an act were taken, the groups stand for the journal with that act
pub ended : (held : Sources) (settings : Counting) (act : Act) (earlier : Journal) → IsUnderWay held settings act earlier (act_fires settings act earlier (fired settings earlier))
    → Stands held settings (act ∷ earlier)
unfolding Stands
ended held settings act earlier under = record {
  first = record { first = under.ether; second = under.collectors; tied = tt };
  second = record {
    first = under.protocols;
    second = record {
      first = filters_ended held.groups.second.second.groups.first settings act earlier under.channels.channels;
      second = under.channels.buffers;
      tied = tt;
    };
    tied = tt;
  };
  tied = tt;
}
