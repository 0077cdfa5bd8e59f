use Rattle.std.proofs.Common.{refl}
use Rattle.rm_agent.specs.Known.{counting_by, known_to_groups}
use Rattle.rm_agent.proofs.groups.first_watched.Goals as goal

pub returns-clause-stands : goal.returns-clause-stands
returns-clause-stands c =
    let settings = counting_by c.args.settings.now in record {
      first = c.new.ensures.stands settings (record { interfaces = refl; collectors = record { hosts = refl; pairs = refl }; upper = refl });
      second = record { stand = c.new-2.ensures.stands settings; based = c.new-2.ensures.based settings };
      tied = c.reads_cells.ensures (known_to_groups c.args.settings.now);
    }
