use Rattle.std.proofs.Common.{sym}
use Rattle.rm_agent.proofs.groups.pass.Goals as goal

pub returns-clause-stands : goal.returns-clause-stands
returns-clause-stands c settings earlier frame is stands later =
    let ended = c.end_by.ensures.stands settings earlier stands in
    let asked = c.end_by.ensures.askable in
    let watched = ended.second.second in
    c.fire_accepting.ensures.stands settings earlier frame (sym is.at) (
      c.pass.ensures.begins settings earlier frame is ended.second.first later asked.1.0,
      record {
        first = c.pass-2.ensures.begins settings earlier frame is watched.first later asked.1.1.0;
        second = c.pass-3.ensures.begins settings earlier frame is watched.second later asked.1.1.1;
        tied = watched.tied;
      },
    )

pub returns-clause-stocked : goal.returns-clause-stocked
returns-clause-stocked c stocked =
    let kept = c.end_by.ensures.stocked stocked in
    c.fire_accepting.ensures.stocked (tt, (c.pass.ensures.stocked kept.1.0, (c.pass-2.ensures.stocked kept.1.1.0, c.pass-3.ensures.stocked kept.1.1.1)))
