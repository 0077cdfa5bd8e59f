use Rattle.std.proofs.Common.{[], ap, sym, subst, arith}
use Rattle.rm_model.specs.Journal.{Act, samples}
use Rattle.rm_alarm.specs.Watched.{number_read}
use Rattle.rm_sources.specs.Group.{IsUnderWay as SourcesUnderWay, collectors_of, left_of}
use Rattle.rm_sources.specs.declared.sources.Sources.{Sources}
use Rattle.rm_agent.proofs.Askable.{sources_askable}
use Rattle.rm_agent.proofs.groups.sample.Goals as goal

pub returns-clause-under_way : goal.returns-clause-under_way
returns-clause-under_way c settings journal stands later asked =
    let index = c.args.index in
    let moment = c.args.moment in
    let reading = number_read settings journal moment index in
    let act : Act = samples moment index reading in
    let watched = stands.second.second in
    let begun = c.sample_begins-2.ensures settings journal index reading watched.first later asked.1.1.0 in (
      c.sample_begins.ensures settings journal index reading stands.second.first later asked.1.0,
      record {
        first = subst (λ (sources : Sources). SourcesUnderWay sources settings act journal []) (sym c.take_sample.ensures.watched) begun;
        second = c.take_sample.ensures.stands settings journal watched later (sources_askable c.args.groups.now c.args.moment asked);
        tied = watched.tied;
      },
    )

pub returns-clause-result : goal.returns-clause-result
returns-clause-result c settings journal stands later asked = c.take_sample.ensures.result settings journal stands.second.second later (sources_askable c.args.groups.now c.args.moment asked)

pub returns-clause-collectors : goal.returns-clause-collectors
returns-clause-collectors c = ap collectors_of c.take_sample.ensures.watched

pub returns-clause-fewer : goal.returns-clause-fewer
returns-clause-fewer c latest within =
    let less = c.take_sample.ensures.fewer latest within in
    let same = ap (λ (sources : Sources). left_of sources latest) c.take_sample.ensures.watched in
    omega (arith, less, same)
