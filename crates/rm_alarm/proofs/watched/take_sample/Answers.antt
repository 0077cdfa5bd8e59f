use Rattle.std.proofs.Common.{◌≡◌, ◌∷◌, Option, ap, subst}
use Rattle.std.specs.Prelude.{ℤ}
use Rattle.std.specs.Option.{option_map}
use Rattle.rm_model.specs.Journal.{samples}
use Rattle.rm_acts.specs.Alarms.{variable_of, sampled}
use Rattle.rm_alarm.specs.Standing.{Stands, AreBased}
use Rattle.rm_alarm.proofs.Watching.{reads}
use Rattle.rm_alarm.proofs.watched.take_sample.Goals as goal

pub returns-clause-stands : goal.returns-clause-stands
returns-clause-stands g c settings journal is later askable =
    let read = ap (option_map (λ reading. reading.value)) (reads g.G.Readable.sampleable (g.G.Readable.shown c.args.group.now.first c.args.moment) settings journal c.args.moment (c.shows.ensures settings journal is.first later askable) is.tied (variable_of journal c.args.index)) in
    record {
      stand = subst (λ (number : Option ℤ). Stands c.sample.new.self settings (samples c.args.moment c.args.index number ∷ journal)) read
          (c.sample.ensures.stands settings journal is.second.stand is.second.based);
      based = subst (λ (number : Option ℤ). AreBased c.sample.new.self settings (samples c.args.moment c.args.index number ∷ journal)) read
          (c.sample.ensures.based settings journal is.second.stand is.second.based);
    }

pub returns-clause-result : goal.returns-clause-result
returns-clause-result g c settings journal is later askable =
    let read = ap (option_map (λ reading. reading.value)) (reads g.G.Readable.sampleable (g.G.Readable.shown c.args.group.now.first c.args.moment) settings journal c.args.moment (c.shows.ensures settings journal is.first later askable) is.tied (variable_of journal c.args.index)) in
    subst (λ (number : Option ℤ). c.sample.result ≡ sampled settings journal c.args.moment c.args.index number) read
    (c.sample.ensures.result settings journal is.second.stand is.second.based)
