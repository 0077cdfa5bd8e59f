use Rattle.std.proofs.Common.{[], subst}
use Rattle.rm_settings.specs.declared.settings.Settings.{Settings}
use Rattle.rm_probe.specs.Probe.{settings_of}
use Rattle.rm_load.specs.Steps.{HasAnswered}
use Rattle.rm_load.proofs.AcceptedLemmas.{first_message, second_message, first_taken, second_taken}
use Rattle.rm_load.proofs.SetLemmas.{first_made}
use Rattle.rm_load.proofs.loading.make_rows.Goals as goal

pub returns-clause-stands : goal.returns-clause-stands
returns-clause-stands c =
    let settings = settings_of c.args.probe.now in
    let first =
    first_taken settings c.one_parse.ensures c.one_reply.ensures c.bindings_add_up.ensures c.bindings_are_bounded.ensures.numbers c.reads_back.ensures c.answer.new.probe
    (c.answer.ensures.answered (first_message settings) [] c.requires.first c.requires.fresh.stands) in
    let answered =
    subst (λ (told : Settings). HasAnswered told first_made 200 (second_message settings) c.answer-2.new.probe) c.answer.ensures.settings
    (c.answer-2.ensures.answered (second_message settings) first_made c.requires.second first) in
    second_taken settings c.one_parse.ensures c.one_reply.ensures c.bindings_add_up.ensures c.bindings_are_bounded.ensures.numbers c.reads_back.ensures c.answer-2.new.probe answered
