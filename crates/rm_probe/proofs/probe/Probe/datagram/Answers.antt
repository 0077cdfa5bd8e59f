use Rattle.std.proofs.Common.{subst}
use Rattle.rm_settings.specs.declared.settings.Settings.{Settings}
use Rattle.rm_agent.specs.Agent.{Stands}
use Rattle.rm_agent.specs.Answers.{IsStorageFirst}
use Rattle.rm_probe.specs.Probe.{settings_of}
use Rattle.rm_probe.specs.Said.{response_of}
use Rattle.rm_probe.specs.Text.{IsAnswered}
use Rattle.rm_probe.proofs.AnswerLemmas.{is_answered}
use Rattle.rm_probe.proofs.probe.Probe.datagram.Goals as goal

pub returns-clause-answered : goal.returns-clause-answered
returns-clause-answered g c =
    let (more, noted, advanced) = c.advance.ensures.advanced in
    let (v, judged, why) = c.answer.ensures.reason in (
      more,
      noted,
      λ journal stands.
          let (ready, is, stood) = advanced journal stands in
          let (orderly, none) = c.advance_is_orderly.ensures (settings_of c.args.self.now) c.args.moment journal is.sent ready stands.orderly is.advanced in
          let (after, stays, replied) = c.answer.ensures.reply ready stood in
          let answered = is_answered (settings_of c.advance.new.self) ready c.args.moment c.args.bytes.now v c.answer.result c.answer.new.out after judged why replied in (
            ready,
            after,
            is,
            subst (λ (settings : Settings). IsAnswered settings ready c.args.moment c.args.bytes.now (response_of c.answer.result c.answer.new.out) after) c.advance.ensures.settings answered,
            stays none,
          ),
    )

pub returns-clause-storage : goal.returns-clause-storage
returns-clause-storage g c journal stands =
    let (more, noted, advanced) = c.advance.ensures.advanced in
    let (ready, is, stood) = advanced journal stands in
    let (orderly, none) = c.advance_is_orderly.ensures (settings_of c.args.self.now) c.args.moment journal is.sent ready stands.orderly is.advanced in (
      more,
      ready,
      is,
      subst (λ (settings : Settings). IsStorageFirst settings ready c.args.moment c.args.bytes.now c.answer.result c.answer.new.out (Stands c.answer.new.self)) c.advance.ensures.settings
          (c.answer.ensures.storage ready stood none),
    )
