use Rattle.rm_probe.specs.Said.{response_of}
use Rattle.rm_probe.proofs.SayingLemmas.{says_both}
use Rattle.rm_probe.proofs.replaying.answer.Goals as goal

pub returns-clause-answers : goal.returns-clause-answers
returns-clause-answers g c =
    let (more, noted, answered) = c.datagram-answer.ensures.answered in (
      more,
      response_of c.datagram-answer.result c.datagram-answer.new.out,
      says_both g.O.Notes.since c.args.out.now c.datagram-answer.new.notes c.answer.new.self _ _ noted c.answer.ensures.says,
      λ journal stands.
          let (ready, after, is, said, goes_on) = answered journal stands in
          (ready, after, is, said, goes_on),
    )
