use Rattle.std.proofs.Common.{◌≡◌, ℕ, List, take, subst}
use Rattle.rm_pdu.specs.Message.{message_octets}
use Rattle.rm_agent.proofs.Written.{written}
use Rattle.rm_probe.specs.Probe.{settings_of}
use Rattle.rm_probe.specs.Said.{response_of}
use Rattle.rm_probe.specs.Text.{IsAnswered}
use Rattle.rm_load.proofs.loading.answer.Goals as goal

pub returns-clause-answered : goal.returns-clause-answered
returns-clause-answered c m journal is stands =
    let (more, noted, goes) = c.datagram.ensures.answered in
    let (ready, after, advanced, answered, stood) = goes journal stands in
    let response = response_of c.datagram.result c.datagram.new.out in
    let octets : take c.finish-length.result c.finish-length.new.out ≡ message_octets m =
    written c.finish-length.result (message_octets m) _ c.finish-length.new.out (c.finish-length.ensures.count m is) (c.finish-length.ensures.written m is) in
    record {
      notes = more;
      ready = ready;
      response = response;
      after = after;
      advanced = advanced;
      answered = subst (λ (bytes : List ℕ). IsAnswered (settings_of c.args.probe.now) ready c.args.moment bytes response after) octets answered;
      stands = stood;
    }
