use Rattle.std.proofs.lemmas.Result.{err_from_is_err_and}
use Rattle.std.proofs.Common.{◌≡◌, ◌∙◌, ◌∷◌, [], Err, ap, arith, inr, length, refl, rules, subst, sym, take}
use Rattle.rm_edge.specs.Uses.{clock_use, link_use, sink_use}
use Rattle.rm_captures.specs.Left.{AreLeft}
use Rattle.rm_probe.specs.Probe.{Stands, last_given, settings_of}
use Rattle.rm_probe.specs.Serving.{HaveCome, peers_of}
use Rattle.rm_probe.specs.Steps.{Keeps}
use Rattle.rm_probe.specs.Turns.{HasServed}
use Rattle.rm_probe.specs.declared.status.Status.TheVariants.{LinkFault}
use Rattle.rm_probe.proofs.OutputLemmas.{says_none}
use Rattle.rm_probe.proofs.TurnLemmas.{done_with, moved, none_served, one_served, says_whole, read_of}
use Rattle.rm_probe.proofs.serving.Serving.serve_one.Goals as goal

pub returns-in_err-peer-clause-served : goal.returns-in_err-peer-clause-served
returns-in_err-peer-clause-served g c =
    let p = err_from_is_err_and c.from_residual.result c.from_residual.ensures.1 in
    let (fault, come, last) = c.in_err-peer.ensures.receives in
    let is : c.from_residual.result ≡ Err LinkFault = p.1 ∙ ap Err (p.2 ∙ fault) in (
      [],
      [],
      rw is (none_served c.args.self.now.manager _ c.args.self.now.last _ _ _ come c.in_err-peer.ensures.bound c.in_err-peer.ensures.sent refl refl c.in_err-peer.ensures.later c.in_err-peer.ensures.cause),
      inr ([], refl),
      rw is tt,
      omega arith,
      λ files frames stop journal held left stands. (refl, is),
    )

pub handle_to-requires-clause-later : goal.handle_to-requires-clause-later
handle_to-requires-clause-later g c =
    let same = ap (λ replaying. last_given replaying.probe) c.in_ok-peer.ensures.replaying in
    omega (arith, same, c.in_ok-peer.ensures.rises, c.requires.later)

pub handle_to-requires-clause-keeps : goal.handle_to-requires-clause-keeps
handle_to-requires-clause-keeps g c =
    subst (λ replaying. Keeps (length c.args.names.now) (last_given replaying.probe) replaying.probe replaying.captures.items) (sym c.in_ok-peer.ensures.replaying) c.requires.keeps

pub returns-clause-served : goal.returns-clause-served
returns-clause-served g c =
    let (arrival, come, peer, moment, count, octets) = c.in_ok-peer.ensures.receives in
    let (said, more, goes, response, answered) = c.handle_to.ensures.says in
    let says = more c.posting-output.result [] (refl, says_none _ _ (λ post. (refl, refl, refl, refl, refl)) _ _) in (
      arrival ∷ [],
      said,
      moved (λ (k : g.row.K.Denot) (l : g.row.L.Denot). HasServed c.args.self.now.manager (λ number. peers_of (arrival ∷ [])) c.args.self.now.last (sink_use g.K.Sink.content g.K.Sink.faults c.args.out.now k)
          (link_use g.L.Link.bound g.L.Link.received g.L.Link.sent g.L.Link.faults c.args.link.now l) (clock_use g.T.Clock.told c.args.clock.now c.receive.new.clock) (arrival ∷ []) said c.handle_to.result)
          c.handle_to.new.out.sink.now _ c.handle_to.new.out.post.link.now _ (search rules) (search rules)
          (one_served c.args.self.now.manager c.args.self.now.last (sink_use g.K.Sink.content g.K.Sink.faults c.args.out.now c.handle_to.new.out.sink.now)
          (link_use g.L.Link.bound g.L.Link.received g.L.Link.sent g.L.Link.faults c.args.link.now c.handle_to.new.out.post.link.now) (clock_use g.T.Clock.told c.args.clock.now c.receive.new.clock)
          (g.L.Link.sent c.receive.new.link) (g.L.Link.faults c.receive.new.link) arrival said c.handle_to.result c.handle_to.new.out.failed
          (subst (λ received. HaveCome (g.L.Link.received c.args.link.now) received (g.T.Clock.told c.args.clock.now) (g.T.Clock.told c.receive.new.clock) c.args.self.now.last (arrival ∷ []))
          (sym (says.1.still.4 ∙ ap (λ post. g.L.Link.received post.link.now) c.posting-output.ensures.post)) come)
          (says.1.still.3 ∙ ap (λ post. g.L.Link.bound post.link.now) c.posting-output.ensures.post ∙ c.in_ok-peer.ensures.bound)
          c.in_ok-peer.ensures.sent c.in_ok-peer.ensures.later
          (rw (c.posting-output.ensures.sink, c.posting-output.ensures.post, c.posting-output.ensures.failed, c.in_ok-peer.ensures.manager, ← peer) at says.1.adds)
          (rw (c.posting-output.ensures.sink, c.posting-output.ensures.post, c.in_ok-peer.ensures.manager, ← peer) at (says.1.order c.posting-output.ensures.failed)) c.handle_to.ensures.failed),
      response,
      done_with _ _ c.handle_to.result answered (arrival, refl, moment),
      omega arith,
      λ files frames stop journal are left stands.
          let old = c.in_ok-peer.ensures.replaying in
          let step = goes files frames stop journal are (subst (λ replaying. AreLeft 1 replaying.captures.items files frames stop) (sym old) left) (subst (λ replaying. Stands replaying.probe journal) (sym old) stands) in (
            refl,
            says_whole files c.args.self.now.replaying.captures.items c.handle_to.new.self.captures.items (settings_of c.args.self.now.replaying.probe) c.handle_to.new.self.probe c.args.number arrival.moment
                (take c.in_ok-peer.count c.receive.new.self.datagram.items) arrival.bytes frames stop journal (read_of c.in_ok-peer.count c.receive.new.self.datagram.items arrival.bytes count octets) said c.handle_to.result
                (rw (old, ← moment, c.deref.ensures.value) at step),
          ),
    )
