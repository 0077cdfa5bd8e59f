use Rattle.std.proofs.Common.{◌≡◌, arith, length, refl}
use Rattle.std.proofs.lemmas.List.{with_items_is}
use Rattle.rm_probe.proofs.ArrivalLemmas.{none_comes, one_comes}
use Rattle.rm_probe.proofs.serving.Serving.receive.Goals as goal

pub returns-in-Err-clause-receives : goal.returns-in-Err-clause-receives
returns-in-Err-clause-receives g c = (refl, none_comes (g.L.Link.received c.args.link.now) (g.L.Link.received c.receive.new.self) (g.T.Clock.told c.args.clock.now) c.args.self.now.last _ _ c.in-Err.ensures.datagram, refl)

pub returns-in-Ok-clause-receives : goal.returns-in-Ok-clause-receives
returns-in-Ok-clause-receives g c =
    let whole : length c.receive.new.into ≡ c.args.self.now.datagram.len = omega (arith, c.receive.auto.into, c.deref_mut.ensures.len) in
    let kept = with_items_is c.args.self.now.datagram c.receive.new.into whole in
    rw (c.max-self.ensures, kept) (one_comes _ (g.L.Link.received c.args.link.now) (g.L.Link.received c.receive.new.self) (g.T.Clock.told c.args.clock.now) (g.T.Clock.told c.now.new.self) c.args.self.now.last c.now.result _ _
    (omega (arith, c.receive.auto.into, c.deref_mut.ensures.len, c.requires.room)) (omega (arith, c.in-Ok.ensures.most, c.deref_mut.ensures.len, c.requires.room)) c.in-Ok.ensures.datagram c.now.ensures)
