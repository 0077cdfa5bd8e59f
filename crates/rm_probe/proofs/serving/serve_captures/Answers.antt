use Rattle.std.proofs.Common.{◌∙◌, [], ◌∷◌, List, Err, ap, arith, inr, map, refl, subst, sym}
use Rattle.rm_edge.proofs.Keeping.{keeps_then}
use Rattle.rm_edge.specs.Outside.{Adds, Held}
use Rattle.rm_edge.specs.Uses.{file_use, link_use, sink_use}
use Rattle.rm_captures.specs.Reading.{OneRose, texts}
use Rattle.rm_captures.specs.Rounds.{AreCaptureFiles}
use Rattle.rm_captures.specs.Told.{OfFiles}
use Rattle.rm_captures.proofs.NameLemmas.{as_many_texts, rose_still}
use Rattle.rm_captures.proofs.RoundLemmas.{held_still}
use Rattle.rm_probe.specs.Output.{adds_none}
use Rattle.rm_probe.specs.Serving.{HaveCome, local_port}
use Rattle.rm_probe.specs.Steps.{JudgesCaptures, Keeps, ends_by}
use Rattle.rm_probe.specs.declared.serving.Serving.{Serving}
use Rattle.rm_probe.specs.declared.status.Status.TheVariants.{LinkFault}
use Rattle.rm_probe.proofs.ArrivalLemmas.{none_come}
use Rattle.rm_probe.proofs.TurnLemmas.{adds_from}
use Rattle.rm_probe.proofs.OutputLemmas.{adds_same, stays_adds}
use Rattle.rm_probe.proofs.EndLemmas.{another_left, left_still, others_are}
use Rattle.rm_probe.proofs.FileLemmas.{held_are, helds_are, read_faults}
use Rattle.rm_probe.proofs.ServeEnds.{done_all, grows_adds, none_written, port_bound, port_unbound, refused_ends, refused_going, served_ends, serves_exactly}
use Rattle.rm_probe.proofs.serving.serve_captures.Goals as goal

pub returns-in-Err-clause-serves : goal.returns-in-Err-clause-serves
returns-in-Err-clause-serves g c =
    let link = link_use g.L.Link.bound g.L.Link.received g.L.Link.sent g.L.Link.faults c.args.link.now c.args.link.now in
    let names = texts c.args.names.now in
    let Failed = OneRose (g.F.Shelf.faults c.args.shelf.now) (g.F.Shelf.faults c.prepare.new.shelf) names in
    let going = refused_going c.args.lead Serving (map (g.F.Shelf.held c.args.shelf.now) names) Failed c.in-Err.status c.in-Err.ensures.judged in
    record {
      arrivals = [];
      come = none_come (g.L.Link.received c.args.link.now) (g.L.Link.received c.args.link.now) (g.T.Clock.told c.args.clock.now) 0 (adds_none (g.L.Link.received c.args.link.now));
      few = omega arith;
      all = λ e. absurd (going e);
      bound = port_unbound c.args.port [] link c.in-Err.status going (record { unbound = adds_none (g.L.Link.bound c.args.link.now); unasked = refl; unsent = refl });
      ends = refused_ends c.args.lead c.args.settings (local_port c.args.trap_port) (map (file_use g.F.Shelf.held g.F.Shelf.faults c.args.shelf.now c.prepare.new.shelf) (texts c.args.names.now))
          (sink_use g.K.Sink.content g.K.Sink.faults c.args.out.now c.args.out.now) link Serving Failed c.in-Err.status (read_faults g.F.Shelf.held g.F.Shelf.faults c.args.shelf.now c.prepare.new.shelf names)
          (record { idle = record { unwritten = refl; unsent = refl }; binds = record { unbound = adds_none (g.L.Link.bound c.args.link.now); unasked = refl; unsent = refl } })
          (subst (λ (hs : List Held). JudgesCaptures {T = Serving} c.args.lead hs Failed (Err c.in-Err.status)) (sym (helds_are g.F.Shelf.held g.F.Shelf.faults c.args.shelf.now c.prepare.new.shelf names)) c.in-Err.ensures.judged);
    }

pub serve_all-requires : goal.serve_all-requires
serve_all-requires g c =
    let ready = c.in-Ok.ensures.ready in
    record {
      few = c.requires.few;
      room = ready.whole;
      first = ready.fresh;
      begun = subst (λ n. Keeps n 0 c.in-Ok.serving.replaying.probe c.in-Ok.serving.replaying.captures.items) (as_many_texts c.args.names.now) ready.begun;
      unpassed = ready.none;
      none = ready.last_is;
    }

pub returns-in-Ok-bind-clause-serves : goal.returns-in-Ok-bind-clause-serves
returns-in-Ok-bind-clause-serves g c =
    let (arrivals, said, h, few, all, says) = c.serve_all.ensures.served in
    let ready = c.in-Ok.ensures.ready in
    let same = c.in-Ok.ensures.shelf.constant in
    let quiet = c.in-Ok.ensures.shelf.quiet (λ e. cc) in
    let names = texts c.args.names.now in
    let held = g.F.Shelf.held c.args.shelf.now in
    let helds = helds_are g.F.Shelf.held g.F.Shelf.faults c.args.shelf.now c.serve_all.new.shelf names in
    let captures = (map (file_use g.F.Shelf.held g.F.Shelf.faults c.args.shelf.now c.serve_all.new.shelf) (texts c.args.names.now)) in
    let out = sink_use g.K.Sink.content g.K.Sink.faults c.args.out.now c.serve_all.new.out in
    let link = link_use g.L.Link.bound g.L.Link.received g.L.Link.sent g.L.Link.faults c.args.link.now c.serve_all.new.link in
    rw c.ended.ensures (record {
      arrivals = arrivals;
      come = subst (λ received. HaveCome received (g.L.Link.received c.serve_all.new.link) (g.T.Clock.told c.args.clock.now) (g.T.Clock.told c.serve_all.new.clock) 0 arrivals) c.in-Ok-bind.ensures.received h.come;
      few = few;
      all = done_all c.serve_all.result _ all c.serve_all.ensures.loud;
      bound = port_bound c.args.port arrivals link (ends_by c.serve_all.result)
          (subst (λ bound. Adds (g.L.Link.bound c.args.link.now) bound (c.args.port ∷ [])) (sym h.bound) (grows_adds (g.L.Link.bound c.args.link.now) (g.L.Link.bound c.bind.new.self) c.args.port c.in-Ok-bind.ensures.ports));
      ends = served_ends c.args.lead c.args.settings (local_port c.args.trap_port) captures out link arrivals said h.told h.failed c.serve_all.result
          (subst (λ (hs : List Held). OfFiles hs (AreCaptureFiles c.args.lead)) (sym helds) c.in-Ok.ensures.judged)
          (adds_from out link (g.L.Link.sent c.bind.new.self) (g.L.Link.faults c.bind.new.self) _ _ _ c.in-Ok-bind.ensures.sent c.in-Ok-bind.ensures.cause.later (rw ready.manager_is at h.adds)) (rw (ready.manager_is, c.in-Ok-bind.ensures.sent) at h.order) h.at_once h.fails
          (λ files frames stop is whole.
          let are = held_are held names files (sym helds ∙ is) in
          rw ready.set at (says files frames stop (held_still held (g.F.Shelf.held c.prepare.new.shelf) names files same are) (ready.left files frames stop are whole)))
          (others_are c.args.lead held names _ ⊥ (ends_by c.serve_all.result) helds (another_left c.args.lead held names c.in-Ok.serving.replaying.captures.items ⊥ (ends_by c.serve_all.result) ready.left
          (left_still held (g.F.Shelf.held c.prepare.new.shelf) names c.in-Ok.serving.replaying.captures.items ⊥ (ends_by c.serve_all.result) same c.serve_all.ensures.finds)))
          (λ e. read_faults g.F.Shelf.held g.F.Shelf.faults c.args.shelf.now c.serve_all.new.shelf names (rose_still _ (g.F.Shelf.faults c.prepare.new.shelf) _ names quiet (c.serve_all.ensures.reads e))) c.serve_all.ensures.loud;
    })

pub returns-clause-serves : goal.returns-clause-serves
returns-clause-serves g c =
    let names = texts c.args.names.now in
    let captures = (map (file_use g.F.Shelf.held g.F.Shelf.faults c.args.shelf.now c.prepare.new.shelf) (texts c.args.names.now)) in
    let out = sink_use g.K.Sink.content g.K.Sink.faults c.args.out.now c.args.out.now in
    let link = link_use g.L.Link.bound g.L.Link.received g.L.Link.sent g.L.Link.faults c.args.link.now c.bind.new.self in
    record {
      arrivals = [];
      come = none_come (g.L.Link.received c.args.link.now) (g.L.Link.received c.bind.new.self) (g.T.Clock.told c.args.clock.now) 0
          (adds_same (g.L.Link.received c.args.link.now) (g.L.Link.received c.bind.new.self) c.in-Err-bind.ensures.received);
      few = omega arith;
      all = λ e. absurd cc;
      bound = inr (record { unbound = stays_adds (g.L.Link.bound c.args.link.now) (g.L.Link.bound c.bind.new.self) c.in-Err-bind.ensures.ports; unasked = refl; unsent = c.in-Err-bind.ensures.sent });
      ends = (
        c.in-Err-bind.ensures.cause.failed,
        none_written c.args.lead c.args.settings (local_port c.args.trap_port) captures out link
            (subst (λ (hs : List Held). OfFiles hs (AreCaptureFiles c.args.lead)) (sym (helds_are g.F.Shelf.held g.F.Shelf.faults c.args.shelf.now c.prepare.new.shelf names)) c.in-Ok.ensures.judged)
            (record { unwritten = refl; unsent = c.in-Err-bind.ensures.sent }),
      );
    }

pub returns-in-Err-clause-exact : goal.returns-in-Err-clause-exact
returns-in-Err-clause-exact g c =
    let serves = returns-in-Err-clause-serves g c in
    serves_exactly c.args.lead c.args.settings (local_port c.args.trap_port) (map (file_use g.F.Shelf.held g.F.Shelf.faults c.args.shelf.now c.prepare.new.shelf) (texts c.args.names.now))
    (sink_use g.K.Sink.content g.K.Sink.faults c.args.out.now c.args.out.now) (link_use g.L.Link.bound g.L.Link.received g.L.Link.sent g.L.Link.faults c.args.link.now c.args.link.now) c.one_reading.ensures serves.arrivals c.in-Err.status serves.ends

pub returns-in-Ok-bind-clause-exact : goal.returns-in-Ok-bind-clause-exact
returns-in-Ok-bind-clause-exact g c =
    let serves = returns-in-Ok-bind-clause-serves g c in
    serves_exactly c.args.lead c.args.settings (local_port c.args.trap_port) (map (file_use g.F.Shelf.held g.F.Shelf.faults c.args.shelf.now c.serve_all.new.shelf) (texts c.args.names.now))
    (sink_use g.K.Sink.content g.K.Sink.faults c.args.out.now c.serve_all.new.out) (link_use g.L.Link.bound g.L.Link.received g.L.Link.sent g.L.Link.faults c.args.link.now c.serve_all.new.link) c.one_reading.ensures serves.arrivals c.ended.result serves.ends

pub returns-clause-exact : goal.returns-clause-exact
returns-clause-exact g c =
    let serves = returns-clause-serves g c in
    serves_exactly c.args.lead c.args.settings (local_port c.args.trap_port) (map (file_use g.F.Shelf.held g.F.Shelf.faults c.args.shelf.now c.prepare.new.shelf) (texts c.args.names.now))
    (sink_use g.K.Sink.content g.K.Sink.faults c.args.out.now c.args.out.now) (link_use g.L.Link.bound g.L.Link.received g.L.Link.sent g.L.Link.faults c.args.link.now c.bind.new.self) c.one_reading.ensures serves.arrivals LinkFault serves.ends

pub returns-in-Ok-bind-clause-shelf : goal.returns-in-Ok-bind-clause-shelf
returns-in-Ok-bind-clause-shelf g c =
    keeps_then g.F.Shelf.held g.F.Shelf.faults c.args.shelf.now c.prepare.new.shelf c.serve_all.new.shelf _ _ _ _ _ _ c.in-Ok.ensures.shelf c.serve_all.ensures.shelf (λ each is. is) (λ each is. is) (λ failed. absurd (cc))
    (λ failed. c.ended.ensures ∙ ap ends_by failed)
