use Rattle.std.proofs.Common.{◌≡◌, ◌∙◌, ◌∷◌, ◌++◌, [], ◌+◌, List, Err, arith, length, length-append, refl, rules, subst}
use Rattle.rm_edge.proofs.Keeping.{quiet_then}
use Rattle.rm_edge.specs.Uses.{clock_use, link_use, sink_use}
use Rattle.rm_captures.specs.Left.{passed_of}
use Rattle.rm_captures.specs.Reading.{texts}
use Rattle.rm_captures.proofs.NameLemmas.{rose_still}
use Rattle.rm_captures.proofs.RoundLemmas.{held_still}
use Rattle.rm_probe.specs.Output.{IsSaidFront}
use Rattle.rm_probe.specs.Probe.{settings_of}
use Rattle.rm_probe.specs.Said.{Said}
use Rattle.rm_probe.specs.Serving.{asking_of}
use Rattle.rm_probe.specs.Steps.{IsLastLine}
use Rattle.rm_probe.specs.Turns.{HasServed}
use Rattle.rm_probe.proofs.FrameLemmas.{keeps_begun}
use Rattle.rm_probe.proofs.InOrderLemmas.{served_says}
use Rattle.rm_probe.proofs.OutputLemmas.{says_none}
use Rattle.rm_probe.proofs.RunLemmas.{capture_finds, last_finds, says_faultless}
use Rattle.rm_probe.proofs.ServingLemmas.{end_served, front_beside, put_beside, run_begins, run_more, served_last, stop_served, turn_finds, turn_stops}
use Rattle.rm_probe.proofs.TurnLemmas.{on_done}
use Rattle.rm_probe.proofs.serving.Serving.serve_all.Goals as goal

pub loop-number-init : goal.loop-number-init
loop-number-init g c = (
  [],
  [],
  run_begins g.F.Shelf.held g.F.Shelf.faults g.K.Sink.content g.K.Sink.faults g.L.Link.bound g.L.Link.received g.L.Link.sent g.L.Link.faults g.T.Clock.told
      (settings_of c.args.self.now.replaying.probe) c.args.self.now.manager (texts c.args.names.now) (length c.args.names.now) c.args.self.now.replaying.captures.items c.args.shelf.now c.args.out.now c.args.link.now c.args.clock.now
      c.args.self.now.replaying.probe c.args.self.now.last refl c.requires.none c.requires.first.last
      (keeps_begun _ c.args.self.now.replaying.probe c.args.self.now.replaying.captures.items c.requires.first.last c.requires.begun) c.requires.unpassed c.requires.first.stands,
  c.requires.room,
  refl,
  omega arith,
)

pub loop-number-preserved : goal.loop-number-preserved
loop-number-preserved g c =
    let (arrivals, said, i, whole, manager, within) = c.loop-number.invariant in
    let (came, next, turn, one, (answered, (arrival, alone, moment)), few, says) = c.in-Ok.ensures.served in (
      arrivals ++ arrival ∷ [],
      said ++ next,
      run_more g.F.Shelf.held g.F.Shelf.faults g.K.Sink.content g.K.Sink.faults g.L.Link.bound g.L.Link.received g.L.Link.sent g.L.Link.faults g.T.Clock.told
          (settings_of c.args.self.now.replaying.probe) c.args.self.now.manager (texts c.args.names.now) (length c.args.names.now) c.args.self.now.replaying.captures.items c.args.shelf.now c.loop-number.shelf c.serve_one.new.shelf
          c.args.out.now c.loop-number.out c.serve_one.new.out c.args.link.now c.loop-number.link c.serve_one.new.link c.args.clock.now c.loop-number.clock c.serve_one.new.clock
          c.loop-number.self.replaying.captures.items c.serve_one.new.self.replaying.captures.items c.loop-number.self.replaying.probe c.serve_one.new.self.replaying.probe c.loop-number.number c.loop-number.self.last arrivals said i
          came arrival next c.serve_one.new.self.last alone moment (rw c.from.ensures at answered) (rw manager at turn) c.in-Ok.ensures.shelf.constant (c.in-Ok.ensures.shelf.quiet (λ e. cc)) c.in-Ok.ensures.settings c.in-Ok.ensures.given c.in-Ok.ensures.keeps
          (λ files frames stop journal are left stands. rw c.from.ensures at (says files frames stop journal are left stands)),
      c.in-Ok.ensures.room,
      c.in-Ok.ensures.manager ∙ manager,
      omega (arith, c.loop-number-test.true),
    )

pub returns-in-Err-clause-served : goal.returns-in-Err-clause-served
returns-in-Err-clause-served g c =
    let (arrivals, said, i, whole, manager, within) = c.loop-number.invariant in
    let (came, next, turn, one, done, few, says) = c.in-Err.ensures.served in
    let ended = stop_served g.F.Shelf.held g.F.Shelf.faults g.K.Sink.content g.K.Sink.faults g.L.Link.bound g.L.Link.received g.L.Link.sent g.L.Link.faults g.T.Clock.told
    (settings_of c.args.self.now.replaying.probe) c.args.self.now.manager (texts c.args.names.now) (length c.args.names.now) c.args.self.now.replaying.captures.items c.args.shelf.now c.loop-number.shelf c.serve_one.new.shelf
    c.args.out.now c.loop-number.out c.serve_one.new.out c.args.link.now c.loop-number.link c.serve_one.new.link c.args.clock.now c.loop-number.clock c.serve_one.new.clock
    c.loop-number.self.replaying.captures.items c.serve_one.new.self.replaying.captures.items c.loop-number.self.replaying.probe c.serve_one.new.self.replaying.probe c.loop-number.number c.loop-number.self.last arrivals said i
    came next (Err c.in-Err.status) few (rw c.from.ensures at one) (rw manager at turn) in (
      arrivals ++ came,
      said ++ next,
      ended,
      omega (arith, c.loop-number-test.true, i.number_is, few, length-append arrivals came),
      tt,
      λ files frames stop are left.
          let r = i.run files frames stop are left in
          let turned = says files r.left stop r.journal (held_still _ _ _ files i.same are) r.records_left r.stands in
          served_says {T = Unit {0}} (settings_of c.args.self.now.replaying.probe) c.args.self.now.replaying.captures.items files frames stop (arrivals ++ came) ended.come.moments (said ++ next) (Err c.in-Err.status) left ended.come.rises
          (turn_stops (settings_of c.args.self.now.replaying.probe) c.something_said.ensures files frames stop arrivals came c.loop-number.self.replaying.captures.items c.serve_one.new.self.replaying.captures.items
          c.loop-number.self.replaying.probe c.serve_one.new.self.replaying.probe said next (c.loop-number.number + 1) r (omega (arith, i.number_is)) c.in-Err.status (rw (c.from.ensures, i.settings_same) at turned)),
    )

pub returns-in-Err-clause-finds : goal.returns-in-Err-clause-finds
returns-in-Err-clause-finds g c =
    let (arrivals, said, i, whole, manager, within) = c.loop-number.invariant in
    let (came, next, turn, one, done, few, says) = c.in-Err.ensures.served in
    capture_finds (g.F.Shelf.held c.args.shelf.now) (texts c.args.names.now) c.args.self.now.replaying.captures.items ⊥ c.in-Err.status c.in-Err.ensures.loud
    (λ files frames stop are left.
    let r = i.run files frames stop are left in
    turn_finds files c.loop-number.self.replaying.captures.items c.serve_one.new.self.replaying.captures.items (settings_of c.loop-number.self.replaying.probe) c.serve_one.new.self.replaying.probe c.from.result
    r.left stop r.journal came next c.in-Err.status (says files r.left stop r.journal (held_still _ _ _ files i.same are) r.records_left r.stands))

pub returns-clause-served : goal.returns-clause-served
returns-clause-served g c =
    let (arrivals, said, i, whole, manager, within) = c.loop-number.invariant in
    let (last, more, line, silent) = c.put_last.ensures.says in
    let says = more c.new-output.result [] (refl, says_none _ _ (λ post. tt) _ _) in
    let all : c.loop-number.number ≡ c.args.count = omega (arith, c.loop-number-test.false, within) in (
      arrivals,
      said ++ last,
      subst (λ (k : g.row.K.Denot). HasServed c.args.self.now.manager (asking_of arrivals) 0 (sink_use g.K.Sink.content g.K.Sink.faults c.args.out.now k)
          (link_use g.L.Link.bound g.L.Link.received g.L.Link.sent g.L.Link.faults c.args.link.now c.loop-number.link) (clock_use g.T.Clock.told c.args.clock.now c.loop-number.clock) arrivals (said ++ last) c.put_last.result) (search rules)
          (end_served g.F.Shelf.held g.F.Shelf.faults g.K.Sink.content g.K.Sink.faults g.L.Link.bound g.L.Link.received g.L.Link.sent g.L.Link.faults g.T.Clock.told
          (settings_of c.args.self.now.replaying.probe) c.args.self.now.manager (texts c.args.names.now) (length c.args.names.now) c.args.self.now.replaying.captures.items c.args.shelf.now c.loop-number.shelf c.loop-number.shelf
          c.args.out.now c.loop-number.out c.put_last.new.out.sink.now c.args.link.now c.loop-number.link c.loop-number.link c.args.clock.now c.loop-number.clock c.loop-number.clock
          c.loop-number.self.replaying.captures.items c.loop-number.self.replaying.captures.items c.loop-number.self.replaying.probe c.loop-number.self.replaying.probe c.loop-number.number c.loop-number.self.last arrivals said i
          last c.put_last.new.out.failed c.put_last.result silent
          (rw c.new-output.ensures.sink at (put_beside _ _ (g.L.Link.sent c.loop-number.link) (g.L.Link.faults c.loop-number.link) last _ says.1.adds c.new-output.ensures.failed refl refl))
          (let (told, front) = says.1.order c.new-output.ensures.failed in
          subst (λ (k : g.row.K.Denot). (told : List Said) × IsSaidFront (c.args.self.now.manager ∷ []) (asking_of arrivals) (g.K.Sink.content k) (g.K.Sink.content c.put_last.new.out.sink.now)
          (g.L.Link.sent c.loop-number.link) (g.L.Link.sent c.loop-number.link) last told) c.new-output.ensures.sink
          (told, front_beside (c.args.self.now.manager ∷ []) _ (asking_of arrivals) _ _ _ _ _ (g.L.Link.sent c.loop-number.link) last told silent front)) c.put_last.ensures.failed),
      omega (arith, all, i.number_is),
      on_done _ c.put_last.result (omega (arith, all, i.number_is)),
      λ files frames stop are left.
          let r = i.run files frames stop are left in
          served_says (settings_of c.args.self.now.replaying.probe) c.args.self.now.replaying.captures.items files frames stop arrivals i.come.moments (said ++ last) c.put_last.result left i.come.rises
          (served_last (settings_of c.args.self.now.replaying.probe) files frames stop arrivals c.loop-number.self.replaying.captures.items c.loop-number.self.replaying.probe said last _ r (omega (arith, c.from-2.ensures, all, i.number_is)) c.put_last.result
          (line files r.left stop (held_still _ _ _ files i.same are) r.records_left)),
    )

pub returns-in-Err-clause-shelf : goal.returns-in-Err-clause-shelf
returns-in-Err-clause-shelf g c =
    let (arrivals, said, i, whole, manager, within) = c.loop-number.invariant in
    quiet_then g.F.Shelf.held g.F.Shelf.faults c.args.shelf.now c.loop-number.shelf c.serve_one.new.shelf _ _ _ _ i.same i.quiet c.in-Err.ensures.shelf (λ each is. is) (λ failed. failed)

pub returns-clause-finds : goal.returns-clause-finds
returns-clause-finds g c =
    let (arrivals, said, i, whole, manager, within) = c.loop-number.invariant in
    let (last, more, line, silent) = c.put_last.ensures.says in
    last_finds (g.F.Shelf.held c.args.shelf.now) (texts c.args.names.now) c.args.self.now.replaying.captures.items ⊥ c.put_last.result c.put_last.ensures.loud
    (λ files frames stop are left.
    let r = i.run files frames stop are left in
    says_faultless {T = Unit {0}} (IsLastLine (passed_of c.loop-number.self.replaying.captures.items) c.from-2.result r.left stop) (λ notes. notes ≡ []) last c.put_last.result (line files r.left stop (held_still _ _ _ files i.same are) r.records_left))

pub returns-clause-shelf : goal.returns-clause-shelf
returns-clause-shelf g c =
    let (arrivals, said, i, whole, manager, within) = c.loop-number.invariant in
    quiet_then g.F.Shelf.held g.F.Shelf.faults c.args.shelf.now c.loop-number.shelf c.put_last.new.shelf _ _ _ _ i.same i.quiet c.put_last.ensures.shelf (λ each is. is) (λ failed. failed)

pub serve_one-requires-clause-keeps : goal.serve_one-requires-clause-keeps
serve_one-requires-clause-keeps g c = let (arrivals, said, i, whole, manager, within) = c.loop-number.invariant in i.keeps

pub put_last-requires : goal.put_last-requires
put_last-requires g c =
    let (arrivals, said, i, whole, manager, within) = c.loop-number.invariant in record { few = c.requires.few; captured = omega (arith, i.keeps.all, c.requires.few) }

pub returns-in-Err-clause-reads : goal.returns-in-Err-clause-reads
returns-in-Err-clause-reads g c = λ is.
    let (arrivals, said, i, whole, manager, within) = c.loop-number.invariant in rose_still _ (g.F.Shelf.faults c.loop-number.shelf) _ (texts c.args.names.now) i.quiet (c.serve_one.ensures.reads (c.in-Err.is ∙ is))

pub returns-clause-reads : goal.returns-clause-reads
returns-clause-reads g c = λ is.
    let (arrivals, said, i, whole, manager, within) = c.loop-number.invariant in rose_still _ (g.F.Shelf.faults c.loop-number.shelf) _ (texts c.args.names.now) i.quiet (c.put_last.ensures.reads is)
