use Rattle.std.proofs.Common.{◌≡◌, ◌-◌, ◌++◌, ◌∷◌, [], ℕ, List, length, arith, ◌∙◌, ap, refl, sym, subst, inl, inr, Err, append_assoc, length-append}
use Rattle.rm_edge.specs.Outside.{Held}
use Rattle.rm_captures.specs.Left.{passed_of}
use Rattle.rm_captures.specs.Reading.{texts}
use Rattle.rm_captures.proofs.NameLemmas.{rose_still}
use Rattle.rm_captures.proofs.RoundLemmas.{held_still}
use Rattle.rm_requests.specs.Lines.{TimedDatagram}
use Rattle.rm_requests.specs.Reading.{Answers, Reached, Passes, reached_of, datagram_in}
use Rattle.rm_settings.specs.declared.settings.Settings.{Settings}
use Rattle.rm_probe.specs.Probe.{settings_of}
use Rattle.rm_probe.specs.Steps.{HasBegun, IsLastSaid, IsNextSaid, IsNotRequests, SaysNext}
use Rattle.rm_probe.proofs.SayingLemmas.{says_both, says_nothing}
use Rattle.rm_probe.proofs.FrameLemmas.{keeps_begun}
use Rattle.rm_probe.proofs.Going.{SaysThrough}
use Rattle.rm_probe.proofs.InOrderLemmas.{run_says}
use Rattle.rm_probe.proofs.JudgeLemmas.{HasTaken, remains, taken_all, taken_more, taken_none}
use Rattle.rm_probe.proofs.RunLemmas.{run_begin, next_said, answer_stops, capture_finds, last_loud, last_said, quiet_foreign, read_failed, requests_find, requests_loud, requests_open, requests_stop, says_faultless, last_finds}
use Rattle.rm_edge.proofs.Keeping.{quiet_then}
use Rattle.rm_requests.specs.declared.fault.RequestsFault.TheVariants.{Read as ReadFailed}
use Rattle.rm_requests.proofs.EachLineLemmas.{one_list}
use Rattle.rm_probe.specs.Requests.{status_by}
use Rattle.rm_probe.specs.declared.status.Status.TheVariants.{ReadFault}
use Rattle.rm_probe.proofs.replaying.Replaying.write_lines.Goals as goal

pub loop-asked-init : goal.loop-asked-init
loop-asked-init g c =
    let reached = c.requires.reached in
    let settings = settings_of c.args.self.now.probe in (
      [],
      record {
        same = λ each. refl;
        quiet = λ each. refl;
        taken = [];
        number = omega (arith, ap (λ (p : Reached). p.number) reached);
        few = omega (arith, ap (λ (p : Reached). p.number) reached);
        settings_same = refl;
        given = omega (arith, c.requires.first.last);
        in_range = omega (arith, ap (λ (p : Reached). p.last) reached);
        keeps = keeps_begun _ c.args.self.now.probe c.args.self.now.captures.items c.requires.first.last c.requires.begun;
        file = λ lines is. subst (λ (p : Reached). HasTaken [] p lines) (sym reached) (taken_none lines);
        run = λ files frames stop are left. run_begin settings files frames stop c.args.self.now.captures.items c.args.self.now.probe left c.requires.none c.requires.first.stands;
      },
      says_nothing g.O.Notes.since c.args.out.now,
      c.requires.output,
    )

pub loop-asked-preserved : goal.loop-asked-preserved
loop-asked-preserved g c =
    let (said, i, says, well) = c.loop-asked.invariant in
    let (next, more, goes, response, answered) = c.in-Ok.ensures.says in
    let takes = rw c.in-Ok-Some.field-0-is at c.in-Ok-Some.ensures.answers in
    let old = reached_of c.loop-asked.reader in
    let new = reached_of c.next.new.self in
    let request : TimedDatagram = record { moment = c.in-Ok-Some.asked.moment; datagram = c.datagram.result.now } in (
      said ++ next,
      record {
        same = λ each. c.in-Ok.ensures.shelf.constant each ∙ (c.in-Ok-Some.ensures.shelf.constant each ∙ i.same each);
        quiet = λ each. c.in-Ok.ensures.shelf.quiet (λ e. cc) each ∙ (c.in-Ok-Some.ensures.shelf.quiet (λ e. cc) each ∙ i.quiet each);
        taken = i.taken ++ request ∷ [];
        number = omega (arith, takes.next, i.number, length-append i.taken (request ∷ []));
        few = omega (arith, takes.next, takes.few);
        settings_same = c.in-Ok.ensures.settings ∙ i.settings_same;
        given = omega (arith, c.in-Ok.ensures.last, takes.moment);
        in_range = omega (arith, takes.moment, takes.range);
        keeps = c.in-Ok.ensures.keeps;
        file = λ lines is.
            let has = i.file lines is in
            taken_more i.taken request old new lines has
            (subst (λ (d : List ℕ). let r : TimedDatagram = record { moment = c.in-Ok-Some.asked.moment; datagram = d } in Passes old new r lines) (sym c.datagram.ensures) (takes.passes lines (i.same c.args.requests.now ∙ is) has.agrees)) takes.next takes.order takes.moment;
        run = λ files frames stop are left.
            let r = i.run files frames stop are left in
            let one = goes files r.left stop r.journal (held_still _ _ _ files c.in-Ok-Some.ensures.shelf.constant (held_still _ _ _ files i.same are)) r.records_left r.stands in
            next_said (settings_of c.args.self.now.probe) files frames stop i.taken c.loop-asked.self.captures.items c.handle_to.new.self.captures.items c.loop-asked.self.probe c.handle_to.new.self.probe
            said next c.in-Ok-Some.asked.number request r (takes.number ∙ i.number) (rw i.settings_same at one);
      },
      says_both g.O.Notes.since c.args.out.now c.loop-asked.out c.handle_to.new.out _ _ says more,
      c.in-Ok.ensures.failed,
    )

pub returns-in-Err-handle_to-clause-says : goal.returns-in-Err-handle_to-clause-says
returns-in-Err-handle_to-clause-says g c =
    let (said, i, says, well) = c.loop-asked.invariant in
    let (next, more, goes, response, answered) = c.in-Err-handle_to.ensures.says in
    let takes = rw c.in-Ok-Some.field-0-is at c.in-Ok-Some.ensures.answers in
    let old = reached_of c.loop-asked.reader in
    let new = reached_of c.next.new.self in
    let settings = settings_of c.args.self.now.probe in
    let request : TimedDatagram = record { moment = c.in-Ok-Some.asked.moment; datagram = c.datagram.result.now } in (
      said ++ next,
      says_both g.O.Notes.since c.args.out.now c.loop-asked.out c.handle_to.new.out _ _ says more c.args.out.now [] (g.met.O.Notes.none c.args.out.now),
      λ files lines frames stop asked are isr left requests.
          let r = i.run files frames stop are left in
          let has = i.file lines isr in
          let later = taken_more i.taken request old new lines has
          (subst (λ (d : List ℕ). let r : TimedDatagram = record { moment = c.in-Ok-Some.asked.moment; datagram = d } in Passes old new r lines) (sym c.datagram.ensures) (takes.passes lines (i.same c.args.requests.now ∙ isr) has.agrees)) takes.next takes.order takes.moment in
          let rest = remains (i.taken ++ request ∷ []) asked new lines later requests in
          let step = goes files r.left stop r.journal (held_still _ _ _ files c.in-Ok-Some.ensures.shelf.constant (held_still _ _ _ files i.same are)) r.records_left r.stands in
          run_says {T = Unit {0}} settings c.args.self.now.captures.items files frames stop lines asked (said ++ next) (Err c.in-Err-handle_to.status) left requests
          (subst (λ (rs : List TimedDatagram). SaysThrough {T = Unit {0}} settings frames stop rs (said ++ next) (Err c.in-Err-handle_to.status)) (sym (rest.all ∙ append_assoc i.taken (request ∷ []) rest.more))
          (answer_stops settings c.something_said.ensures files frames stop i.taken rest.more c.loop-asked.self.captures.items c.handle_to.new.self.captures.items c.loop-asked.self.probe c.handle_to.new.self.probe
          said next c.in-Ok-Some.asked.number request r (takes.number ∙ i.number) c.in-Err-handle_to.status
          (subst (λ (s : Settings). SaysNext {T = Unit {0}} (IsNextSaid files c.loop-asked.self.captures.items c.handle_to.new.self.captures.items s c.handle_to.new.self.probe c.in-Ok-Some.asked.number request r.left stop r.journal) (HasBegun s request.moment r.left r.journal)
          next (Err c.in-Err-handle_to.status)) i.settings_same step))),
    )

pub returns-in-Err-handle_to-clause-finds : goal.returns-in-Err-handle_to-clause-finds
returns-in-Err-handle_to-clause-finds g c =
    let (said, i, says, well) = c.loop-asked.invariant in
    let (next, more, goes, response, answered) = c.in-Err-handle_to.ensures.says in
    capture_finds (g.F.Shelf.held c.args.shelf.now) (texts c.args.names.now) c.args.self.now.captures.items (IsNotRequests (g.F.Shelf.held c.args.shelf.now c.args.requests.now)) c.in-Err-handle_to.status c.in-Err-handle_to.ensures.loud
    (λ files frames stop are left.
    let r = i.run files frames stop are left in
    says_faultless {T = Unit {0}} (IsNextSaid files c.loop-asked.self.captures.items c.handle_to.new.self.captures.items (settings_of c.loop-asked.self.probe) c.handle_to.new.self.probe c.in-Ok-Some.asked.number
    (record { moment = c.in-Ok-Some.asked.moment; datagram = c.datagram.result.now }) r.left stop r.journal) (HasBegun (settings_of c.loop-asked.self.probe) c.in-Ok-Some.asked.moment r.left r.journal) next (Err c.in-Err-handle_to.status)
    (goes files r.left stop r.journal (held_still _ _ _ files c.in-Ok-Some.ensures.shelf.constant (held_still _ _ _ files i.same are)) r.records_left r.stands))

pub returns-in-Err-handle_to-clause-loud : goal.returns-in-Err-handle_to-clause-loud
returns-in-Err-handle_to-clause-loud g c = λ quiet. c.in-Err-handle_to.ensures.loud (quiet_foreign c.in-Err-handle_to.status quiet)

pub returns-in-Ok-None-clause-says : goal.returns-in-Ok-None-clause-says
returns-in-Ok-None-clause-says g c =
    let (said, i, says, well) = c.loop-asked.invariant in
    let (last, more, goes) = c.write_last.ensures.says in
    let (stays, gone) = rw c.in-Ok-None.field-0-is at c.in-Ok-None.ensures.answers in
    let settings = settings_of c.args.self.now.probe in (
      said ++ last,
      says_both g.O.Notes.since c.args.out.now c.loop-asked.out c.write_last.new.out _ _ says more c.args.out.now [] (g.met.O.Notes.none c.args.out.now),
      λ files lines frames stop asked are isr left requests.
          let r = i.run files frames stop are left in
          let has = i.file lines isr in
          let taken = taken_all i.taken (reached_of c.loop-asked.reader) lines has (gone lines (i.same c.args.requests.now ∙ isr) has.agrees) i.few in
          let all : asked ≡ i.taken = one_list lines asked i.taken requests.are taken.are in
          let count : (reached_of c.next.new.self).number - 1 ≡ length i.taken = omega (arith, stays.number, i.number) in
          let step = goes files r.left stop r.journal (held_still _ _ _ files c.in-Ok-None.ensures.shelf.constant (held_still _ _ _ files i.same are)) r.records_left r.stands in
          run_says settings c.args.self.now.captures.items files frames stop lines asked (said ++ last) c.write_last.result left requests
          (subst (λ (rs : List TimedDatagram). SaysThrough settings frames stop rs (said ++ last) c.write_last.result) (sym all)
          (last_said settings c.something_said.ensures files frames stop i.taken c.loop-asked.self.captures.items c.loop-asked.self.probe said last r c.write_last.result
          (subst (λ (n : ℕ). SaysNext (IsLastSaid settings (passed_of c.loop-asked.self.captures.items) n r.left stop r.journal) (HasBegun settings 4294967295 r.left r.journal) last c.write_last.result) count
          (subst (λ (s : Settings). SaysNext (IsLastSaid s (passed_of c.loop-asked.self.captures.items) ((reached_of c.next.new.self).number - 1) r.left stop r.journal) (HasBegun s 4294967295 r.left r.journal) last c.write_last.result) i.settings_same step)))),
    )

pub returns-in-Ok-None-clause-finds : goal.returns-in-Ok-None-clause-finds
returns-in-Ok-None-clause-finds g c =
    let (said, i, says, well) = c.loop-asked.invariant in
    let (last, more, goes) = c.write_last.ensures.says in
    last_finds (g.F.Shelf.held c.args.shelf.now) (texts c.args.names.now) c.args.self.now.captures.items (IsNotRequests (g.F.Shelf.held c.args.shelf.now c.args.requests.now)) c.write_last.result c.write_last.ensures.loud
    (λ files frames stop are left.
    let r = i.run files frames stop are left in
    says_faultless (IsLastSaid (settings_of c.loop-asked.self.probe) (passed_of c.loop-asked.self.captures.items) ((reached_of c.next.new.self).number - 1) r.left stop r.journal) (HasBegun (settings_of c.loop-asked.self.probe) 4294967295 r.left r.journal) last c.write_last.result
    (goes files r.left stop r.journal (held_still _ _ _ files c.in-Ok-None.ensures.shelf.constant (held_still _ _ _ files i.same are)) r.records_left r.stands))

pub returns-in-Ok-None-clause-loud : goal.returns-in-Ok-None-clause-loud
returns-in-Ok-None-clause-loud g c = last_loud c.write_last.result c.write_last.ensures.loud

pub returns-in-Err-clause-failed : goal.returns-in-Err-clause-failed
returns-in-Err-clause-failed g c = rw c.of_requests.ensures (requests_open (g.O.Outlet.failed c.loop-asked.out) c.in-Err.fault)

pub returns-in-Err-clause-says : goal.returns-in-Err-clause-says
returns-in-Err-clause-says g c =
    let (said, i, says, well) = c.loop-asked.invariant in (
      said,
      says c.args.out.now [] (g.met.O.Notes.none c.args.out.now),
      λ files lines frames stop asked are isr left requests.
          let r = i.run files frames stop are left in
          rw c.of_requests.ensures (run_says {T = Unit {0}} (settings_of c.args.self.now.probe) c.args.self.now.captures.items files frames stop lines asked said (Err (status_by c.in-Err.fault)) left requests
          (requests_stop (settings_of c.args.self.now.probe) c.something_said.ensures files frames stop i.taken asked c.loop-asked.self.captures.items c.loop-asked.self.probe said
          (g.F.Shelf.held c.loop-asked.shelf c.args.requests.now) (reached_of c.loop-asked.reader) (reached_of c.next.new.self) (datagram_in c.next.new.self) lines c.in-Err.fault r (i.same c.args.requests.now ∙ isr) (i.file lines isr) requests c.in-Err.ensures.answers)),
    )

pub returns-in-Err-clause-finds : goal.returns-in-Err-clause-finds
returns-in-Err-clause-finds g c =
    let i = c.loop-asked.invariant.1 in
    rw c.of_requests.ensures (requests_find _ (g.F.Shelf.held c.args.shelf.now c.args.requests.now) (reached_of c.loop-asked.reader) (reached_of c.next.new.self) (datagram_in c.next.new.self)
    i.taken c.in-Err.fault (subst (λ (h : Held). Answers h (reached_of c.loop-asked.reader) (reached_of c.next.new.self) (datagram_in c.next.new.self) (Err c.in-Err.fault)) (i.same c.args.requests.now) c.in-Err.ensures.answers) i.file)

pub returns-in-Err-clause-loud : goal.returns-in-Err-clause-loud
returns-in-Err-clause-loud g c = rw c.of_requests.ensures (requests_loud c.in-Err.fault)

pub returns-in-Err-clause-reads : goal.returns-in-Err-clause-reads
returns-in-Err-clause-reads g c = λ is.
    let i = c.loop-asked.invariant.1 in
    let status : status_by c.in-Err.fault ≡ ReadFault = let e : ◌≡◌ (Err (status_by c.in-Err.fault)) (Err ReadFault) = rw c.of_requests.ensures at is in cc in
    let rose = c.next.ensures.cause (c.in-Err.is ∙ ap Err (read_failed c.in-Err.fault status)) in
    inr (omega (arith, rose, i.quiet c.args.requests.now))

pub returns-in-Err-handle_to-clause-shelf : goal.returns-in-Err-handle_to-clause-shelf
returns-in-Err-handle_to-clause-shelf g c =
    let i = c.loop-asked.invariant.1 in
    let next = c.in-Ok-Some.ensures.shelf in
    let quiet = next.quiet (λ e. cc) in
    quiet_then g.F.Shelf.held g.F.Shelf.faults c.args.shelf.now c.next.new.shelf c.handle_to.new.shelf _ _ _ _ (λ each. next.constant each ∙ i.same each) (λ each. quiet each ∙ i.quiet each) c.in-Err-handle_to.ensures.shelf (λ each is. inl is) (λ e. e)

pub returns-in-Ok-None-clause-shelf : goal.returns-in-Ok-None-clause-shelf
returns-in-Ok-None-clause-shelf g c =
    let i = c.loop-asked.invariant.1 in
    let next = c.in-Ok-None.ensures.shelf in
    let quiet = next.quiet (λ e. cc) in
    quiet_then g.F.Shelf.held g.F.Shelf.faults c.args.shelf.now c.next.new.shelf c.write_last.new.shelf _ _ _ _ (λ each. next.constant each ∙ i.same each) (λ each. quiet each ∙ i.quiet each) c.write_last.ensures.shelf (λ each is. inl is) (λ e. e)

pub returns-in-Err-clause-shelf : goal.returns-in-Err-clause-shelf
returns-in-Err-clause-shelf g c =
    let i = c.loop-asked.invariant.1 in
    quiet_then g.F.Shelf.held g.F.Shelf.faults c.args.shelf.now c.loop-asked.shelf c.next.new.shelf _ _ _ _ i.same i.quiet c.in-Err.ensures.shelf (λ each is. inr is)
    (λ e. let same : c.in-Err.fault ≡ ReadFailed = cc in ap Err (c.of_requests.ensures ∙ ap status_by same))

pub returns-in-Ok-None-clause-reads : goal.returns-in-Ok-None-clause-reads
returns-in-Ok-None-clause-reads g c = λ is.
    let i = c.loop-asked.invariant.1 in
    let quiet = c.in-Ok-None.ensures.shelf.quiet (λ e. cc) in
    inl (rose_still _ (g.F.Shelf.faults c.next.new.shelf) _ (texts c.args.names.now) (λ each. quiet each ∙ i.quiet each) (c.write_last.ensures.reads is))

pub returns-in-Err-handle_to-clause-reads : goal.returns-in-Err-handle_to-clause-reads
returns-in-Err-handle_to-clause-reads g c = λ is.
    let i = c.loop-asked.invariant.1 in
    let quiet = c.in-Ok-Some.ensures.shelf.quiet (λ e. cc) in
    inl (rose_still _ (g.F.Shelf.faults c.next.new.shelf) _ (texts c.args.names.now) (λ each. quiet each ∙ i.quiet each) (c.in-Err-handle_to.ensures.reads is))
