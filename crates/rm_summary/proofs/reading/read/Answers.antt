use Rattle.std.proofs.Common.{◌≡◌, Ok, Err, refl, sym, ap, ◌∙◌, arith}
use Rattle.std.proofs.lemmas.Result.{err_from_is_err_and}
use Rattle.rm_edge.specs.Uses.{file_use}
use Rattle.rm_pcap.specs.View.{progress_of}
use Rattle.rm_pcap.specs.Calls.{Steps}
use Rattle.rm_pcap.specs.Progress.{frame_of}
use Rattle.rm_pcap.specs.declared.frame.Step.TheVariants.{End, Cut}
use Rattle.rm_summary.specs.declared.reading.Ending.TheVariants as ending
use Rattle.rm_edge.proofs.Keeping.{keeps_more, quiet_then}
use Rattle.rm_pcap.specs.declared.fault.PcapFault.TheVariants.{Read}
use Rattle.rm_summary.proofs.ReadLemmas.{counting_begins, counting_more, counting_stops, is_passed, one_more, fault_at_first, fault_of_record}
use Rattle.rm_summary.proofs.reading.read.Goals as goal

pub returns-in_err-capture-clause-fault : goal.returns-in_err-capture-clause-fault
returns-in_err-capture-clause-fault g c =
    let p = err_from_is_err_and c.from_residual.result c.from_residual.ensures.1 in
    rw (p.1, p.2) (fault_at_first c.args.lead (file_use g.F.Shelf.held g.F.Shelf.faults c.args.shelf.now c.begin.new.shelf c.args.name.now) c.in_err-capture.field-0.0
    c.in_err-capture.ensures.cause (λ absent. let e = sym c.in_err-capture.was ∙ c.begin.ensures.absent absent in cc) c.in_err-capture.ensures.header)

pub loop-capture-init : goal.loop-capture-init
loop-capture-init g c = record {
  same = c.in_ok-capture.ensures.shelf.constant;
  quiet = c.in_ok-capture.ensures.shelf.quiet (λ e. cc);
  few = c.new-counts.ensures.frames ∙ sym (ap (λ p. p.reach.count) c.in_ok-capture.ensures.begun);
  counting = counting_begins c.args.lead c.args.keep_short (g.F.Shelf.held c.args.shelf.now c.args.name.now) c.in_ok-capture.capture c.begin.result c.new-counts.result c.in_ok-capture.was c.begin.ensures.absent
      c.in_ok-capture.ensures.begun c.in_ok-capture.ensures.header (c.new-counts.ensures.counted c.args.keep_short);
}

pub returns-in_err-capture-clause-shelf : goal.returns-in_err-capture-clause-shelf
returns-in_err-capture-clause-shelf g c =
    let p = err_from_is_err_and c.from_residual.result c.from_residual.ensures.1 in
    rw (p.1, p.2) (keeps_more g.F.Shelf.held g.F.Shelf.faults c.args.shelf.now c.begin.new.shelf _ _ _ _ c.in_err-capture.ensures.shelf (λ each is. is)
    (λ e. let same : c.in_err-capture.field-0.0 ≡ Read = cc in ap Err same))

pub returns-in_err-frame-clause-shelf : goal.returns-in_err-frame-clause-shelf
returns-in_err-frame-clause-shelf g c =
    let i = c.loop-capture.invariant in
    let p = err_from_is_err_and c.from_residual-in_err-frame.result c.from_residual-in_err-frame.ensures.1 in
    rw (p.1, p.2) (quiet_then g.F.Shelf.held g.F.Shelf.faults c.args.shelf.now c.loop-capture.shelf c.next.new.shelf _ _ _ _ i.same i.quiet c.in_err-frame.ensures.shelf (λ each is. is)
    (λ e. let same : c.in_err-frame.field-0.0 ≡ Read = cc in ap Err same))

pub returns-in_err-frame-clause-fault : goal.returns-in_err-frame-clause-fault
returns-in_err-frame-clause-fault g c =
    let i = c.loop-capture.invariant in
    let p = err_from_is_err_and c.from_residual-in_err-frame.result c.from_residual-in_err-frame.ensures.1 in
    rw (p.1, p.2) (fault_of_record c.args.lead c.args.keep_short (file_use g.F.Shelf.held g.F.Shelf.faults c.args.shelf.now c.next.new.shelf c.args.name.now) (progress_of c.loop-capture.capture) c.loop-capture.counts c.in_err-frame.field-0.0
    (λ e. let rose = c.in_err-frame.ensures.cause e in omega (arith, rose, i.quiet c.args.name.now)) (rw (i.same c.args.name.now) at c.in_err-frame.ensures.faults) i.counting)

pub count-requires-clause-room : goal.count-requires-clause-room
count-requires-clause-room g c =
    let passed = is_passed (g.F.Shelf.held c.args.shelf.now c.args.name.now) (g.F.Shelf.held c.loop-capture.shelf c.args.name.now) (progress_of c.loop-capture.capture) (progress_of c.next.follows.lender-at-none) c.next.result c.in-Next.frame (c.loop-capture.invariant.same c.args.name.now) c.next.follows.holds-at-none (c.in_ok-frame.was ∙ ap Ok c.in-Next.is) in
    omega (arith, c.loop-capture.invariant.few, passed.lawful.number, passed.lawful.few)

pub loop-capture-smaller : goal.loop-capture-smaller
loop-capture-smaller g c =
    let passed = is_passed (g.F.Shelf.held c.args.shelf.now c.args.name.now) (g.F.Shelf.held c.loop-capture.shelf c.args.name.now) (progress_of c.loop-capture.capture) (progress_of c.next.follows.lender-at-none) c.next.result c.in-Next.frame (c.loop-capture.invariant.same c.args.name.now) c.next.follows.holds-at-none (c.in_ok-frame.was ∙ ap Ok c.in-Next.is) in
    omega (arith, one_more _ _ _ _ passed, passed.lawful.number, passed.lawful.few)

pub loop-capture-preserved : goal.loop-capture-preserved
loop-capture-preserved g c =
    let i = c.loop-capture.invariant in
    let passed = is_passed (g.F.Shelf.held c.args.shelf.now c.args.name.now) (g.F.Shelf.held c.loop-capture.shelf c.args.name.now) (progress_of c.loop-capture.capture) (progress_of c.next.follows.lender-at-none) c.next.result c.in-Next.frame (c.loop-capture.invariant.same c.args.name.now) c.next.follows.holds-at-none (c.in_ok-frame.was ∙ ap Ok c.in-Next.is) in
    record {
      same = λ each. c.in_ok-frame.ensures.shelf.constant each ∙ i.same each;
      quiet = λ each. c.in_ok-frame.ensures.shelf.quiet (λ e. cc) each ∙ i.quiet each;
      few = omega (arith, i.few, c.count.ensures.frames, one_more _ _ _ _ passed);
      counting = counting_more c.args.lead c.args.keep_short (g.F.Shelf.held c.args.shelf.now c.args.name.now) (progress_of c.loop-capture.capture) (progress_of c.next.follows.lender-at-none) (frame_of c.in-Next.frame) passed.after c.loop-capture.counts c.count.new.self
          passed.passes c.count.ensures.counted i.counting;
    }

pub returns-in-End-clause-counted : goal.returns-in-End-clause-counted
returns-in-End-clause-counted g c =
    let i = c.loop-capture.invariant in
    let steps : Steps (g.F.Shelf.held c.loop-capture.shelf c.args.name.now) (progress_of c.loop-capture.capture) (progress_of c.next.follows.lender-at-none) c.next.result = c.next.follows.holds-at-none in
    let step : c.next.result ≡ Ok End = c.in_ok-frame.was ∙ ap Ok c.in-End.is in
    let (found, passes, shows) = rw step at steps in
    counting_stops c.args.lead c.args.keep_short (g.F.Shelf.held c.args.shelf.now c.args.name.now) (progress_of c.loop-capture.capture) (progress_of c.next.follows.lender-at-none) found End c.loop-capture.counts ending.End
    (rw (i.same c.args.name.now) at passes) shows refl i.counting

pub returns-in-Cut-clause-counted : goal.returns-in-Cut-clause-counted
returns-in-Cut-clause-counted g c =
    let i = c.loop-capture.invariant in
    let steps : Steps (g.F.Shelf.held c.loop-capture.shelf c.args.name.now) (progress_of c.loop-capture.capture) (progress_of c.next.follows.lender-at-none) c.next.result = c.next.follows.holds-at-none in
    let step : c.next.result ≡ Ok (Cut c.in-Cut.field-0) = c.in_ok-frame.was ∙ ap Ok c.in-Cut.is in
    let (found, passes, shows) = rw step at steps in
    counting_stops c.args.lead c.args.keep_short (g.F.Shelf.held c.args.shelf.now c.args.name.now) (progress_of c.loop-capture.capture) (progress_of c.next.follows.lender-at-none) found (Cut c.in-Cut.field-0) c.loop-capture.counts ending.Cut
    (rw (i.same c.args.name.now) at passes) shows refl i.counting
