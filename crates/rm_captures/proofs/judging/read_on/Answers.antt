use Rattle.std.proofs.Common.{◌≡◌, ◌∙◌, Ok, ap}
use Rattle.rm_pcap.specs.View.{progress_of}
use Rattle.rm_pcap.specs.Calls.{Steps}
use Rattle.rm_pcap.specs.declared.frame.Step.TheVariants.{Next, End, Cut}
use Rattle.rm_captures.proofs.RoundLemmas.{reading_more, reading_ends, reading_cut, read_fails}
use Rattle.rm_captures.proofs.judging.read_on.Goals as goal

pub loop-fault-preserved : goal.loop-fault-preserved
loop-fault-preserved g c =
    let i = c.loop-fault.invariant in
    let steps : Steps (g.F.Shelf.held c.loop-fault.shelf c.args.name.now) (progress_of c.loop-fault.capture) (progress_of c.next.follows.lender-at-none) c.next.result = c.next.follows.holds-at-none in
    let step : c.next.result ≡ Ok (Next c.in-Ok-Next.field-0-0) = c.in-Ok-Next.is ∙ ap Ok c.in-Ok-Next.field-0-is in
    let (found, passes, shows) = rw step at steps in
    record {
      same = λ each. c.in-Ok-Next.ensures.shelf.constant each ∙ i.same each;
      quiet = λ each. c.in-Ok-Next.ensures.shelf.quiet (λ e. cc) each ∙ i.quiet each;
      so_far = λ bytes is agrees.
          reading_more (g.F.Shelf.held c.args.shelf.now c.args.name.now) (progress_of c.args.capture.now) (progress_of c.loop-fault.capture) (progress_of c.next.follows.lender-at-none) bytes found c.in-Ok-Next.field-0-0
          is (rw (i.same c.args.name.now) at passes) shows (i.so_far bytes is agrees);
    }

pub returns-in-Ok-End-clause-reads : goal.returns-in-Ok-End-clause-reads
returns-in-Ok-End-clause-reads g c = λ bytes is agrees.
    let i = c.loop-fault.invariant in
    let steps : Steps (g.F.Shelf.held c.loop-fault.shelf c.args.name.now) (progress_of c.loop-fault.capture) (progress_of c.next.follows.lender-at-none) c.next.result = c.next.follows.holds-at-none in
    let step : c.next.result ≡ Ok End = c.in-Ok-End.is ∙ ap Ok c.in-Ok-End.field-0-is in
    let (found, passes, shows) = rw step at steps in
    reading_ends (g.F.Shelf.held c.args.shelf.now c.args.name.now) (progress_of c.args.capture.now) (progress_of c.loop-fault.capture) (progress_of c.next.follows.lender-at-none) bytes found
    is (rw (i.same c.args.name.now) at passes) shows (i.so_far bytes is agrees)

pub returns-in-Ok-Cut-clause-reads : goal.returns-in-Ok-Cut-clause-reads
returns-in-Ok-Cut-clause-reads g c = λ bytes is agrees.
    let i = c.loop-fault.invariant in
    let steps : Steps (g.F.Shelf.held c.loop-fault.shelf c.args.name.now) (progress_of c.loop-fault.capture) (progress_of c.next.follows.lender-at-none) c.next.result = c.next.follows.holds-at-none in
    let step : c.next.result ≡ Ok (Cut c.in-Ok-Cut.field-0-0) = c.in-Ok-Cut.is ∙ ap Ok c.in-Ok-Cut.field-0-is in
    let (found, passes, shows) = rw step at steps in
    reading_cut (g.F.Shelf.held c.args.shelf.now c.args.name.now) (progress_of c.args.capture.now) (progress_of c.loop-fault.capture) (progress_of c.next.follows.lender-at-none) bytes found c.in-Ok-Cut.field-0-0
    is (rw (i.same c.args.name.now) at passes) shows (i.so_far bytes is agrees)

pub returns-in-Err-clause-reads : goal.returns-in-Err-clause-reads
returns-in-Err-clause-reads g c = λ bytes is agrees.
    let i = c.loop-fault.invariant in
    read_fails (g.F.Shelf.held c.args.shelf.now c.args.name.now) (progress_of c.args.capture.now) (progress_of c.loop-fault.capture) bytes c.in-Err.fault
    is (rw (i.same c.args.name.now) at c.in-Err.ensures.faults) (i.so_far bytes is agrees)
