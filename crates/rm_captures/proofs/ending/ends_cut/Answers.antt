use Rattle.std.proofs.Common.{◌≡◌, ◌∙◌, Ok, ap, refl}
use Rattle.rm_pcap.specs.View.{progress_of}
use Rattle.rm_pcap.specs.Calls.{Steps}
use Rattle.rm_pcap.specs.declared.frame.Step.TheVariants.{Next, End, Cut}
use Rattle.rm_captures.proofs.EndingLemmas.{step_ends}
use Rattle.rm_captures.proofs.NextLemmas.{fails_by_read, of_records}
use Rattle.rm_captures.proofs.ending.ends_cut.Goals as goal

pub returns-in-Ok-Cut-clause-ends : goal.returns-in-Ok-Cut-clause-ends
returns-in-Ok-Cut-clause-ends g c = λ interface bytes stop is left.
    let steps : Steps (g.F.Shelf.held c.args.shelf.now c.args.name.now) (progress_of c.args.capture.now) (progress_of c.next.follows.lender-at-none) c.next.result = c.next.follows.holds-at-none in
    let step : c.next.result ≡ Ok (Cut c.in-Ok-Cut.field-0-0) = c.in-Ok-Cut.is ∙ ap Ok c.in-Ok-Cut.field-0-is in
    step_ends interface _ (progress_of c.args.capture.now) (progress_of c.next.follows.lender-at-none) bytes stop (Cut c.in-Ok-Cut.field-0-0) _ (λ at e. refl) (λ e. absurd cc) is (rw step at steps) left

pub returns-in-Ok-End-clause-ends : goal.returns-in-Ok-End-clause-ends
returns-in-Ok-End-clause-ends g c = λ interface bytes stop is left.
    let steps : Steps (g.F.Shelf.held c.args.shelf.now c.args.name.now) (progress_of c.args.capture.now) (progress_of c.next.follows.lender-at-none) c.next.result = c.next.follows.holds-at-none in
    let step : c.next.result ≡ Ok End = c.in-Ok-End.is ∙ ap Ok c.in-Ok-End.field-0-is in
    step_ends interface _ (progress_of c.args.capture.now) (progress_of c.next.follows.lender-at-none) bytes stop End _ (λ at e. absurd cc) (λ e. refl) is (rw step at steps) left

pub returns-in-Ok-Next-clause-ends : goal.returns-in-Ok-Next-clause-ends
returns-in-Ok-Next-clause-ends g c = λ interface bytes stop is left.
    let steps : Steps (g.F.Shelf.held c.args.shelf.now c.args.name.now) (progress_of c.args.capture.now) (progress_of c.next.follows.lender-at-none) c.next.result = c.next.follows.holds-at-none in
    let step : c.next.result ≡ Ok (Next c.in-Ok-Next.field-0-0) = c.in-Ok-Next.is ∙ ap Ok c.in-Ok-Next.field-0-is in
    step_ends interface _ (progress_of c.args.capture.now) (progress_of c.next.follows.lender-at-none) bytes stop (Next c.in-Ok-Next.field-0-0) _ (λ at e. absurd cc) (λ e. absurd cc) is (rw step at steps) left

pub returns-in-Err-clause-ends : goal.returns-in-Err-clause-ends
returns-in-Err-clause-ends g c = λ interface bytes stop is left. fails_by_read interface _ (progress_of c.args.capture.now) bytes _ stop c.in-Err.fault is c.in-Err.ensures.faults left

pub returns-in-Err-clause-kinds : goal.returns-in-Err-clause-kinds
returns-in-Err-clause-kinds g c = of_records _ (progress_of c.args.capture.now) c.in-Err.fault c.in-Err.ensures.faults
