use Rattle.std.proofs.Common.{List, map, sym, subst}
use Rattle.rm_pcap.specs.declared.capture.Capture.{Capture}
use Rattle.rm_captures.specs.Reading.{texts, AreReady}
use Rattle.rm_captures.specs.declared.fault.CaptureFault.{CaptureFault}
use Rattle.rm_captures.proofs.NameLemmas.{err_more, rose_still}
use Rattle.rm_captures.proofs.RoundLemmas.{held_still, both_rounds}
use Rattle.rm_captures.proofs.ToldLemmas.{told_good, told_later, told_early}
use Rattle.rm_captures.proofs.judging.judge.Goals as goal

pub returns-in-Ok-clause-cause : goal.returns-in-Ok-clause-cause
returns-in-Ok-clause-cause g c =
    err_more c.read_each.result _ _
    (λ (found : CaptureFault) rises read. rose_still _ (g.F.Shelf.faults c.begin.new.shelf) _ _ (c.in-Ok.ensures.shelf.quiet (λ e. let failed = e.1 in cc)) (rises read)) c.read_each.ensures.cause

pub returns-in-Ok-clause-judged : goal.returns-in-Ok-clause-judged
returns-in-Ok-clause-judged g c = λ files are.
    let (base, first, ready) = c.in-Ok.ensures.ready files are in
    both_rounds base c.args.lead files c.read_each.result first
    (c.read_each.ensures.round base c.args.lead files (held_still _ _ _ files c.begin.ensures.shelf.constant are)
    (subst (λ (cs : List Capture). AreReady base c.args.lead 1 files cs) (sym c.as_mut_slice.ensures.value) ready))

pub returns-in-Ok-clause-good : goal.returns-in-Ok-clause-good
returns-in-Ok-clause-good g c =
    told_good c.args.lead (g.F.Shelf.held c.args.shelf.now) (texts c.args.names.now) c.read_each.result c.in-Ok.ensures.present λ files are.
    let (base, first, ready) = c.in-Ok.ensures.ready files are in
    both_rounds base c.args.lead files c.read_each.result first
    (c.read_each.ensures.round base c.args.lead files (held_still _ _ _ files c.begin.ensures.shelf.constant are)
    (subst (λ (cs : List Capture). AreReady base c.args.lead 1 files cs) (sym c.as_mut_slice.ensures.value) ready))

pub returns-in-Ok-clause-faults : goal.returns-in-Ok-clause-faults
returns-in-Ok-clause-faults g c =
    told_later c.args.lead (g.F.Shelf.held c.args.shelf.now) (texts c.args.names.now) c.read_each.result c.in-Ok.ensures.present λ files are.
    let (base, first, ready) = c.in-Ok.ensures.ready files are in (
      base,
      first,
      c.read_each.ensures.round base c.args.lead files (held_still _ _ _ files c.begin.ensures.shelf.constant are)
          (subst (λ (cs : List Capture). AreReady base c.args.lead 1 files cs) (sym c.as_mut_slice.ensures.value) ready),
    )

pub returns-in-Err-clause-faults : goal.returns-in-Err-clause-faults
returns-in-Err-clause-faults g c = told_early c.args.lead (map (g.F.Shelf.held c.args.shelf.now) (texts c.args.names.now)) c.in-Err.found c.in-Err.ensures.early
