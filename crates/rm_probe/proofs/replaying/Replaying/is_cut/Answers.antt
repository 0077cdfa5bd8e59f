use Rattle.std.proofs.lemmas.Result.{err_from_is_err_and}
use Rattle.std.proofs.Common.{◌≡◌, ◌∙◌, List, [], Err, ap, subst, sym, arith}
use Rattle.rm_model.specs.Journal.{Frame}
use Rattle.rm_edge.proofs.Keeping.{keeps_more, keeps_then}
use Rattle.rm_pcap.specs.declared.capture.Capture.{Capture}
use Rattle.rm_captures.specs.Left.{AreLeft}
use Rattle.rm_captures.specs.Reading.{texts}
use Rattle.rm_captures.proofs.NameLemmas.{rose_still}
use Rattle.rm_captures.proofs.RoundLemmas.{held_still}
use Rattle.rm_probe.specs.Capture.{status_of}
use Rattle.rm_probe.specs.declared.status.Status.TheVariants.{ReadFault}
use Rattle.rm_probe.proofs.EndLemmas.{found_read, of_records, read_by, unread}
use Rattle.rm_probe.proofs.StepLemmas.{cut_ends, cut_frames, cut_reads, no_next, some_next}
use Rattle.rm_probe.proofs.replaying.Replaying.is_cut.Goals as goal

pub returns-in_err-next-clause-ends : goal.returns-in_err-next-clause-ends
returns-in_err-next-clause-ends g c = λ files frames stop are left.
    let p = err_from_is_err_and c.from_residual.result c.from_residual.ensures.1 in
    rw (p.1, p.2) (c.in_err-next.ensures.finds files frames stop are left).0

pub returns-in_err-next-clause-kinds : goal.returns-in_err-next-clause-kinds
returns-in_err-next-clause-kinds g c =
    let p = err_from_is_err_and c.from_residual.result c.from_residual.ensures.1 in rw (p.1, p.2) c.in_err-next.ensures.kinds

pub returns-then-is_some-clause-ends : goal.returns-then-is_some-clause-ends
returns-then-is_some-clause-ends g c = λ files frames stop are left.
    cut_frames frames stop c.in_ok-next.next (some_next c.in_ok-next.next (sym c.is_some.ensures ∙ c.if-is_some.true)) (c.in_ok-next.ensures.finds files frames stop are left).0

pub returns-in-Ok-clause-ends : goal.returns-in-Ok-clause-ends
returns-in-Ok-clause-ends g c = λ files frames stop are left.
    let (finds, still) = c.in_ok-next.ensures.finds files frames stop are left in
    cut_ends frames stop c.in_ok-next.next (no_next c.in_ok-next.next (sym c.is_some.ensures ∙ c.if-is_some.false)) finds c.in-Ok.cut
    (λ none. rw c.in-Ok.is at (c.is_cut.ensures.ends files stop (held_still _ _ _ files c.in_ok-next.ensures.shelf.constant are)
    (subst (λ (cs : List Capture). AreLeft 1 cs files [] stop) (sym c.as_mut_slice.ensures.value) (subst (λ (fs : List Frame). AreLeft 1 c.next.new.self.captures.items files fs stop) none still))))

pub returns-in-Err-clause-ends : goal.returns-in-Err-clause-ends
returns-in-Err-clause-ends g c = λ files frames stop are left.
    let (finds, still) = c.in_ok-next.ensures.finds files frames stop are left in
    cut_reads frames c.in_ok-next.next (no_next c.in_ok-next.next (sym c.is_some.ensures ∙ c.if-is_some.false)) finds _
    (λ none. c.from.ensures ∙ found_read c.in-Err.found (rw c.in-Err.is at (c.is_cut.ensures.ends files stop (held_still _ _ _ files c.in_ok-next.ensures.shelf.constant are)
    (subst (λ (cs : List Capture). AreLeft 1 cs files [] stop) (sym c.as_mut_slice.ensures.value) (subst (λ (fs : List Frame). AreLeft 1 c.next.new.self.captures.items files fs stop) none still)))))

pub is_cut-requires : goal.is_cut-requires
is_cut-requires g c = record { low = omega (arith, c.requires.few) }

pub returns-in-Err-clause-kinds : goal.returns-in-Err-clause-kinds
returns-in-Err-clause-kinds g c = rw c.from.ensures (of_records c.in-Err.found.interface c.in-Err.found.fault c.in-Err.ensures.kinds)

pub returns-in-Err-clause-reads : goal.returns-in-Err-clause-reads
returns-in-Err-clause-reads g c = λ e.
    let status : status_of c.in-Err.found ≡ ReadFault = let is = rw c.from.ensures at e in cc in
    rose_still _ (g.F.Shelf.faults c.next.new.shelf) _ (texts c.args.names.now) (c.in_ok-next.ensures.shelf.quiet (λ f. cc)) (c.in-Err.ensures.cause (read_by c.in-Err.found.interface c.in-Err.found.fault status))

pub returns-in-Err-clause-shelf : goal.returns-in-Err-clause-shelf
returns-in-Err-clause-shelf g c =
    keeps_then g.F.Shelf.held g.F.Shelf.faults c.args.shelf.now c.next.new.shelf c.is_cut.new.shelf _ _ _ _ _ _ c.in_ok-next.ensures.shelf c.in-Err.ensures.shelf (λ each is. is) (λ each is. is) (λ e. absurd cc)
    (λ e. let same : c.in-Err.found ≡ unread e.0 = let is = e.1 in cc in ap Err (c.from.ensures ∙ ap status_of same))

pub returns-in-Ok-clause-shelf : goal.returns-in-Ok-clause-shelf
returns-in-Ok-clause-shelf g c =
    keeps_then g.F.Shelf.held g.F.Shelf.faults c.args.shelf.now c.next.new.shelf c.is_cut.new.shelf _ _ _ _ _ _ c.in_ok-next.ensures.shelf c.in-Ok.ensures.shelf (λ each is. is) (λ each is. is) (λ e. absurd cc) (λ e. absurd (let is = e.1 in cc))

pub returns-then-is_some-clause-shelf : goal.returns-then-is_some-clause-shelf
returns-then-is_some-clause-shelf g c =
    keeps_more g.F.Shelf.held g.F.Shelf.faults c.args.shelf.now c.next.new.shelf _ _ _ _ c.in_ok-next.ensures.shelf (λ each is. is) (λ e. absurd cc)
