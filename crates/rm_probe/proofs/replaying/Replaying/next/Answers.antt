use Rattle.std.proofs.Common.{◌≡◌, ◌∙◌, List, Err, ap, subst, sym, rules, arith}
use Rattle.rm_edge.proofs.Keeping.{keeps_more}
use Rattle.rm_pcap.specs.declared.capture.Capture.{Capture}
use Rattle.rm_captures.specs.Left.{AreLeft, LooksAll}
use Rattle.rm_captures.specs.Reading.{texts}
use Rattle.rm_probe.specs.Capture.{status_of}
use Rattle.rm_probe.specs.declared.status.Status.TheVariants.{ReadFault}
use Rattle.rm_probe.proofs.EndLemmas.{found_read, of_records, read_by, unread}
use Rattle.rm_probe.proofs.FrameLemmas.{whole_slice}
use Rattle.rm_probe.proofs.replaying.Replaying.next.Goals as goal

pub next_of-requires : goal.next_of-requires
next_of-requires g c = record { low = omega (arith, c.requires.few) }

pub returns-in-Ok-clause-looks : goal.returns-in-Ok-clause-looks
returns-in-Ok-clause-looks g c =
    subst (λ (cs : List Capture). LooksAll (g.F.Shelf.held c.args.shelf.now) 1 (texts c.args.names.now) c.args.self.now.captures.items cs c.in-Ok.next)
    (sym (whole_slice _ c.next_of.new.captures _ (search rules)))
    (subst (λ (cs : List Capture). LooksAll (g.F.Shelf.held c.args.shelf.now) 1 (texts c.args.names.now) cs c.next_of.new.captures c.in-Ok.next) c.as_mut_slice.ensures.value c.in-Ok.ensures.looks)

pub returns-in-Ok-clause-finds : goal.returns-in-Ok-clause-finds
returns-in-Ok-clause-finds g c = λ files frames stop are left.
    let (finds, still) = c.next_of.ensures.next files frames stop are (subst (λ (cs : List Capture). AreLeft 1 cs files frames stop) (sym c.as_mut_slice.ensures.value) left) in (
      (rw c.in-Ok.is at finds),
      subst (λ (cs : List Capture). AreLeft 1 cs files frames stop)
          (sym (whole_slice _ c.next_of.new.captures _ (search rules))) still,
    )

pub returns-in-Err-clause-finds : goal.returns-in-Err-clause-finds
returns-in-Err-clause-finds g c = λ files frames stop are left.
    let (finds, still) = c.next_of.ensures.next files frames stop are (subst (λ (cs : List Capture). AreLeft 1 cs files frames stop) (sym c.as_mut_slice.ensures.value) left) in (
      c.from.ensures ∙ found_read c.in-Err.found (rw c.in-Err.is at finds),
      subst (λ (cs : List Capture). AreLeft 1 cs files frames stop)
          (sym (whole_slice _ c.next_of.new.captures _ (search rules))) still,
    )

pub returns-in-Err-clause-kinds : goal.returns-in-Err-clause-kinds
returns-in-Err-clause-kinds g c = rw c.from.ensures (of_records c.in-Err.found.interface c.in-Err.found.fault c.in-Err.ensures.kinds)

pub returns-in-Err-clause-reads : goal.returns-in-Err-clause-reads
returns-in-Err-clause-reads g c = λ e.
    let status : status_of c.in-Err.found ≡ ReadFault = let is = rw c.from.ensures at e in cc in
    c.in-Err.ensures.cause (read_by c.in-Err.found.interface c.in-Err.found.fault status)

pub returns-in-Err-clause-shelf : goal.returns-in-Err-clause-shelf
returns-in-Err-clause-shelf g c =
    keeps_more g.F.Shelf.held g.F.Shelf.faults c.args.shelf.now c.next_of.new.shelf _ _ _ _ c.in-Err.ensures.shelf (λ each is. is)
    (λ e. let same : c.in-Err.found ≡ unread e.0 = let is = e.1 in cc in ap Err (c.from.ensures ∙ ap status_of same))

pub returns-in-Ok-clause-shelf : goal.returns-in-Ok-clause-shelf
returns-in-Ok-clause-shelf g c =
    keeps_more g.F.Shelf.held g.F.Shelf.faults c.args.shelf.now c.next_of.new.shelf _ _ _ _ c.in-Ok.ensures.shelf (λ each is. is) (λ e. absurd (let is = e.1 in cc))
