use Rattle.std.proofs.Common.{◌≡◌, ◌+◌, List, None, Err, ap, sym, subst, ◌∙◌}
use Rattle.rm_edge.proofs.Keeping.{keeps_more, keeps_then}
use Rattle.rm_pcap.specs.declared.fault.PcapFault.{PcapFault}
use Rattle.rm_pcap.specs.declared.fault.PcapFault.TheVariants.{Read}
use Rattle.rm_pcap.specs.declared.capture.Capture.{Capture}
use Rattle.rm_captures.specs.Left.{AreLeft}
use Rattle.rm_captures.specs.Reading.{texts}
use Rattle.rm_captures.proofs.NameLemmas.{no_texts, last_name, one_of_first, one_of_rest, rose_first, rose_rest, held_split}
use Rattle.rm_captures.proofs.NextLemmas.{next_none, no_capture, next_more, next_fails, next_fails_behind, of_records}
use Rattle.rm_captures.proofs.ComingLemmas.{looks_none, looks_nowhere, looks_more}
use Rattle.rm_captures.proofs.RoundLemmas.{held_still}
use Rattle.rm_captures.proofs.coming.+coming.Goals as goal

pub next_of-returns-in_default-clause-next : goal.next_of-returns-in_default-clause-next
next_of-returns-in_default-clause-next g t c = λ files frames stop are left.
    (next_none _ (texts c.args.names.now) c.args.interface c.args.captures.now files frames stop (no_texts c.args.names.now c.in_default.ensures.cases) are left, left)

pub next_of-returns-in_default-split_first_mut-clause-next :
    goal.next_of-returns-in_default-split_first_mut-clause-next
next_of-returns-in_default-split_first_mut-clause-next g t c = λ files frames stop are left.
    let all = ap texts c.in-Some.ensures.cases.0 in
    absurd (no_capture _ c.in-Some.name.now.now (texts c.in-Some.names.now) c.args.interface c.args.captures.now files frames stop c.in_default-split_first_mut.ensures.cases (held_split _ _ files _ _ all are) left)

pub next_of-returns-in-Err-clause-shelf : goal.next_of-returns-in-Err-clause-shelf
next_of-returns-in-Err-clause-shelf g t c =
    let all = ap texts c.in-Some.ensures.cases.0 in
    keeps_more g.F.Shelf.held g.F.Shelf.faults c.args.shelf.now c.peek.new.shelf _ _ _ _ c.in-Err.ensures.shelf (λ each is. one_of_first _ _ _ each all is)
    (λ e. let same : c.in-Err.fault ≡ Read = cc in (c.args.interface, ap (λ (fault : PcapFault). Err (record { interface = c.args.interface; fault = fault })) same))

pub next_of-returns-in-Err-clause-cause : goal.next_of-returns-in-Err-clause-cause
next_of-returns-in-Err-clause-cause g t c = λ read. rose_first _ _ _ _ _ (ap texts c.in-Some.ensures.cases.0) (c.in-Err.ensures.cause read)

pub next_of-returns-in-Err-clause-next : goal.next_of-returns-in-Err-clause-next
next_of-returns-in-Err-clause-next g t c = λ files frames stop are left.
    let all = ap texts c.in-Some.ensures.cases.0 in
    next_fails _ c.in-Some.name.now.now (texts c.in-Some.names.now) c.args.interface c.in-Some-split_first_mut.capture.now c.peek.new.self c.in-Some-split_first_mut.captures.now files frames stop c.in-Err.fault
    (held_split _ _ files _ _ all are) c.in-Err.ensures.faults c.in-Err.ensures.same
    (subst (λ (cs : List Capture). AreLeft c.args.interface cs files frames stop) c.in-Some-split_first_mut.ensures.cases.0 left)

-- no name is left behind this one
pub next_of-returns-then-is_empty-clause-next : goal.next_of-returns-then-is_empty-clause-next
next_of-returns-then-is_empty-clause-next g t c = λ files frames stop are left.
    let all = ap texts c.in-Some.ensures.cases.0 in
    let none = last_name c.in-Some.names.now (sym c.is_empty.ensures ∙ c.if-is_empty.true) in
    let behind = c.in-Some-split_first_mut.captures.now in
    let n = next_more _ c.in-Some.name.now.now (texts c.in-Some.names.now) c.args.interface c.in-Some-split_first_mut.capture.now c.peek.new.self behind behind files frames stop c.in-Ok.moment None
    (held_split _ _ files _ _ all are) c.in-Ok.ensures.looks
    (λ more fs st held rest. (next_none _ (texts c.in-Some.names.now) (c.args.interface + 1) behind more fs st none held rest, rest))
    (subst (λ (cs : List Capture). AreLeft c.args.interface cs files frames stop) c.in-Some-split_first_mut.ensures.cases.0 left) in
    (rw c.sooner.ensures n.0, n.1)

pub next_of-returns-then-is_empty-clause-looks : goal.next_of-returns-then-is_empty-clause-looks
next_of-returns-then-is_empty-clause-looks g t c =
    let none = last_name c.in-Some.names.now (sym c.is_empty.ensures ∙ c.if-is_empty.true) in
    let behind = c.in-Some-split_first_mut.captures.now in
    looks_more _ (g.F.Shelf.held c.peek.new.shelf) c.args.interface (texts c.args.names.now) c.args.captures.now c.in-Some.name.now.now (texts c.in-Some.names.now) c.in-Some-split_first_mut.capture.now c.peek.new.self
    behind behind c.in-Ok.moment None _ (ap texts c.in-Some.ensures.cases.0) c.in-Some-split_first_mut.ensures.cases.0 c.peek.ensures.shelf.constant
    c.in-Ok.ensures.looks (looks_none _ (c.args.interface + 1) (texts c.in-Some.names.now) behind none) c.sooner.ensures

pub next_of-returns-in-Ok-next_behind-clause-next : goal.next_of-returns-in-Ok-next_behind-clause-next
next_of-returns-in-Ok-next_behind-clause-next g t c = λ files frames stop are left.
    let all = ap texts c.in-Some.ensures.cases.0 in
    let n = next_more _ c.in-Some.name.now.now (texts c.in-Some.names.now) c.args.interface c.in-Some-split_first_mut.capture.now c.peek.new.self c.in-Some-split_first_mut.captures.now c.next_behind.new.captures files frames stop c.in-Ok.moment c.in-Ok-next_behind.others
    (held_split _ _ files _ _ all are) c.in-Ok.ensures.looks
    (λ more fs st held behind. c.in-Ok-next_behind.ensures.next more fs st (held_still _ _ _ more c.peek.ensures.shelf.constant held) behind)
    (subst (λ (cs : List Capture). AreLeft c.args.interface cs files frames stop) c.in-Some-split_first_mut.ensures.cases.0 left) in
    (rw c.sooner-in-Ok-next_behind.ensures n.0, n.1)

pub next_of-returns-in-Err-next_behind-clause-shelf : goal.next_of-returns-in-Err-next_behind-clause-shelf
next_of-returns-in-Err-next_behind-clause-shelf g t c =
    let all = ap texts c.in-Some.ensures.cases.0 in
    keeps_then g.F.Shelf.held g.F.Shelf.faults c.args.shelf.now c.peek.new.shelf c.next_behind.new.shelf _ _ _ _ _ _ c.in-Ok.ensures.shelf c.in-Err-next_behind.ensures.shelf
    (λ each is. one_of_first _ _ _ each all is) (λ each is. one_of_rest _ _ _ each all is) (λ e. cc) (λ e. e)

pub next_of-returns-in-Err-next_behind-clause-cause : goal.next_of-returns-in-Err-next_behind-clause-cause
next_of-returns-in-Err-next_behind-clause-cause g t c = λ read.
    rose_rest _ (g.F.Shelf.faults c.peek.new.shelf) _ _ _ _ (ap texts c.in-Some.ensures.cases.0) (c.in-Ok.ensures.shelf.quiet (λ e. cc)) (c.in-Err-next_behind.ensures.cause read)

pub next_of-returns-in-Err-next_behind-clause-next : goal.next_of-returns-in-Err-next_behind-clause-next
next_of-returns-in-Err-next_behind-clause-next g t c = λ files frames stop are left.
    let all = ap texts c.in-Some.ensures.cases.0 in
    next_fails_behind _ c.in-Some.name.now.now (texts c.in-Some.names.now) c.args.interface c.in-Some-split_first_mut.capture.now c.peek.new.self c.in-Some-split_first_mut.captures.now c.next_behind.new.captures files frames stop c.in-Ok.moment c.in-Err-next_behind.found.fault
    (held_split _ _ files _ _ all are) c.in-Ok.ensures.looks
    (λ more fs st held behind. c.in-Err-next_behind.ensures.next more fs st (held_still _ _ _ more c.peek.ensures.shelf.constant held) behind)
    (subst (λ (cs : List Capture). AreLeft c.args.interface cs files frames stop) c.in-Some-split_first_mut.ensures.cases.0 left)

pub next_of-returns-in_default-clause-looks : goal.next_of-returns-in_default-clause-looks
next_of-returns-in_default-clause-looks g t c = looks_none _ c.args.interface (texts c.args.names.now) c.args.captures.now (no_texts c.args.names.now c.in_default.ensures.cases)

pub next_of-returns-in_default-split_first_mut-clause-looks :
    goal.next_of-returns-in_default-split_first_mut-clause-looks
next_of-returns-in_default-split_first_mut-clause-looks g t c = looks_nowhere _ c.args.interface (texts c.args.names.now) c.args.captures.now c.in_default-split_first_mut.ensures.cases

pub next_of-returns-in-Ok-next_behind-clause-looks : goal.next_of-returns-in-Ok-next_behind-clause-looks
next_of-returns-in-Ok-next_behind-clause-looks g t c =
    looks_more _ (g.F.Shelf.held c.peek.new.shelf) c.args.interface (texts c.args.names.now) c.args.captures.now c.in-Some.name.now.now (texts c.in-Some.names.now) c.in-Some-split_first_mut.capture.now c.peek.new.self
    c.in-Some-split_first_mut.captures.now c.next_behind.new.captures c.in-Ok.moment c.in-Ok-next_behind.others _ (ap texts c.in-Some.ensures.cases.0) c.in-Some-split_first_mut.ensures.cases.0 c.peek.ensures.shelf.constant
    c.in-Ok.ensures.looks c.in-Ok-next_behind.ensures.looks c.sooner-in-Ok-next_behind.ensures

pub next_of-returns-in-Err-clause-kinds : goal.next_of-returns-in-Err-clause-kinds
next_of-returns-in-Err-clause-kinds g t c = of_records _ _ c.in-Err.fault c.in-Err.ensures.faults

pub next_of-returns-in-Err-next_behind-clause-kinds : goal.next_of-returns-in-Err-next_behind-clause-kinds
next_of-returns-in-Err-next_behind-clause-kinds g t c = c.in-Err-next_behind.ensures.kinds
