use Rattle.std.proofs.Common.{◌≡◌, ◌∙◌, List, [], Err, ap, subst, sym}
use Rattle.rm_edge.proofs.Keeping.{keeps_more, keeps_then}
use Rattle.rm_pcap.specs.declared.fault.PcapFault.{PcapFault}
use Rattle.rm_pcap.specs.declared.fault.PcapFault.TheVariants.{Read}
use Rattle.rm_pcap.specs.declared.capture.Capture.{Capture}
use Rattle.rm_captures.specs.Left.{AreLeft}
use Rattle.rm_captures.specs.Reading.{texts}
use Rattle.rm_captures.specs.declared.fault.CaptureFault.{CaptureFault}
use Rattle.rm_captures.proofs.NameLemmas.{no_texts, one_of_first, one_of_rest, rose_first, rose_rest, err_more, held_split}
use Rattle.rm_captures.proofs.NextLemmas.{no_capture}
use Rattle.rm_captures.proofs.EndingLemmas.{left_split, none_cut, end_behind}
use Rattle.rm_captures.proofs.RoundLemmas.{held_still}
use Rattle.rm_captures.proofs.ending.+is_cut.Goals as goal

pub returns-in_default-clause-ends : goal.returns-in_default-clause-ends
returns-in_default-clause-ends g t c = λ files stop are left.
    none_cut _ (texts c.args.names.now) c.args.interface c.args.captures.now files stop (no_texts c.args.names.now c.in_default.ensures.cases) are left

pub returns-in_default-split_first_mut-clause-ends :
    goal.returns-in_default-split_first_mut-clause-ends
returns-in_default-split_first_mut-clause-ends g t c = λ files stop are left.
    let all = ap texts c.in-Some.ensures.cases.0 in
    absurd (no_capture _ c.in-Some.name.now.now (texts c.in-Some.names.now) c.args.interface c.args.captures.now files [] stop c.in_default-split_first_mut.ensures.cases (held_split _ _ files _ _ all are) left)

pub returns-in-Ok-true-clause-ends : goal.returns-in-Ok-true-clause-ends
returns-in-Ok-true-clause-ends g t c = λ files stop are left.
    let all = ap texts c.in-Some.ensures.cases.0 in
    let (bytes, more, end, is, held, leaves, behind) = left_split _ c.in-Some.name.now.now (texts c.in-Some.names.now) c.args.interface c.in-Some-split_first_mut.capture.now c.in-Some-split_first_mut.captures.now files stop
    (held_split _ _ files _ _ all are) (subst (λ (cs : List Capture). AreLeft c.args.interface cs files [] stop) c.in-Some-split_first_mut.ensures.cases.0 left) in
    sym (behind.cuts (sym (c.in-Ok-true.ensures.ends c.args.interface bytes end is leaves) ∙ c.in-Ok-true.field-0-test))

pub returns-in-Ok-false-clause-ends : goal.returns-in-Ok-false-clause-ends
returns-in-Ok-false-clause-ends g t c = λ files stop are left.
    let all = ap texts c.in-Some.ensures.cases.0 in
    let (bytes, more, end, is, held, leaves, behind) = left_split _ c.in-Some.name.now.now (texts c.in-Some.names.now) c.args.interface c.in-Some-split_first_mut.capture.now c.in-Some-split_first_mut.captures.now files stop
    (held_split _ _ files _ _ all are) (subst (λ (cs : List Capture). AreLeft c.args.interface cs files [] stop) c.in-Some-split_first_mut.ensures.cases.0 left) in
    end_behind stop behind.rest c.is_cut.result (behind.ends (sym (c.in-Ok-false.ensures.ends c.args.interface bytes end is leaves) ∙ c.in-Ok-false.field-0-test))
    (c.is_cut.ensures.ends more behind.rest (held_still _ _ _ more c.ends_cut.ensures.shelf.constant held) behind.left)

pub returns-in-Ok-false-clause-shelf : goal.returns-in-Ok-false-clause-shelf
returns-in-Ok-false-clause-shelf g t c =
    let all = ap texts c.in-Some.ensures.cases.0 in
    keeps_then g.F.Shelf.held g.F.Shelf.faults c.args.shelf.now c.ends_cut.new.shelf c.is_cut.new.shelf _ _ _ _ _ _ c.in-Ok-false.ensures.shelf c.is_cut.ensures.shelf
    (λ each is. one_of_first _ _ _ each all is) (λ each is. one_of_rest _ _ _ each all is) (λ e. cc) (λ e. e)

pub returns-in-Ok-true-clause-shelf : goal.returns-in-Ok-true-clause-shelf
returns-in-Ok-true-clause-shelf g t c =
    let all = ap texts c.in-Some.ensures.cases.0 in
    keeps_more g.F.Shelf.held g.F.Shelf.faults c.args.shelf.now c.ends_cut.new.shelf _ _ _ _ c.in-Ok-true.ensures.shelf (λ each is. one_of_first _ _ _ each all is) (λ e. cc)

pub returns-in-Err-clause-shelf : goal.returns-in-Err-clause-shelf
returns-in-Err-clause-shelf g t c =
    let all = ap texts c.in-Some.ensures.cases.0 in
    keeps_more g.F.Shelf.held g.F.Shelf.faults c.args.shelf.now c.ends_cut.new.shelf _ _ _ _ c.in-Err.ensures.shelf (λ each is. one_of_first _ _ _ each all is)
    (λ e. let same : c.in-Err.fault ≡ Read = cc in (c.args.interface, ap (λ (fault : PcapFault). Err (record { interface = c.args.interface; fault = fault })) same))

pub returns-in-Err-clause-cause : goal.returns-in-Err-clause-cause
returns-in-Err-clause-cause g t c = λ read. rose_first _ _ _ _ _ (ap texts c.in-Some.ensures.cases.0) (c.in-Err.ensures.cause read)

pub returns-in-Ok-false-clause-cause : goal.returns-in-Ok-false-clause-cause
returns-in-Ok-false-clause-cause g t c =
    err_more c.is_cut.result _ _
    (λ (found : CaptureFault) rises read. rose_rest _ (g.F.Shelf.faults c.ends_cut.new.shelf) _ _ _ _ (ap texts c.in-Some.ensures.cases.0) (c.in-Ok-false.ensures.shelf.quiet (λ e. cc)) (rises read)) c.is_cut.ensures.cause

pub returns-in-Err-clause-ends : goal.returns-in-Err-clause-ends
returns-in-Err-clause-ends g t c = λ files stop are left.
    let all = ap texts c.in-Some.ensures.cases.0 in
    let (bytes, more, end, is, held, leaves, behind) = left_split _ c.in-Some.name.now.now (texts c.in-Some.names.now) c.args.interface c.in-Some-split_first_mut.capture.now c.in-Some-split_first_mut.captures.now files stop
    (held_split _ _ files _ _ all are) (subst (λ (cs : List Capture). AreLeft c.args.interface cs files [] stop) c.in-Some-split_first_mut.ensures.cases.0 left) in
    c.in-Err.ensures.ends c.args.interface bytes end is leaves
