use Rattle.std.proofs.Common.{◌≡◌, ℕ, List, Err, ap, subst}
use Rattle.rm_edge.proofs.Keeping.{keeps_more, keeps_then}
use Rattle.rm_pcap.specs.declared.fault.PcapFault.{PcapFault}
use Rattle.rm_pcap.specs.declared.fault.PcapFault.TheVariants.{Read}
use Rattle.rm_pcap.specs.declared.capture.Capture.{Capture}
use Rattle.rm_captures.specs.declared.fault.CaptureFault.{CaptureFault}
use Rattle.rm_captures.specs.Reading.{texts, AreHeld, AreReady}
use Rattle.rm_captures.proofs.NameLemmas.{no_texts, one_of_first, one_of_rest, rose_first, rose_rest, err_more, held_split}
use Rattle.rm_captures.proofs.RoundLemmas.{held_still, round_none, round_more, round_refused, too_few}
use Rattle.rm_captures.proofs.judging.+read_each.Goals as goal

pub returns-in_default-clause-round : goal.returns-in_default-clause-round
returns-in_default-clause-round g t c = λ base lead files are ready.
    round_none base lead c.args.interface (g.F.Shelf.held c.args.shelf.now) files (subst (λ (names : List (List ℕ)). AreHeld (g.F.Shelf.held c.args.shelf.now) names files) (no_texts c.args.names.now c.in_default.ensures.cases) are)

pub returns-in_default-split_first_mut-clause-round :
    goal.returns-in_default-split_first_mut-clause-round
returns-in_default-split_first_mut-clause-round g t c = λ base lead files are ready.
    let all = ap texts c.in-Some.ensures.cases.0 in
    absurd (too_few base lead c.args.interface _ c.in-Some.name.now.now (texts c.in-Some.names.now) files c.args.captures.now c.in_default-split_first_mut.ensures.cases (held_split _ _ files _ _ all are) ready)

pub returns-in-Ok-clause-shelf : goal.returns-in-Ok-clause-shelf
returns-in-Ok-clause-shelf g t c =
    let all = ap texts c.in-Some.ensures.cases.0 in
    keeps_then g.F.Shelf.held g.F.Shelf.faults c.args.shelf.now c.read_on.new.shelf c.read_each.new.shelf _ _ _ _ _ _ c.in-Ok.ensures.shelf c.read_each.ensures.shelf
    (λ each is. one_of_first _ _ _ each all is) (λ each is. one_of_rest _ _ _ each all is) (λ e. cc) (λ e. e)

pub returns-in-Ok-clause-cause : goal.returns-in-Ok-clause-cause
returns-in-Ok-clause-cause g t c =
    err_more c.read_each.result _ _
    (λ (found : CaptureFault) rises read. rose_rest _ (g.F.Shelf.faults c.read_on.new.shelf) _ _ _ _ (ap texts c.in-Some.ensures.cases.0) (c.in-Ok.ensures.shelf.quiet (λ e. cc)) (rises read)) c.read_each.ensures.cause

pub returns-in-Ok-clause-round : goal.returns-in-Ok-clause-round
returns-in-Ok-clause-round g t c = λ base lead files are ready.
    let all = ap texts c.in-Some.ensures.cases.0 in
    round_more base lead c.args.interface (g.F.Shelf.held c.args.shelf.now) c.in-Some.name.now.now (texts c.in-Some.names.now) files c.in-Some-split_first_mut.capture.now c.in-Some-split_first_mut.captures.now c.read_each.result
    (held_split _ _ files _ _ all are) (subst (λ (cs : List Capture). AreReady base lead c.args.interface files cs) c.in-Some-split_first_mut.ensures.cases.0 ready)
    c.in-Ok.ensures.reads
    (λ more held then. c.read_each.ensures.round base lead more (held_still _ _ _ more c.read_on.ensures.shelf.constant held) then)

pub returns-in-Err-clause-shelf : goal.returns-in-Err-clause-shelf
returns-in-Err-clause-shelf g t c =
    let all = ap texts c.in-Some.ensures.cases.0 in
    keeps_more g.F.Shelf.held g.F.Shelf.faults c.args.shelf.now c.read_on.new.shelf _ _ _ _ c.in-Err.ensures.shelf (λ each is. one_of_first _ _ _ each all is)
    (λ e. let same : c.in-Err.fault ≡ Read = cc in (c.args.interface, ap (λ (fault : PcapFault). Err (record { interface = c.args.interface; fault = fault })) same))

pub returns-in-Err-clause-cause : goal.returns-in-Err-clause-cause
returns-in-Err-clause-cause g t c = λ read. rose_first _ _ _ _ _ (ap texts c.in-Some.ensures.cases.0) (c.in-Err.ensures.cause read)

pub returns-in-Err-clause-round : goal.returns-in-Err-clause-round
returns-in-Err-clause-round g t c = λ base lead files are ready.
    let all = ap texts c.in-Some.ensures.cases.0 in
    round_refused base lead c.args.interface (g.F.Shelf.held c.args.shelf.now) c.in-Some.name.now.now (texts c.in-Some.names.now) files c.in-Some-split_first_mut.capture.now c.in-Some-split_first_mut.captures.now c.in-Err.fault
    (held_split _ _ files _ _ all are) (subst (λ (cs : List Capture). AreReady base lead c.args.interface files cs) c.in-Some-split_first_mut.ensures.cases.0 ready) c.in-Err.ensures.reads
