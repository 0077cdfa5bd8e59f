use Rattle.std.proofs.Common.{◌≡◌, ◌∙◌, ◌++◌, ◌∷◌, [], ℕ, List, Err, true, not, length, sym, ap, subst, append_assoc, arith}
use Rattle.std.specs.Prelude.{is_ok}
use Rattle.std.proofs.lemmas.List.{append-nil}
use Rattle.rm_edge.proofs.Keeping.{keeps_more, keeps_then}
use Rattle.rm_pcap.specs.declared.fault.PcapFault.{PcapFault}
use Rattle.rm_pcap.specs.declared.fault.PcapFault.TheVariants.{Read}
use Rattle.rm_pcap.specs.declared.capture.Capture.{Capture}
use Rattle.rm_captures.specs.Reading.{texts, AreHeld}
use Rattle.rm_captures.proofs.NameLemmas.{no_texts, one_of_first, one_of_rest, rose_first, rose_rest, held_split}
use Rattle.rm_captures.proofs.RoundLemmas.{held_still, none_begun, more_begun, first_faulty, rest_faulty, no_unseen, unseen_join}
use Rattle.rm_captures.proofs.ToldLemmas.{early_here, early_there, present_none, present_more, present_still}
use Rattle.rm_captures.proofs.beginning.+begin_each.Goals as goal

pub returns-in_default-clause-begun : goal.returns-in_default-clause-begun
returns-in_default-clause-begun g t c = (
  [],
  sym (append-nil c.args.captures.now.items),
  no_unseen,
  omega (arith, c.in_default.ensures.cases),
  λ files are. none_begun (g.F.Shelf.held c.args.shelf.now) c.args.lead c.args.interface files
      (subst (λ (names : List (List ℕ)). AreHeld (g.F.Shelf.held c.args.shelf.now) names files) (no_texts c.args.names.now c.in_default.ensures.cases) are),
)

pub returns-in-Ok-begin_each-clause-begun : goal.returns-in-Ok-begin_each-clause-begun
returns-in-Ok-begin_each-clause-begun g t c =
    let all = ap texts c.in-Some.ensures.cases.0 in
    let ok : is_ok c.push.result ≡ true = c.is_err.ensures.negation ∙ ap not c.if-is_err.false in
    let pushed : c.push.new.self.items ≡ c.args.captures.now.items ++ c.in-Ok.capture ∷ [] = rw ok at c.push.ensures.items in
    let (begun, items, unseen, long, content) = c.in-Ok-begin_each.ensures.begun in (
      c.in-Ok.capture ∷ begun,
      items ∙ ap (λ (xs : List Capture). xs ++ begun) pushed ∙ append_assoc c.args.captures.now.items (c.in-Ok.capture ∷ []) begun,
      unseen_join c.in-Ok.capture begun c.in-Ok.ensures.unseen unseen,
      omega (arith, long, ap length c.in-Some.ensures.cases.0),
      λ files are.
          rw c.earlier.ensures
          (more_begun (g.F.Shelf.held c.args.shelf.now) c.args.lead c.args.interface c.in-Some.name.now.now (texts c.in-Some.names.now) files c.in-Ok.time c.in-Ok-begin_each.others c.in-Ok.capture begun
          (held_split _ _ files _ _ all are) c.in-Ok.ensures.begins
          (λ more held. content more (held_still _ _ _ more c.begin_one.ensures.shelf.constant held))),
    )

pub returns-in-Err-begin_each-clause-shelf : goal.returns-in-Err-begin_each-clause-shelf
returns-in-Err-begin_each-clause-shelf g t c =
    let all = ap texts c.in-Some.ensures.cases.0 in
    keeps_then g.F.Shelf.held g.F.Shelf.faults c.args.shelf.now c.begin_one.new.shelf c.begin_each.new.shelf _ _ _ _ _ _ c.in-Ok.ensures.shelf c.in-Err-begin_each.ensures.shelf
    (λ each is. one_of_first _ _ _ each all is) (λ each is. one_of_rest _ _ _ each all is) (λ e. cc) (λ e. e)

pub returns-in-Err-begin_each-clause-cause : goal.returns-in-Err-begin_each-clause-cause
returns-in-Err-begin_each-clause-cause g t c = λ read.
    rose_rest _ (g.F.Shelf.faults c.begin_one.new.shelf) _ _ _ _ (ap texts c.in-Some.ensures.cases.0) (c.in-Ok.ensures.shelf.quiet (λ e. cc)) (c.in-Err-begin_each.ensures.cause read)

pub returns-in-Err-begin_each-clause-faults : goal.returns-in-Err-begin_each-clause-faults
returns-in-Err-begin_each-clause-faults g t c = λ files are.
    let all = ap texts c.in-Some.ensures.cases.0 in
    rest_faulty (g.F.Shelf.held c.args.shelf.now) c.args.lead c.args.interface c.in-Some.name.now.now (texts c.in-Some.names.now) files c.in-Ok.time c.in-Err-begin_each.found
    (held_split _ _ files _ _ all are) (λ bytes is. (c.in-Ok.ensures.begins bytes is).0)
    (λ more held. c.in-Err-begin_each.ensures.faults more (held_still _ _ _ more c.begin_one.ensures.shelf.constant held))

pub returns-in-Err-clause-shelf : goal.returns-in-Err-clause-shelf
returns-in-Err-clause-shelf g t c =
    let all = ap texts c.in-Some.ensures.cases.0 in
    keeps_more g.F.Shelf.held g.F.Shelf.faults c.args.shelf.now c.begin_one.new.shelf _ _ _ _ c.in-Err.ensures.shelf (λ each is. one_of_first _ _ _ each all is)
    (λ e. let same : c.in-Err.fault ≡ Read = cc in (c.args.interface, ap (λ (fault : PcapFault). Err (record { interface = c.args.interface; fault = fault })) same))

pub returns-in-Err-clause-cause : goal.returns-in-Err-clause-cause
returns-in-Err-clause-cause g t c = λ read. rose_first _ _ _ _ _ (ap texts c.in-Some.ensures.cases.0) (c.in-Err.ensures.cause read)

pub returns-in-Err-clause-faults : goal.returns-in-Err-clause-faults
returns-in-Err-clause-faults g t c = λ files are.
    let all = ap texts c.in-Some.ensures.cases.0 in
    first_faulty (g.F.Shelf.held c.args.shelf.now) c.args.lead c.args.interface c.in-Some.name.now.now (texts c.in-Some.names.now) files c.in-Err.fault (held_split _ _ files _ _ all are) c.in-Err.ensures.begins

pub returns-in_default-clause-present : goal.returns-in_default-clause-present
returns-in_default-clause-present g t c = present_none _ _ (no_texts c.args.names.now c.in_default.ensures.cases)

pub returns-in-Ok-begin_each-clause-present : goal.returns-in-Ok-begin_each-clause-present
returns-in-Ok-begin_each-clause-present g t c =
    present_more (g.F.Shelf.held c.args.shelf.now) _ c.in-Some.name.now.now (texts c.in-Some.names.now) (ap texts c.in-Some.ensures.cases.0) (λ none. let refused = c.in-Ok.ensures.absent none in cc)
    (present_still _ (g.F.Shelf.held c.begin_one.new.shelf) _ c.begin_one.ensures.shelf.constant c.in-Ok-begin_each.ensures.present)

pub returns-in-Err-begin_each-clause-early : goal.returns-in-Err-begin_each-clause-early
returns-in-Err-begin_each-clause-early g t c =
    early_there c.args.lead c.args.interface (g.F.Shelf.held c.args.shelf.now) (g.F.Shelf.held c.begin_one.new.shelf) _ c.in-Some.name.now.now (texts c.in-Some.names.now) c.in-Ok.time c.in-Err-begin_each.found
    (ap texts c.in-Some.ensures.cases.0) c.begin_one.ensures.shelf.constant (λ none. let refused = c.in-Ok.ensures.absent none in cc) (λ bytes is. (c.in-Ok.ensures.begins bytes is).0) c.in-Err-begin_each.ensures.early

pub returns-in-Err-clause-early : goal.returns-in-Err-clause-early
returns-in-Err-clause-early g t c =
    early_here c.args.lead c.args.interface (g.F.Shelf.held c.args.shelf.now) _ c.in-Some.name.now.now (texts c.in-Some.names.now) c.in-Err.fault (ap texts c.in-Some.ensures.cases.0)
    (λ none. let refused = c.in-Err.ensures.absent none in cc) c.in-Err.ensures.begins
