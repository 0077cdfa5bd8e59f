use Rattle.std.proofs.Common.{◌≡◌, ◌∙◌, Err, ap, map, refl, rules, sym}
use Rattle.rm_edge.proofs.Keeping.{keeps_more, keeps_then}
use Rattle.rm_captures.specs.Reading.{OneRose, texts}
use Rattle.rm_captures.proofs.NameLemmas.{as_many_texts, rose_still}
use Rattle.rm_captures.proofs.RoundLemmas.{held_still}
use Rattle.rm_probe.specs.Capture.{status_of}
use Rattle.rm_probe.specs.declared.serving.Serving.{Serving}
use Rattle.rm_probe.specs.declared.status.Status.TheVariants.{ReadFault}
use Rattle.rm_probe.proofs.EndLemmas.{another_begun, begun_left, others_are, unread}
use Rattle.rm_probe.proofs.FrameLemmas.{keeps_first, unseen_passed}
use Rattle.rm_probe.proofs.ServeEnds.{begins_again}
use Rattle.rm_probe.proofs.serving.prepare.Goals as goal

pub returns-in-Err-clause-shelf : goal.returns-in-Err-clause-shelf
returns-in-Err-clause-shelf g c =
    keeps_more g.F.Shelf.held g.F.Shelf.faults c.args.shelf.now c.judge_captures.new.shelf _ _ _ _ c.in-Err.ensures.shelf (λ each is. is) (λ e. let same : c.in-Err.status ≡ ReadFault = cc in ap Err same)

pub returns-in-Ok-begin-clause-shelf : goal.returns-in-Ok-begin-clause-shelf
returns-in-Ok-begin-clause-shelf g c =
    keeps_then g.F.Shelf.held g.F.Shelf.faults c.args.shelf.now c.judge_captures.new.shelf c.begin.new.shelf _ _ _ _ _ _ c.in-Ok-judge_captures.ensures.shelf c.in-Ok-begin.ensures.shelf (λ each is. is) (λ each is. is) (λ e. absurd cc)
    (λ e. absurd (let is = e.1 in cc))

pub returns-in-Ok-begin-clause-ready : goal.returns-in-Ok-begin-clause-ready
returns-in-Ok-begin-clause-ready g c = record {
  whole = search rules;
  fresh = c.in-Ok.ensures.fresh;
  set = c.in-Ok.ensures.settings;
  begun = keeps_first _ c.in-Ok.probe c.in-Ok-begin.captures.items c.in-Ok.ensures.fresh (c.in-Ok-begin.ensures.unseen.1 ∙ sym (as_many_texts c.args.names.now)) c.in-Ok-begin.ensures.unseen.0;
  none = unseen_passed c.in-Ok-begin.captures.items c.in-Ok-begin.ensures.unseen.0;
  last_is = refl;
  manager_is = refl;
  left = λ files frames stop are whole.
      begun_left c.args.lead files frames stop c.in-Ok-begin.captures.items (c.in-Ok-begin.ensures.ready files (held_still _ _ _ files c.in-Ok-judge_captures.ensures.shelf.constant are)) whole;
}

pub returns-in-Err-begin-clause-judged : goal.returns-in-Err-begin-clause-judged
returns-in-Err-begin-clause-judged g c =
    let held = g.F.Shelf.held c.args.shelf.now in
    let names = texts c.args.names.now in
    rw c.from.ensures (begins_again c.args.lead Serving (map held names) (OneRose (g.F.Shelf.faults c.args.shelf.now) (g.F.Shelf.faults c.begin.new.shelf) names) c.in-Err-begin.found c.in-Ok-judge_captures.ensures.judged
    (others_are c.args.lead held names (map held names) ⊥ (status_of c.in-Err-begin.found) refl (another_begun c.args.lead held names ⊥ c.in-Err-begin.found
    (λ files are. c.in-Err-begin.ensures.faults files (held_still _ _ _ files c.in-Ok-judge_captures.ensures.shelf.constant are))))
    (λ read. rose_still _ (g.F.Shelf.faults c.judge_captures.new.shelf) _ names (c.in-Ok-judge_captures.ensures.shelf.quiet (λ e. cc)) (c.in-Err-begin.ensures.cause read)))

pub returns-in-Err-begin-clause-shelf : goal.returns-in-Err-begin-clause-shelf
returns-in-Err-begin-clause-shelf g c =
    keeps_then g.F.Shelf.held g.F.Shelf.faults c.args.shelf.now c.judge_captures.new.shelf c.begin.new.shelf _ _ _ _ _ _ c.in-Ok-judge_captures.ensures.shelf c.in-Err-begin.ensures.shelf (λ each is. is) (λ each is. is) (λ e. absurd cc)
    (λ e. let same : c.in-Err-begin.found ≡ unread e.0 = let is = e.1 in cc in ap Err (c.from.ensures ∙ ap status_of same))
