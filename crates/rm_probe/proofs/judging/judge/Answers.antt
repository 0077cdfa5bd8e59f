use Rattle.std.proofs.Common.{◌≡◌, ◌∙◌, List, Err, map, inl, inr, ap, sym, subst, arith}
use Rattle.rm_edge.specs.Outside.{Held}
use Rattle.rm_edge.specs.Uses.{file_use}
use Rattle.rm_captures.specs.Reading.{OneRose, texts}
use Rattle.rm_captures.specs.Rounds.{AreCaptureFiles}
use Rattle.rm_captures.specs.Told.{OfFiles}
use Rattle.rm_requests.specs.declared.fault.RequestsFault.TheVariants.{Read as ReadFailed}
use Rattle.rm_probe.specs.Requests.{JudgesRequests, status_by}
use Rattle.rm_probe.specs.Steps.{JudgesCaptures}
use Rattle.rm_probe.proofs.EndLemmas.{first_refused, then_refused}
use Rattle.rm_probe.proofs.FileLemmas.{helds_are, read_faults}
use Rattle.rm_edge.proofs.Keeping.{keeps_more, keeps_then}
use Rattle.rm_probe.specs.declared.status.Status.TheVariants.{ReadFault}
use Rattle.rm_probe.proofs.judging.judge.Goals as goal

pub returns-in-Err-clause-judged : goal.returns-in-Err-clause-judged
returns-in-Err-clause-judged g c =
    let names = texts c.args.names.now in
    let shelf = c.judge_captures.new.shelf in
    first_refused c.args.lead (map (file_use g.F.Shelf.held g.F.Shelf.faults c.args.shelf.now shelf) names) (file_use g.F.Shelf.held g.F.Shelf.faults c.args.shelf.now shelf c.args.requests.now)
    (OneRose (g.F.Shelf.faults c.args.shelf.now) (g.F.Shelf.faults shelf) names) c.in-Err.status (read_faults g.F.Shelf.held g.F.Shelf.faults c.args.shelf.now shelf names)
    (subst (λ (hs : List Held). JudgesCaptures {T = Unit {0}} c.args.lead hs (OneRose (g.F.Shelf.faults c.args.shelf.now) (g.F.Shelf.faults shelf) names) (Err c.in-Err.status))
    (sym (helds_are g.F.Shelf.held g.F.Shelf.faults c.args.shelf.now shelf names)) c.in-Err.ensures.judged)

pub returns-in-Ok-judge-clause-judged : goal.returns-in-Ok-judge-clause-judged
returns-in-Ok-judge-clause-judged g c = (
  subst (λ (hs : List Held). OfFiles hs (AreCaptureFiles c.args.lead)) (sym (helds_are g.F.Shelf.held g.F.Shelf.faults c.args.shelf.now c.judge.new.shelf (texts c.args.names.now))) c.in-Ok.ensures.judged,
  rw (c.in-Ok.ensures.shelf.constant c.args.requests.now) at c.in-Ok-judge.ensures.judged,
  c.rewind.ensures,
)

pub returns-in-Err-judge-clause-judged : goal.returns-in-Err-judge-clause-judged
returns-in-Err-judge-clause-judged g c =
    let names = texts c.args.names.now in
    let shelf = c.judge.new.shelf in
    rw c.of_requests.ensures (then_refused c.args.lead (map (file_use g.F.Shelf.held g.F.Shelf.faults c.args.shelf.now shelf) names) (file_use g.F.Shelf.held g.F.Shelf.faults c.args.shelf.now shelf c.args.requests.now) c.in-Err-judge.fault
    (subst (λ (hs : List Held). OfFiles hs (AreCaptureFiles c.args.lead)) (sym (helds_are g.F.Shelf.held g.F.Shelf.faults c.args.shelf.now shelf names)) c.in-Ok.ensures.judged)
    (subst (λ (h : Held). JudgesRequests {T = Unit {0}} h (Err c.in-Err-judge.fault)) (c.in-Ok.ensures.shelf.constant c.args.requests.now) c.in-Err-judge.ensures.judged)
    (λ e. let rose = c.judge.ensures.cause (c.in-Err-judge.is ∙ ap Err e) in omega (arith, rose, c.in-Ok.ensures.shelf.quiet (λ f. cc) c.args.requests.now)))

pub returns-in-Err-clause-shelf : goal.returns-in-Err-clause-shelf
returns-in-Err-clause-shelf g c =
    keeps_more g.F.Shelf.held g.F.Shelf.faults c.args.shelf.now c.judge_captures.new.shelf _ _ _ _ c.in-Err.ensures.shelf (λ each is. inl is) (λ e. let same : c.in-Err.status ≡ ReadFault = cc in ap Err same)

pub returns-in-Ok-judge-clause-shelf : goal.returns-in-Ok-judge-clause-shelf
returns-in-Ok-judge-clause-shelf g c =
    keeps_then g.F.Shelf.held g.F.Shelf.faults c.args.shelf.now c.judge_captures.new.shelf c.judge.new.shelf _ _ _ _ _ _ c.in-Ok.ensures.shelf c.in-Ok-judge.ensures.shelf (λ each is. inl is) (λ each is. inr is) (λ e. absurd cc) (λ e. absurd cc)

pub returns-in-Err-judge-clause-shelf : goal.returns-in-Err-judge-clause-shelf
returns-in-Err-judge-clause-shelf g c =
    keeps_then g.F.Shelf.held g.F.Shelf.faults c.args.shelf.now c.judge_captures.new.shelf c.judge.new.shelf _ _ _ _ _ _ c.in-Ok.ensures.shelf c.in-Err-judge.ensures.shelf (λ each is. inl is) (λ each is. inr is) (λ e. absurd cc)
    (λ e. let same : c.in-Err-judge.fault ≡ ReadFailed = cc in ap Err (c.of_requests.ensures ∙ ap status_by same))
