use Rattle.std.proofs.Common.{◌≡◌, ◌∙◌, Err, ap, map}
use Rattle.rm_edge.proofs.Keeping.{keeps_more}
use Rattle.rm_captures.specs.Reading.{OneRose, texts}
use Rattle.rm_probe.specs.Capture.{status_of}
use Rattle.rm_probe.proofs.EndLemmas.{judged_by, unread}
use Rattle.rm_probe.proofs.judging.judge_captures.Goals as goal

pub returns-in-Err-clause-judged : goal.returns-in-Err-clause-judged
returns-in-Err-clause-judged g c =
    rw c.from.ensures (judged_by c.args.lead (map (g.F.Shelf.held c.args.shelf.now) (texts c.args.names.now)) (OneRose (g.F.Shelf.faults c.args.shelf.now) (g.F.Shelf.faults c.judge.new.shelf) (texts c.args.names.now)) c.in-Err.found
    c.in-Err.ensures.cause c.in-Err.ensures.faults)

pub returns-in-Err-clause-shelf : goal.returns-in-Err-clause-shelf
returns-in-Err-clause-shelf g c =
    keeps_more g.F.Shelf.held g.F.Shelf.faults c.args.shelf.now c.judge.new.shelf _ _ _ _ c.in-Err.ensures.shelf (λ each is. is)
    (λ e. let same : c.in-Err.found ≡ unread e.0 = let is = e.1 in cc in ap Err (c.from.ensures ∙ ap status_of same))

pub returns-in-Ok-clause-shelf : goal.returns-in-Ok-clause-shelf
returns-in-Ok-clause-shelf g c =
    keeps_more g.F.Shelf.held g.F.Shelf.faults c.args.shelf.now c.judge.new.shelf _ _ _ _ c.in-Ok.ensures.shelf (λ each is. is) (λ e. absurd (let is = e.1 in cc))
