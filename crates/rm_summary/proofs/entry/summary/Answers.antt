use Rattle.rm_edge.specs.Outside.{Adds, AddsFront}
use Rattle.rm_summary.proofs.EndLemmas.{of_summary}
use Rattle.rm_summary.proofs.entry.summary.Goals as goal

pub returns-in-Ok-write-clause-ends : goal.returns-in-Ok-write-clause-ends
returns-in-Ok-write-clause-ends g c =
    of_summary c.args.lead c.args.keep_short (g.F.Shelf.held c.args.shelf.now c.args.capture.now) c.in-Ok.summary
    (λ text. Adds (g.K.Sink.content c.args.out.now) (g.K.Sink.content c.write.new.out) text) c.in-Ok.ensures.counted c.in-Ok-write.ensures.text

pub returns-in-Err-write-clause-ends : goal.returns-in-Err-write-clause-ends
returns-in-Err-write-clause-ends g c = (
  c.in-Err-write.ensures.cause.failed,
  of_summary c.args.lead c.args.keep_short (g.F.Shelf.held c.args.shelf.now c.args.capture.now) c.in-Ok.summary
      (λ text. AddsFront (g.K.Sink.content c.args.out.now) (g.K.Sink.content c.write.new.out) text) c.in-Ok.ensures.counted c.in-Err-write.ensures.text,
)
