use Rattle.std.proofs.Common.{[], ◌∷◌, take}
use Rattle.rm_probe.proofs.SayingLemmas.{says_nothing}
use Rattle.rm_probe.proofs.SampleLemmas.{handled_noted, handled_silent}
use Rattle.rm_probe.proofs.probe.Probe.handle.Goals as goal

pub returns-in-Some-clause-handled : goal.returns-in-Some-clause-handled
returns-in-Some-clause-handled g c = (
  record { moment = c.args.moment; message = take c.in-Some.length c.due.new.note } ∷ [],
  c.note.ensures.noted,
  λ journal stands. handled_noted _ journal _ c.args.moment _ c.due.result c.due.new.note (c.due.ensures.handled journal stands) c.in-Some.length c.in-Some.is,
)

pub returns-in_default-clause-handled : goal.returns-in_default-clause-handled
returns-in_default-clause-handled g c = (
  [],
  says_nothing g.N.Notes.since c.args.notes.now,
  λ journal stands. handled_silent _ journal _ c.args.moment _ c.due.result c.due.new.note (c.due.ensures.handled journal stands) c.in_default.is,
)
