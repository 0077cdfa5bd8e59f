use Rattle.rm_load.proofs.entry.load.Goals as goal

pub returns-in-Ok-write-clause-ends : goal.returns-in-Ok-write-clause-ends
returns-in-Ok-write-clause-ends g c = c.in-Ok-write.ensures.text c.args.settings c.args.start c.in-Ok.ensures

pub returns-clause-ends : goal.returns-clause-ends
returns-clause-ends g c = (c.in-Err.ensures.cause.failed, c.in-Err.ensures.text c.args.settings c.args.start c.in-Ok.ensures)
