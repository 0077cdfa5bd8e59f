use Rattle.rm_rows.proofs.index.node_of.Goals as goal

pub returns-in-Some-clause-some : goal.returns-in-Some-clause-some
returns-in-Some-clause-some g c = c.in-Some.ensures c.requires.0 c.args.index.now.items c.requires.1
