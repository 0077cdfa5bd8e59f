use Rattle.rm_collect.proofs.collecting.Collecting.part.Goals as goal

pub returns-clause-kept : goal.returns-clause-kept
returns-clause-kept g c settings journal stands = rw c.get.ensures (rw (← c.self.view_is) at (stands.parts c.args.row))
