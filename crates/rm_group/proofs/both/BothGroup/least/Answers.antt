use Rattle.rm_group.proofs.both.BothGroup.least.Goals as goal

pub returns-clause-from : goal.returns-clause-from
returns-clause-from g c settings journal now =
    c.lesser.ensures.from (g.G.Group.cells settings journal now) (g.H.Group.cells settings journal now)
    (c.least.ensures.from settings journal now) (c.least-2.ensures.from settings journal now)
