use Rattle.rm_sources.proofs.sources.Sources.accepting.Goals as goal

pub returns-clause-accepting : goal.returns-clause-accepting
returns-clause-accepting c settings frame earlier some under = c.accepting.ensures.accepting settings frame earlier some under.channels
