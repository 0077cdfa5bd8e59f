use Rattle.rm_probe.proofs.laws.one_of_each.Goals as goal

pub returns : goal.returns
returns c settings = record { parse = c.one_parse.ensures; reply = c.one_reply.ensures settings; advance = c.one_advance.ensures settings }
