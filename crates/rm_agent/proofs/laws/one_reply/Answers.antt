use Rattle.rm_settings.specs.Communities.{may_write}
use Rattle.rm_agent.specs.Known.{counting_by}
use Rattle.rm_agent.proofs.laws.one_reply.Goals as goal

pub returns : goal.returns
returns c settings journal now request a b after later nothing p q =
    c.one_reply.ensures (counting_by settings) journal now (may_write settings request.community) request a b after later nothing p q
