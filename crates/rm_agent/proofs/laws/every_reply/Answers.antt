use Rattle.rm_settings.specs.Communities.{may_write}
use Rattle.rm_agent.specs.Known.{counting_by}
use Rattle.rm_agent.proofs.Known.{answered_short}
use Rattle.rm_agent.proofs.laws.every_reply.Goals as goal

pub returns : goal.returns
returns c settings journal now datagram request parse answered =
    c.every_reply.ensures (counting_by settings) journal now (may_write settings request.community) request parse.2 (answered_short settings request answered)
