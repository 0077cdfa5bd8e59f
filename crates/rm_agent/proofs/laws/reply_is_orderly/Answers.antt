use Rattle.rm_settings.specs.Communities.{may_write}
use Rattle.rm_agent.proofs.RepliesOrderly.{reply_orderly}
use Rattle.rm_agent.proofs.laws.reply_is_orderly.Goals as goal

pub returns : goal.returns
returns c settings journal now request reply after orderly none is =
    reply_orderly settings journal now orderly none request.kind (may_write settings request.community) request reply after is
