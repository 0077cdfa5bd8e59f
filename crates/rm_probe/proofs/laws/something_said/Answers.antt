use Rattle.rm_probe.proofs.PassingLemmas.{some_said}
use Rattle.rm_probe.proofs.laws.something_said.Goals as goal

pub returns : goal.returns
returns c settings journal orderly events =
    some_said settings (record {
      parse = c.every_parse.ensures;
      reply = c.every_reply.ensures;
      samples = c.every_advance.ensures;
      sampled = c.advance_is_orderly.ensures;
      passed = c.frame_is_orderly.ensures;
      replied = c.reply_is_orderly.ensures;
    }) journal orderly events
