use Rattle.std.proofs.Common.{◌∙◌}
use Rattle.rm_ether.proofs.Steps.{rows_with_frame, counters_with_frame}
use Rattle.rm_ether.proofs.ether.Ether.frame.Goals as goal

pub returns-clause-stands : goal.returns-clause-stands
returns-clause-stands c settings journal frame stands known moment = record {
  rows = rows_with_frame settings journal frame c.of-adding.result.facts.now (c.of-adding.ensures ∙ known) c.args.self.now.rows c.change_each.new.self c.change_each.ensures stands.rows stands.counters;
  counters = counters_with_frame settings journal frame c.of-adding.result.facts.now (c.of-adding.ensures ∙ known) c.args.self.now.rows c.change_each.new.self c.change_each.ensures stands.rows stands.counters;
}
