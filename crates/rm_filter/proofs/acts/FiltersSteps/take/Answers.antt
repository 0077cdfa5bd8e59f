use Rattle.rm_acts.specs.Fired.{fired}
use Rattle.rm_filter.proofs.Turned.{rows_with_firing, present_with_firing}
use Rattle.rm_filter.proofs.acts.FiltersSteps.take.Goals as goal

pub returns-clause-under_way : goal.returns-clause-under_way
returns-clause-under_way c settings act earlier some at under = record {
  unset = under.unset;
  filter_rows = under.filter_rows;
  channel_rows = rows_with_firing settings act earlier some (fired settings earlier) c.args.firing.now c.args.self.now.tables.second.rows c.change_each.new.self c.change_each.ensures under.channel_rows under.present;
  present = present_with_firing settings act earlier some (fired settings earlier) c.args.firing.now c.args.self.now.tables.second.rows c.change_each.new.self c.change_each.ensures under.channel_rows under.present;
  accepting = under.accepting;
}
