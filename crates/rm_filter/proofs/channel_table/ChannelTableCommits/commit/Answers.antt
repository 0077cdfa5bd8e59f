use Rattle.rm_model.specs.ControlRows.{no_rows}
use Rattle.rm_status.proofs.Committed.{IsCommitted}
use Rattle.rm_filter.specs.ChannelForm.{channel_form}
use Rattle.rm_filter.proofs.Assigned.{rows_with_set, present_with_set}
use Rattle.rm_filter.proofs.channel_table.ChannelTableCommits.commit.Goals as goal

pub returns-clause-stands : goal.returns-clause-stands
returns-clause-stands g c settings journal values stands later askable gives =
    let bs = g.A.Assigns.bindings c.args.set.now in
    let set : IsCommitted channel_form no_rows journal values bs c.args.self.now.rows c.commit.new.self =
    record { gives = gives; fine = c.requires.ready; held = c.len.ensures.rows; stood = stands.rows; after = c.commit.ensures } in
    record {
      rows = rows_with_set settings journal c.args._now bs values c.args.self.now.rows c.commit.new.self c.change_each.new.self set c.change_each.ensures stands.present;
      present = present_with_set settings journal c.args._now bs values c.args.self.now.rows c.commit.new.self c.change_each.new.self set c.change_each.ensures stands.present;
    }
