use Rattle.std.proofs.Common.{[], ◌∷◌, sym, ◌∙◌}
use Rattle.rm_model.specs.Journal.{Journal, assigns}
use Rattle.rm_model.specs.ControlRows.{no_rows, set_value}
use Rattle.rm_acts.specs.Buffers.{buffer_table}
use Rattle.rm_capture.specs.BufferColumns.{channel_is, granted_is}
use Rattle.rm_capture.specs.TakingLaws.{kept_fresh}
use Rattle.rm_capture.specs.Collection.{buffer_collection}
use Rattle.rm_capture.proofs.buffers.BufferCollected.begin.Goals as goal

pub returns-clause-begun : goal.returns-clause-begun
unfolding buffer_collection
returns-clause-begun c settings values earlier row suits idle valid fresh =
    let journal : Journal = assigns c.args.now values ∷ earlier in
    let columns = c.args.columns.now in
    record {
      channel = c.restart.ensures.channel ∙ channel_is columns (set_value buffer_table no_rows journal (row ∷ [])) fresh.columns_are;
      granted = c.restart.ensures.granted ∙ granted_is columns (set_value buffer_table no_rows journal (row ∷ [])) fresh.columns_are;
      started = c.restart.ensures.started ∙ sym fresh.started;
      kept = kept_fresh settings row c.restart.new.self.captured columns journal fresh.columns_are fresh.unseen (c.restart.ensures.kept settings);
    }
