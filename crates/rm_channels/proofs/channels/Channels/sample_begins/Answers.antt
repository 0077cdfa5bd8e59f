use Rattle.rm_collect.specs.Sampled.{stands_sampled}
use Rattle.rm_filter.specs.Acts.{begun}
use Rattle.rm_capture.specs.BufferRows.{buffer_rows}
use Rattle.rm_capture.specs.Collection.{buffer_collection}
use Rattle.rm_capture.specs.Lawful.{buffer_lawful}
use Rattle.rm_channels.proofs.channels.Channels.sample_begins.Goals as goal

pub returns : goal.returns
returns c settings earlier alarm reading stands later =
    let groups = c.args.self.now.groups in
    record {
      channels = begun groups.first settings earlier c.args.moment alarm reading stands.first;
      buffers = stands_sampled buffer_rows buffer_collection buffer_lawful settings earlier c.args.moment alarm reading later groups.second stands.second;
    }
