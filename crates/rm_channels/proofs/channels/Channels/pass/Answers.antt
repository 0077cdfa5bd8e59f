use Rattle.std.proofs.Common.{[]}
use Rattle.rm_capture.specs.Collection.{buffer_collection}
use Rattle.rm_channels.proofs.channels.Channels.pass.Goals as goal

pub returns-clause-begins : goal.returns-clause-begins
unfolding buffer_collection
returns-clause-begins c settings earlier frame of stands later =
    let under = c.pass.ensures.begins settings earlier frame of stands.first later tt in
    record {
      channels = under;
      buffers = c.take_judged.ensures.stands settings earlier frame stands.second of (c.accepting-accepting.ensures.accepting settings frame earlier [] under).on;
    }
