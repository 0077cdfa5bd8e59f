use Rattle.rm_filter.specs.Acts.{ended}
use Rattle.rm_channels.proofs.channels.Channels.ends.Goals as goal

pub returns : goal.returns
returns c settings act earlier under =
    record { first = ended c.args.self.now.groups.first settings act earlier under.channels; second = under.buffers; tied = tt }
