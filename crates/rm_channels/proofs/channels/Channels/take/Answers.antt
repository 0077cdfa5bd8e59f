use Rattle.rm_channels.proofs.channels.Channels.take.Goals as goal

pub returns-clause-under_way : goal.returns-clause-under_way
returns-clause-under_way c settings act earlier some at under =
    record { channels = c.take.ensures.under_way settings act earlier some at under.channels; buffers = under.buffers }
