use Rattle.rm_capture.specs.Collection.{buffer_collection}
use Rattle.rm_channels.proofs.channels.Channels.new.Goals as goal

pub returns-clause-stands : goal.returns-clause-stands
unfolding buffer_collection
returns-clause-stands c settings = record { first = c.new.ensures settings; second = c.new-2.ensures.stands settings tt; tied = tt }
