-- The facts of a frame that passed.
use Rattle.rm_model.specs.Counting.{Counting}
use Rattle.rm_model.specs.Journal.{Frame}
use Rattle.rm_proto.specs.Facts.{facts_of}
use Rattle.rm_proto.specs.declared.known.Facts.{Facts}

-- the facts of a frame, on its interface, by what the probe was set to
abbrev pub frame_facts : Counting → Frame → Facts
frame_facts settings frame = record (facts_of frame.octets frame.original settings.keep_short) { interface = frame.interface }
