use Rattle.std.proofs.Common.{◌-◌, length}
use Rattle.rm_captures.specs.Left.{passed_of}
use Rattle.rm_captures.specs.Reading.{texts}
use Rattle.rm_probe.proofs.FrameLemmas.{Advancing}
use Rattle.rm_probe.proofs.replaying.Replaying.advance.Given as goal

abbrev pub invariant-loop-coming : goal.invariant-loop-coming
invariant-loop-coming g l = Advancing g.F.Shelf.held g.F.Shelf.faults l.initial.shelf l.shelf (texts l.names) g.N.Notes.since l.initial.notes l.notes (length l.names) l.moment
    l.initial.self.captures.items l.self.captures.items l.initial.self.probe l.self.probe

abbrev pub decreases-loop-coming : goal.decreases-loop-coming
decreases-loop-coming g l = 400000001 - passed_of l.self.captures.items
