use Rattle.std.proofs.Common.{◌≡◌, ◌-◌, List, None, length}
use Rattle.rm_captures.specs.Reading.{texts}
use Rattle.rm_requests.specs.Reading.{reached_of}
use Rattle.rm_probe.specs.Probe.{settings_of}
use Rattle.rm_probe.specs.Said.{Said, SaysMore}
use Rattle.rm_probe.proofs.RunLemmas.{Running}
use Rattle.rm_probe.proofs.replaying.Replaying.write_lines.Given as goal

abbrev pub invariant-loop-asked : goal.invariant-loop-asked
invariant-loop-asked g l = (said : List Said)
    × Running (settings_of l.initial.self.probe) g.F.Shelf.held g.F.Shelf.faults l.initial.shelf l.shelf (texts l.names) l.requests (length l.names) l.initial.self.captures.items l.self.captures.items (reached_of l.reader) l.self.probe said
    × SaysMore g.O.Notes.since l.initial.out l.out said × (g.O.Outlet.failed l.out ≡ None)

abbrev pub decreases-loop-asked : goal.decreases-loop-asked
decreases-loop-asked g l = 1000001 - (reached_of l.reader).number
