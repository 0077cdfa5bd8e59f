use Rattle.std.proofs.Common.{◌≡◌, ◌≤◌, ◌-◌, List, length}
use Rattle.rm_edge.specs.Uses.{clock_use, link_use, sink_use}
use Rattle.rm_captures.specs.Reading.{texts}
use Rattle.rm_probe.specs.Probe.{settings_of}
use Rattle.rm_probe.specs.Said.{Said}
use Rattle.rm_probe.specs.Serving.{Arrival}
use Rattle.rm_probe.specs.Turns.{room}
use Rattle.rm_probe.proofs.ServingLemmas.{HasRun}
use Rattle.rm_probe.proofs.serving.Serving.serve_all.Given as goal

abbrev pub invariant-loop-number : goal.invariant-loop-number
invariant-loop-number g l = (arrivals : List Arrival) × (said : List Said)
    × HasRun (settings_of l.initial.self.replaying.probe) g.F.Shelf.held g.F.Shelf.faults l.initial.shelf l.shelf (texts l.names) (length l.names) l.initial.self.manager
    (sink_use g.K.Sink.content g.K.Sink.faults l.initial.out l.out) (link_use g.L.Link.bound g.L.Link.received g.L.Link.sent g.L.Link.faults l.initial.link l.link) (clock_use g.T.Clock.told l.initial.clock l.clock)
    l.initial.self.replaying.captures.items l.self.replaying.captures.items l.self.replaying.probe l.number l.self.last arrivals said
    × (length l.self.datagram.items ≡ room) × (l.self.manager ≡ l.initial.self.manager) × (l.number ≤ l.count)

abbrev pub decreases-loop-number : goal.decreases-loop-number
decreases-loop-number g l = l.count - l.number
