use Rattle.std.proofs.Common.{◌≡◌, rules}
use Rattle.rm_edge.specs.Outside.{one_more}
use Rattle.rm_edge.specs.ListClock.{moment_after}
use Rattle.rm_edge.proofs.Moments.{tells-one_more}
use Rattle.rm_edge.proofs.memory.clock.ListClockClock.now.Goals as goal

pub returns-clause-told : goal.returns-clause-told
returns-clause-told c =
    let counted : c.saturating_add-self-inside.result ≡ one_more c.self.inside.calls = search rules in
    let moment : c.moment_of-moment.result ≡ moment_after c.self.inside.moments.items c.self.inside.calls = search rules in
    rw (← c.self.view_is, counted) (tells-one_more (record { moments = c.self.inside.moments.items; calls = c.self.inside.calls; next = c.self.inside.next }) _ moment)
