use Rattle.rm_group.proofs.Dues.{of_sooner}
use Rattle.rm_group.proofs.due.BothFallsDue.next_due.Goals as goal

pub returns : goal.returns
returns g c =
    of_sooner (g.G.FallsDue.falls_due c.args.self.now.first) (g.H.FallsDue.falls_due c.args.self.now.second) c.next_due.result c.next_due-2.result c.sooner.result
    c.sooner.ensures c.next_due.ensures c.next_due-2.ensures
