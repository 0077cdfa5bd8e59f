use Rattle.rm_collect.proofs.Turning.{stands_turned}
use Rattle.rm_collect.proofs.turned.complete.Goals as goal

pub returns-clause-stands : goal.returns-clause-stands
returns-clause-stands g c settings journal other =
    stands_turned g.P.Columns.ControlRow.form g.P.Collected.collection c.collecting.view_is c.shared_by.result c.change_each.new.self c.change_each.ensures.parts settings journal
    (λ earlier suits. c.shared_by.ensures settings earlier journal suits other)
