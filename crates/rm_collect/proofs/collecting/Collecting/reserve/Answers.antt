use Rattle.rm_collect.proofs.Standing.{still_stands}
use Rattle.rm_collect.proofs.collecting.Collecting.reserve.Goals as goal

pub returns-clause-stands : goal.returns-clause-stands
returns-clause-stands g c = still_stands g.P.Columns.ControlRow.form g.P.Collected.collection c.self.view_is c.reserve.new.self c.reserve.ensures.parts
