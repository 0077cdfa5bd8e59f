use Rattle.rm_collect.proofs.Standing.{still_stands, still_begun, still_well_held}
use Rattle.rm_collect.proofs.collecting.Collecting.give_back.Goals as goal

pub returns-clause-stands : goal.returns-clause-stands
returns-clause-stands g c = still_stands g.P.Columns.ControlRow.form g.P.Collected.collection c.self.view_is c.give_back.new.self c.give_back.ensures.parts

pub returns-clause-begun : goal.returns-clause-begun
returns-clause-begun g c = still_begun g.P.Columns.ControlRow.form g.P.Collected.collection c.self.view_is c.give_back.new.self c.give_back.ensures.parts

pub invariant_of-self : goal.invariant_of-self
invariant_of-self g c = still_well_held g.P.Columns.ControlRow.form g.P.Collected.collection c.self.view_is c.give_back.new.self c.give_back.ensures.parts c.self.invariant
